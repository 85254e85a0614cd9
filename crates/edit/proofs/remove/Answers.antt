use Rattle.sound.proofs.Framing.{framed-again}
use Rattle.edit.proofs.Replacing.{sound-framed, some-fits, removes-none, removes-leaves, removes-some}
use Rattle.edit.proofs.remove.Goals as goal

pub returns-in_default : goal.returns-in_default
returns-in_default c = removes-none c.args.z c.args.img.now c.requires c.args.key.now c.old_entry.result c.old_entry.ensures c.in_default.is

pub remove_old-requires : goal.remove_old-requires
remove_old-requires c = (
  sound-framed c.args.z c.args.img.now c.requires,
  some-fits c.args.z c.args.img.now c.requires c.args.key.now c.old_entry.result c.old_entry.ensures c.in-Some.old c.in-Some.is,
)

pub recount-requires : goal.recount-requires
recount-requires c = (
  framed-again c.remove_old.auto.img (sound-framed c.args.z c.args.img.now c.requires),
  (some-fits c.args.z c.args.img.now c.requires c.args.key.now c.old_entry.result c.old_entry.ensures c.in-Some.old c.in-Some.is).tier_in,
)

pub unlink_empty-requires : goal.unlink_empty-requires
unlink_empty-requires c =
    removes-leaves c.args.z c.args.img.now c.requires c.args.key.now c.old_entry.result c.old_entry.ensures c.in-Some.old c.in-Some.is
    c.remove_old.ensures c.recount.ensures

pub returns : goal.returns
returns c =
    removes-some c.args.z c.args.img.now c.requires c.args.key.now c.old_entry.result c.old_entry.ensures c.in-Some.old c.in-Some.is
    c.remove_old.ensures c.recount.ensures c.unlink_empty.ensures
