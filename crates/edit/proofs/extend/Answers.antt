use mathlib.Core.Path.{◌∙◌}
use Rattle.sound.proofs.Framing.{framed-again}
use Rattle.edit.proofs.Replacing.{tiers_in, settled_by, extended-is}
use Rattle.edit.proofs.extend.Goals as goal

pub settle-requires : goal.settle-requires
settle-requires c =
    record {
      framed = framed-again (c.place_at.auto.img ∙ c.join.auto.img ∙ c.remove_old.auto.img) c.requires.framed;
      tier_in = c.requires.places.write.tier.tier_in;
      other_in = rw c.old_tier.ensures (tiers_in c.args.z _ c.requires.old_fits);
    }

pub returns : goal.returns
returns c =
    extended-is c.args.z c.args.img.now c.args.old c.args.s c.args.t c.args.key.now
    c.args.value.now c.remove_old.ensures c.join.ensures c.place_at.ensures
    (settled_by _ _ _ _ c.old_tier.ensures c.settle.ensures)
