use Rattle.edit.proofs.Replacing.{sound-framed, sound-tiers, old-absent, old_in, old-found}
use Rattle.edit.proofs.old_entry.Goals as goal

pub search-requires : goal.search-requires
search-requires c =
    record {
      framed = sound-framed c.args.z c.args.img.now c.requires;
      chain_tiers = sound-tiers c.args.z c.args.img.now c.requires;
    }

pub returns-in_default : goal.returns-in_default
returns-in_default c =
    old-absent c.args.z c.args.img.now c.requires c.args.key.now c.search.result c.search.ensures
    c.in_default.field-0 c.in_default.field-1 c.in_default.is

pub at-requires : goal.at-requires
at-requires c =
    let i =
    old_in c.args.z c.args.img.now c.requires c.args.key.now c.search.result c.search.ensures
    c.in-At.t c.in-At.j c.in-At.is in
    record { tier = record { framed = sound-framed c.args.z c.args.img.now c.requires; tier_in = i.0 }; slot_in = i.1 }

pub returns : goal.returns
returns c =
    old-found c.args.z c.args.img.now c.requires c.args.key.now c.search.result c.search.ensures
    c.in-At.t c.in-At.j c.in-At.is c.at.ensures
