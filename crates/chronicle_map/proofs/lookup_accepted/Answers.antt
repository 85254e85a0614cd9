use Rattle.edit.proofs.Replacing.{sound-framed, sound-tiers, old_in}
use Rattle.chronicle_map.proofs.Calling.{looked-none, looked-found}
use Rattle.chronicle_map.proofs.lookup_accepted.Goals as goal

pub search-requires : goal.search-requires
search-requires c =
    record {
      framed = sound-framed c.args.z c.args.img.now c.requires;
      chain_tiers = sound-tiers c.args.z c.args.img.now c.requires;
    }

pub entry_at-e-requires : goal.entry_at-e-requires
entry_at-e-requires c =
    let at = old_in c.args.z c.args.img.now c.requires c.args.key.now c.search.result c.search.ensures c.in-At.t c.in-At.j c.in-At.is in
    record { tier = record { framed = sound-framed c.args.z c.args.img.now c.requires; tier_in = at.0 }; slot_in = at.1 }

pub returns-in-Absent : goal.returns-in-Absent
returns-in-Absent c =
    looked-none c.args.z c.args.img.now c.requires c.args.key.now c.search.result c.search.ensures
    c.in-Absent.t c.in-Absent.j c.in-Absent.is

pub returns-in-At : goal.returns-in-At
returns-in-At c =
    looked-found c.args.z c.args.img.now c.requires c.args.key.now c.search.result c.search.ensures
    c.in-At.t c.in-At.j c.in-At.is c.entry_at-e.ensures
