use mathlib.Core.Path.{ap, sym, ◌∙◌}
use Rattle.entries.specs.Stored.{entry_of}
use Rattle.entries.proofs.Whole.{whole-sound, key_in_image}
use Rattle.walk.proofs.Testing.{slot-other, slot-broken, slot_same, slot-differs, say_broken, say_whole}
use Rattle.walk.proofs.at_slot.Goals as goal

pub returns-then-slot_key-lookup : goal.returns-then-slot_key-lookup
returns-then-slot_key-lookup c =
    slot-other c.args.z c.args.img.now c.args.key.now c.args.t c.args.v c.args.lookup c.requires.lookup_is
    (λ q. c.if-slot_key-lookup.true (c.slot_key.ensures ∙ q))

pub returns-in_default : goal.returns-in_default
returns-in_default c =
    slot-broken c.args.z c.args.img.now c.args.key.now c.args.t c.args.v c.args.lookup c.requires.lookup_is
    (sym c.slot_key.ensures ∙ c.if-slot_key-lookup.false) c.slot_chunk.result c.slot_chunk.ensures
    (say_broken c.args.z c.args.img.now c.args.t c.slot_chunk.result c.tested_entry.result c.tested_entry.ensures c.in_default.is)

pub same_key-requires : goal.same_key-requires
same_key-requires c =
    let said = say_whole c.args.z c.args.img.now c.args.t c.slot_chunk.result c.tested_entry.result c.tested_entry.ensures _ c.in-Some.is in
    key_in_image c.args.z c.args.img.now c.args.t _
    (whole-sound c.args.z c.args.img.now c.args.t _ _ said.0) c.requires.tier.framed c.requires.tier.tier_in

pub returns-then-same_key : goal.returns-then-same_key
returns-then-same_key c =
    let said = say_whole c.args.z c.args.img.now c.args.t c.slot_chunk.result c.tested_entry.result c.tested_entry.ensures _ c.in-Some.is in
    slot_same c.args.z c.args.img.now c.args.key.now c.args.t c.args.v c.args.lookup c.requires.lookup_is
    (sym c.slot_key.ensures ∙ c.if-slot_key-lookup.false) c.slot_chunk.result c.slot_chunk.ensures (ap entry_of said.0) said.1
    (sym c.same_key.ensures ∙ c.if-same_key.true)

pub returns : goal.returns
returns c =
    let said = say_whole c.args.z c.args.img.now c.args.t c.slot_chunk.result c.tested_entry.result c.tested_entry.ensures _ c.in-Some.is in
    slot-differs c.args.z c.args.img.now c.args.key.now c.args.t c.args.v c.args.lookup c.requires.lookup_is
    (sym c.slot_key.ensures ∙ c.if-slot_key-lookup.false) c.slot_chunk.result c.slot_chunk.ensures (ap entry_of said.0) said.1
    (sym c.same_key.ensures ∙ c.if-same_key.false)
