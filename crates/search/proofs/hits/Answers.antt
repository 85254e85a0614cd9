use mathlib.Core.Path.{sym, ◌∙◌}
use Rattle.entries.proofs.Whole.{whole-sound, key_in_image}
use Rattle.search.proofs.Seeking.{hits-differs, hits-broken, hits-whole}
use Rattle.search.proofs.hits.Goals as goal

pub returns-then-slot_key-lookup : goal.returns-then-slot_key-lookup
returns-then-slot_key-lookup c =
    sym (hits-differs c.args.z c.args.img.now c.args.key.now c.args.t c.args.v c.args.lookup
    c.requires.lookup_is (λ q. c.if-slot_key-lookup.true (c.slot_key.ensures ∙ q)))

pub returns-in_default : goal.returns-in_default
returns-in_default c =
    c.same_key.ensures ∙ hits-broken c.args.z c.args.img.now c.args.key.now c.args.t c.args.v
    c.args.lookup c.slot_chunk.result c.requires.lookup_is (sym c.slot_key.ensures ∙ c.if-slot_key-lookup.false) c.slot_chunk.ensures
    (sym c.stored.ensures ∙ c.in_default.is)

pub same_key-requires-2 : goal.same_key-requires-2
same_key-requires-2 c =
    key_in_image c.args.z c.args.img.now c.args.t _
    (whole-sound c.args.z c.args.img.now c.args.t _ _ (sym c.stored.ensures ∙ c.in-Some.is))
    c.requires.tier.framed c.requires.tier.tier_in

pub returns : goal.returns
returns c =
    c.same_key-2.ensures ∙ hits-whole c.args.z c.args.img.now c.args.key.now c.args.t c.args.v
    c.args.lookup c.slot_chunk.result c.requires.lookup_is (sym c.slot_key.ensures ∙ c.if-slot_key-lookup.false) c.slot_chunk.ensures _
    (sym c.stored.ensures ∙ c.in-Some.is)
