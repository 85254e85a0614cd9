use mathlib.Core.Path.{sym, ap, ◌∙◌}
use Rattle.entries.specs.Keys.{segment_of, segment_of_hash, lookup_key, lookup_of_hash}
use Rattle.search.proofs.Fitting.{key-cut}
use Rattle.xxh64.specs.Hash.{xxh64 as hash}
use Rattle.search.proofs.rules.hash_agrees.Goals as goal

pub returns-then-segment_of_hash-s : goal.returns-then-segment_of_hash-s
unfolding segment_of lookup_key
returns-then-segment_of_hash-s c =
    λ f. c.if-segment_of_hash-s.true (c.segment_of_hash.ensures.0 ∙ ap (segment_of_hash c.args.z.settings)
    (c.xxh64-h.ensures ∙ ap hash (key-cut c.args.img.now c.args.e.keyAt c.args.e.keyLength)) ∙ f.segment_agrees)

pub returns-then-lookup_of_hash-slot_key : goal.returns-then-lookup_of_hash-slot_key
unfolding segment_of lookup_key
returns-then-lookup_of_hash-slot_key c =
    λ f. c.if-lookup_of_hash-slot_key.true (c.lookup_of_hash.ensures.0 ∙ ap (lookup_of_hash c.args.z.settings)
    (c.xxh64-h.ensures ∙ ap hash (key-cut c.args.img.now c.args.e.keyAt c.args.e.keyLength)) ∙ f.lookup_agrees ∙ sym
    c.slot_key.ensures)

pub returns : goal.returns
unfolding segment_of lookup_key
returns c =
    record {
      segment_agrees = sym (c.segment_of_hash.ensures.0 ∙ ap (segment_of_hash c.args.z.settings)
          (c.xxh64-h.ensures ∙ ap hash (key-cut c.args.img.now c.args.e.keyAt c.args.e.keyLength))) ∙ c.if-segment_of_hash-s.false;
      lookup_agrees = sym (c.lookup_of_hash.ensures.0 ∙ ap (lookup_of_hash c.args.z.settings)
          (c.xxh64-h.ensures ∙ ap hash (key-cut c.args.img.now c.args.e.keyAt c.args.e.keyLength)))
          ∙ c.if-lookup_of_hash-slot_key.false ∙ c.slot_key.ensures;
    }
