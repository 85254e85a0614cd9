use Rattle.search.proofs.Fitting.{fits-broken, too_far, hash-wrong, entry-right, entry-says, held, key-taken, held-inside, key-wrong, value-wrong}
use Rattle.entries.proofs.Sizes.{size-broken, size-told}
use Rattle.entries.specs.Keys.{KeyFits}
use Rattle.lists.proofs.Decides.{decided_true, decided-false}
use mathlib.Core.Path.{sym, ◌∙◌, subst}
use native.Mathlib.Omega.{arith}
use Rattle.search.proofs.rules.entry_fits.Goals as goal

pub returns-in_err-e : goal.returns-in_err-e
returns-in_err-e c = rw c.from_residual.ensures (fits-broken c.slot-v.ensures c.slot_chunk-c.ensures (sym c.stored.ensures ∙ c.in_err-e.was))

pub overflow_add-to : goal.overflow_add-to
overflow_add-to c =
    let h = held c.slot-v.ensures c.slot_chunk-c.ensures c.stored.ensures c.in_ok-e.was in
    omega (arith, held-inside h c.requires.tier, c.requires.tier.framed.small)

pub slice_bounds-key_fits-end : goal.slice_bounds-key_fits-end
slice_bounds-key_fits-end c = held-inside (held c.slot-v.ensures c.slot_chunk-c.ensures c.stored.ensures c.in_ok-e.was) c.requires.tier

pub returns-then-not-key_fits : goal.returns-then-not-key_fits
returns-then-not-key_fits c =
    let h = held c.slot-v.ensures c.slot_chunk-c.ensures c.stored.ensures c.in_ok-e.was in
    key-wrong h (key-taken h)
    (decided-false c.key_fits.result c.key_fits.ensures c.if-not-key_fits.true)

pub returns-in_err-n : goal.returns-in_err-n
returns-in_err-n c =
    rw c.from_residual-in_err-n.ensures
    (value-wrong (held c.slot-v.ensures c.slot_chunk-c.ensures c.stored.ensures c.in_ok-e.was) (size-broken c.value_fits.ensures c.in_err-n.was))

pub returns-then-st-c : goal.returns-then-st-c
returns-then-st-c c =
    too_far (held c.slot-v.ensures c.slot_chunk-c.ensures c.stored.ensures c.in_ok-e.was)
    (size-told c.value_fits.ensures c.in_ok-n.was).1 c.if-st-c.true

pub returns-then-not-hash_agrees : goal.returns-then-not-hash_agrees
returns-then-not-hash_agrees c =
    hash-wrong (held c.slot-v.ensures c.slot_chunk-c.ensures c.stored.ensures c.in_ok-e.was)
    (decided-false c.hash_agrees.result c.hash_agrees.ensures c.if-not-hash_agrees.true)

pub returns : goal.returns
returns c =
    let h = held c.slot-v.ensures c.slot_chunk-c.ensures c.stored.ensures c.in_ok-e.was in
    let size = size-told c.value_fits.ensures c.in_ok-n.was in
    let key = decided_true c.key_fits.result c.key_fits.ensures c.if-not-key_fits.false in
    let hash = decided_true c.hash_agrees.result c.hash_agrees.ensures c.if-not-hash_agrees.false in
    entry-says h size.1
    (entry-right h (sym c.slot_rest.ensures ∙ c.if-slot_rest-ne0.false) (subst (KeyFits c.args.z.settings) (key-taken h) key) size.0 size.1
    c.if-st-c.false hash)
