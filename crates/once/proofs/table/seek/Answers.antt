use Prim.Native.Nat.{ℕ, ◌+◌, ◌-◌}
use mathlib.Core.Path.{◌≡◌, refl, sym, ap, ◌∙◌}
use native.Mathlib.Omega.{arith}
use lib.ListN.{length}
use Rattle.probe.specs.Ring.{next}
use Rattle.probe.specs.Search.{seek}
use Rattle.probe.proofs.Seeking.{seek-starts, seek-empty, seek_found, seek-turns, seek-out}
use Rattle.once.specs.Refs.{ref_table, meant, seek_ref}
use Rattle.once.proofs.Refs.{search-start}
use Rattle.once.proofs.table.seek.Goals as goal

pub number_at-number-requires : goal.number_at-number-requires
number_at-number-requires c = record { slot = c.requires.slot; holds = c.slot.ensures }

pub place_of-requires : goal.place_of-requires
place_of-requires c = (c.requires.few, c.requires.places.power)

pub loop-init : goal.loop-init
loop-init c =
    let all : length c.args.table.now - 0 ≡ length c.args.table.now = omega arith in (
      λ by. rw all (seek-starts (ref_table c.args.z c.args.img.now by (length c.args.table.now)) (meant c.args.z c.args.img.now (c.args.t, c.args.j))
          c.args.table.now _ c.place_of.result refl c.place_of.ensures.1),
      refl,
    )

pub offset_bounds-table-at : goal.offset_bounds-table-at
offset_bounds-table-at c = omega (arith, (c.loop.invariant.0 c.args.by).lt, c.requires.places.few)

pub bounds-table-at : goal.bounds-table-at
bounds-table-at c = (c.loop.invariant.0 c.args.by).lt

pub overflow_cast-w : goal.overflow_cast-w
overflow_cast-w c = omega (arith, c.type_inv.table c.loop.cursor.slot)

pub returns-then-w-eq0 : goal.returns-then-w-eq0
unfolding seek_ref
returns-then-w-eq0 c =
    let w = c.loop.invariant.0 c.args.by in
    let from = search-start c.args.z c.args.img.now c.args.by (c.args.t, c.args.j) c.requires.slot.slot.slot_in (length c.args.table.now)
    c.number_at-number.ensures c.place_of.ensures.0 in
    (seek-empty _ _ _ _ w _ refl c.if-w-eq0.true ∙ ap (seek _ _ _) from, w.lt)

pub refers_to_key-requires : goal.refers_to_key-requires
refers_to_key-requires c =
    record { slot = c.requires.slot; other = c.requires.refers c.loop.cursor.slot (c.loop.invariant.0 c.args.by).lt c.if-w-eq0.false }

pub returns-then-refers_to_key : goal.returns-then-refers_to_key
unfolding seek_ref
returns-then-refers_to_key c =
    let w = c.loop.invariant.0 c.args.by in
    let from = search-start c.args.z c.args.img.now c.args.by (c.args.t, c.args.j) c.requires.slot.slot.slot_in (length c.args.table.now)
    c.number_at-number.ensures c.place_of.ensures.0 in
    (seek_found _ _ _ _ w _ refl (sym c.refers_to_key.ensures ∙ c.if-refers_to_key.true) ∙ ap (seek _ _ _) from, w.lt)

pub step-cursor-requires : goal.step-cursor-requires
step-cursor-requires c = omega (arith, (c.loop.invariant.0 c.args.by).lt, c.loop.invariant.1)

pub loop-preserved : goal.loop-preserved
loop-preserved c =
    let rest : length c.args.table.now - (c.loop.counter + 1) ≡ length c.args.table.now - c.loop.counter - 1 = omega arith in
    let next-is = c.step-cursor.ensures.0 ∙ ap (λ (n : ℕ). next n c.loop.cursor.slot) c.loop.invariant.1 in (
      λ by. rw rest (seek-turns _ _ _ _ (c.loop.invariant.0 by) _ refl c.requires.places.two c.if-w-eq0.false
          (sym c.refers_to_key.ensures ∙ c.if-refers_to_key.false)
          (omega arith) c.step-cursor.result.slot next-is),
      c.step-cursor.ensures.1 ∙ c.loop.invariant.1,
    )

pub returns : goal.returns
unfolding seek_ref
returns c =
    let w = c.loop.invariant.0 c.args.by in
    let from = search-start c.args.z c.args.img.now c.args.by (c.args.t, c.args.j) c.requires.slot.slot.slot_in (length c.args.table.now)
    c.number_at-number.ensures c.place_of.ensures.0 in
    (seek-out _ _ _ _ w (omega arith) ∙ ap (seek _ _ _) from, w.lt)
