-- Which numbers the slots of a tier hold after a removal, and the sums over them.
use Prim.Native.Nat.{ℕ, ◌+◌, ◌≤◌, ◌<◌}
use mathlib.Core.List.{List}
use mathlib.Core.Path.{◌≡◌, refl, ap, sym, ◌∙◌}
use mathlib.Core.Logic.{⊎_elim, ◌≢◌}
use native.Mathlib.Omega.{arith}
use Rattle.lists.specs.Cases.{same_or}
use Rattle.layout.specs.declared.Shape.{Shape}
use Rattle.layout.specs.Tiers.{IsTier}
use Rattle.layout.specs.Frame.{Image}
use Rattle.probe.specs.Table.{Empty, Good, slot_total}
use Rattle.probe.specs.Counting.{one_at}
use Rattle.probe.proofs.Table.{Lawful, slot_total-has, slot_total-found, slot_total-two, slot_total-once}
use Rattle.probe.proofs.Removal.{Removed, removed}
use Rattle.probe.proofs.Has.{one_at_same, one_at_pos, removed-empty}
use Rattle.entries.specs.Live.{slot_at, chunk_of}
use Rattle.search.specs.Search.{slots_of}
use Rattle.search.specs.Rules.{chunks_at, SomeEmpty, TierSlotsFit}
use Rattle.search.proofs.Landing.{good}
use Rattle.sound.proofs.Values.{if_full, full_is, empty-is}
use Rattle.sound.proofs.Sums.{table_same}
use Rattle.search.proofs.Slots.{slots-lawful}
use Rattle.removal.specs.Removal.{remove_at}
use Rattle.removal.proofs.Slots.{cleared, cleared-image, cleared-slot}

-- 1 where a full slot holds v
abbrev is-it : ℕ → ℕ → ℕ
is-it v = if_full (one_at v)

is-it-same : (v x : ℕ) → v ≢ 0 → x ≡ v → is-it v x ≡ 1
is-it-same v x ne e = ap (is-it v) e ∙ full_is (one_at v) v ne ∙ one_at_same v

is-it-pos : (v x : ℕ) → 0 < is-it v x → x ≡ v
is-it-pos v x h =
    ⊎_elim
    (λ (e : x ≡ 0). absurd (omega (arith, ap (is-it v) e, empty-is (one_at v) 0 refl)))
    (λ (e : x ≢ 0). one_at_pos v x (omega (arith, full_is (one_at v) x e)))
    (same_or x 0)

is-it-small : (v x : ℕ) → v ≢ 0 → is-it v x ≤ 1
is-it-small v x ne =
    ⊎_elim
    (λ (e : is-it v x ≡ 0). omega arith)
    (λ (e : is-it v x ≢ 0). omega (arith, is-it-same v x ne (is-it-pos v x (omega arith))))
    (same_or (is-it v x) 0)

-- the full slot j of tier t in segment s's chain, with the n chunks from c on
pub record Removable (z : Shape) (img : List ℕ) (s t j c n : ℕ) : Type 0 where
  pub image : Image z img
  pub tier_is : IsTier z t
  pub slot_in : j < z.settings.slots
  pub full : slot_at z img t j ≢ 0
  pub fits : TierSlotsFit z img s t
  pub chunk_is : c ≡ chunk_of z img t j
  pub chunks_is : n ≡ chunks_at z img t j

module _ {z : Shape} {img : List ℕ} {s t j c n : ℕ} (w : Removable z img s t j c n) where
  open z use {settings}
  open settings use {slots, chunks}

  pub range_in : c + n ≤ chunks
  range_in = omega (arith, (w.fits.slots_fit.full j w.slot_in w.full).range_ends, w.chunk_is, w.chunks_is)

  abbrev old : List ℕ
  old = cleared z img t c n

  abbrev new : List ℕ
  new = remove_at z img t j c n

  slot_kept : (k : ℕ) → k < slots → slot_at z old t k ≡ slot_at z img t k
  slot_kept = cleared-slot w.image t w.tier_is j c n w.slot_in range_in

  old-good : Good (slots_of z t) old
  old-good i k hi hk fi on e =
      let same : slot_at z old t i ≡ slot_at z img t i = slot_kept i hi in
      good z img w.image t w.tier_is w.fits.slots_fit.some_empty w.fits.reached i k hi hk (rw same at fi) (rw same at on)
      (sym (slot_kept k hk) ∙ e)

  abbrev law : Lawful (slots_of z t)
  law = slots-lawful w.image.framed t w.tier_is

  gone : Removed (slots_of z t) law old j new
  unfolding slots-lawful remove_at
  gone =
      let some : SomeEmpty z img t = w.fits.slots_fit.some_empty in
      removed (slots_of z t) law old j some.0
      (cleared-image w.image t w.tier_is j c n w.slot_in range_in) old-good w.slot_in (λ e. w.full (sym (slot_kept j w.slot_in) ∙ e))
      (record { lt = some.1.0; free = slot_kept some.0 some.1.0 ∙ some.1.1 })

  -- what is known of every sum
  pub sums : (f : ℕ → ℕ) → slot_total (slots_of z t) (if_full f) new slots + f (slot_at z img t j) ≡ slot_total (slots_of z t) (if_full f) img slots
  sums f =
      omega (
        arith,
        gone.totals (if_full f),
        empty-is f 0 refl,
        ap (if_full f) (slot_kept j w.slot_in),
        full_is f (slot_at z img t j) w.full,
        table_same z t img old f f slot_kept (λ k hk fk. refl),
      )

  pub new-empty : SomeEmpty z new t
  new-empty =
      let r : (e : ℕ) × Empty (slots_of z t) new e = removed-empty (slots_of z t) law old new j gone (λ e. w.full (sym (slot_kept j w.slot_in) ∙ e)) in
      (r.0, (r.1.lt, r.1.free))

  pub new-good : Good (slots_of z t) new
  new-good = gone.good

  -- the number of a full slot stood in a slot before
  pub stood : (k : ℕ) → k < slots → slot_at z new t k ≢ 0 → (i : ℕ) × (i < slots) × (slot_at z new t k ≡ slot_at z img t i)
  stood k hk fk =
      let v : ℕ = slot_at z new t k in
      let there : 0 < slot_total (slots_of z t) (is-it v) new slots =
      omega (arith, slot_total-has (slots_of z t) (is-it v) new slots k hk, is-it-same v v fk refl) in
      let r : (i : ℕ) × (i < slots) × (0 < is-it v (slot_at z img t i)) =
      slot_total-found (slots_of z t) (is-it v) img slots (omega (arith, sums (one_at v))) in
      (r.0, r.1, sym (is-it-pos v (slot_at z img t r.0) r.2))

  -- a number that stood in one slot only stands in one slot only
  pub stood-once : (v : ℕ) → v ≢ 0 → ((a b : ℕ) → a < slots → b < slots → slot_at z img t a ≡ v → slot_at z img t b ≡ v → a ≡ b)
      → (i k : ℕ) → i < slots → k < slots → slot_at z new t i ≡ v → slot_at z new t k ≡ v → i ≡ k
  stood-once v ne one i k hi hk ei ek =
      ⊎_elim
      (λ (e : i ≡ k). e)
      (λ (e : i ≢ k).
      let few : slot_total (slots_of z t) (is-it v) img slots ≤ 1 =
      slot_total-once (slots_of z t) (is-it v) img slots (λ x. is-it-small v x ne) (λ a b ha hb fa fb. one a b ha hb (is-it-pos v _ fa) (is-it-pos v _ fb)) in
      absurd (omega (arith, slot_total-two (slots_of z t) (is-it v) new slots i k hi hk e, is-it-same v _ ne ei, is-it-same v _ ne ek, sums (one_at v), few)))
      (same_or i k)
