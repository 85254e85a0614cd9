-- A tier without entries: none of its slots is full, it holds nothing, and its chunks are clear.
use Prim.Native.Nat.{ℕ, zero, suc, ◌≤◌}
use mathlib.Core.List.Memᴰ
use mathlib.Core.List.{List, [], ◌∷◌, Memᴰ}
use mathlib.Core.Path.{◌≡◌, refl, ap, sym, ◌∙◌, subst}
use mathlib.Core.Logic.{⊎_elim, ◌≢◌}
use native.Mathlib.Omega.{arith}
use lib.ListN.{length}
use Rattle.lists.specs.Cases.{same_or}
use Rattle.lists.specs.Lists.{those, how_many}
use Rattle.lists.specs.Quantify.{Below}
use Rattle.layout.specs.declared.Shape.{Shape}
use Rattle.layout.specs.Places.{mark}
use Rattle.probe.specs.Table.{slot_total}
use Rattle.entries.specs.Live.{slot_at, full_slots, live_in}
use Rattle.entries.specs.Pairs.{Pair}
use Rattle.entries.proofs.LiveLists.{in_full_slots}
use Rattle.search.specs.Search.{slots_of}
use Rattle.chunks.specs.Chunks.{covers, MarksFit, FreeTierFits}
use Rattle.sound.proofs.Values.{if_full, weigh}
use Rattle.sound.proofs.Sums.{full-total}

no-members : {A : Type 0} (xs : List A) → length xs ≡ 0 → xs ≡ []
no-members [] e = refl
no-members (x ∷ xs) e = absurd (omega arith)

module _ (z : Shape) (img : List ℕ) (t : ℕ) where
  -- ---- where no slot is full

  module _ (empty : Below z.settings.slots (λ j. slot_at z img t j ≡ 0)) where
    -- a sum over empty slots
    table_empty : (f : ℕ → ℕ) (n : ℕ) → n ≤ z.settings.slots → slot_total (slots_of z t) (if_full f) img n ≡ 0
    unfolding slot_total if_full
    table_empty f zero h = refl
    table_empty f (suc n) h =
        let q : if_full f (slot_at z img t n) ≡ 0 = ap (if_full f) (empty n (omega arith)) in
        omega (arith, q, table_empty f n (omega arith))

    pub empty-none : length (full_slots z img t) ≡ 0
    empty-none = full-total z img t ∙ table_empty (λ v. 1) z.settings.slots (omega arith)

    pub empty-weigh : (F : Pair → ℕ) → weigh z img F t ≡ 0
    unfolding weigh
    empty-weigh F = table_empty _ z.settings.slots (omega arith)

  -- ---- where the list of the full ones has no member

  module _ (none : length (full_slots z img t) ≡ 0) where
    pub none-slots : Below z.settings.slots (λ j. slot_at z img t j ≡ 0)
    none-slots j h =
        ⊎_elim
        (λ (e : slot_at z img t j ≡ 0). e)
        (λ (ne : slot_at z img t j ≢ 0).
        absurd (Memᴰ.not-nil (subst (Memᴰ j) (no-members (full_slots z img t) none) (in_full_slots z img t j h ne))))
        (same_or (slot_at z img t j) 0)

    pub none-covers : (s i : ℕ) → how_many (live_in z img s t) (covers i) ≡ 0
    unfolding live_in those
    none-covers s i = rw (no-members (full_slots z img t) none)

    pub none-clear : (s : ℕ) → MarksFit z img s t → Below z.settings.chunks (λ i. mark z img t i ≡ 0)
    none-clear s f i h = sym (f i h) ∙ none-covers s i

    -- it fits as a free tier
    pub none_free : (s : ℕ) → MarksFit z img s t → FreeTierFits z img t
    none_free s f = record { slots_empty = none-slots; chunks_clear = none-clear s f }
