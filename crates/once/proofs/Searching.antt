-- What the loops keep in which keys are searched for.
use Prim.Native.Nat.{ℕ, ◌+◌, ◌≤◌, ◌<◌}
use mathlib.Core.Path.{◌≡◌, sym, subst}
use mathlib.Core.List.{List, [], ◌∷◌, ◌++◌, Memᴰ}
use mathlib.Core.Logic.{⊎_elim, ◌≢◌}
use native.Mathlib.Omega.{arith}
use Rattle.lists.specs.Cases.{same_or, lt-or}
use Rattle.lists.specs.Quantify.{Below, Every, every-none}
use Rattle.lists.proofs.Members.{every_more}
use Rattle.layout.specs.declared.Shape.{Shape}
use Rattle.chains.specs.Chains.{chain, next_of, ChainFits}
use Rattle.search.specs.Landing.{LandsAt}
use Rattle.once.specs.declared.Sharing.{Sharing}
use Rattle.once.specs.Refs.{InPass}
use Rattle.once.specs.Walk.{PassLands, NextInPass}
use Rattle.once.proofs.Tiers.{AlongTiers, tiers-start, tiers-end, tiers_in_lem, tiers-turn}

module _ (z : Shape) (img : List ℕ) (by : Sharing) (p : ℕ) where
  open z use {settings}
  open settings use {slots}

  -- ---- the slots of tier t: those below j were searched for, and the pass takes slot j

  module _ (t : ℕ) where
    pub record Slots (j : ℕ) : Type 0 where
      pub low : j ≤ slots
      pub mine : j < slots → InPass z img by p t j
      pub landed : Below j (λ k. InPass z img by p t k → LandsAt z img t k)

    pub slots-start : {j : ℕ} → NextInPass z img by p t 0 j → Slots j
    slots-start n = record { low = n.low; mine = n.takes; landed = λ k h q. absurd (n.skipped k (omega arith) h q) }

    module _ {j : ℕ} (w : Slots j) where
      pub slots-turn : LandsAt z img t j → {j' : ℕ} → NextInPass z img by p t (j + 1) j' → Slots j'
      slots-turn l {j'} n =
          record {
            low = n.low;
            mine = n.takes;
            landed = λ k h q. ⊎_elim
                (λ (e : k ≡ j). subst (LandsAt z img t) (sym e) l)
                (λ (e : k ≢ j). ⊎_elim
                (λ (x : k < j). w.landed k x q)
                (λ (x : j ≤ k). absurd (n.skipped k (omega arith) h q))
                (lt-or k j))
                (same_or k j);
          }

      pub slots_end : slots ≤ j → PassLands z img by p t
      slots_end h k hk q = w.landed k (omega (arith, w.low)) q

      pub slots-lost : j < slots → (LandsAt z img t j → ⊥) → PassLands z img by p t → ⊥
      slots-lost h n f = n (f j h (w.mine h))

-- ---- the tiers of segment s's chain, of which P is asked one by one

module _ (z : Shape) (img : List ℕ) (s : ℕ) (P : ℕ → Type 0) where
  pub record TiersHold (t : ℕ) : Type 0 where
    pub done : List ℕ
    pub along : AlongTiers z img s done t
    pub held : Every done P

  pub hold-starts : TiersHold (s + 1)
  hold-starts = record { done = []; along = tiers-start z img s; held = every-none P }

  module _ (fits : ChainFits z img s) {t : ℕ} (w : TiersHold t) where
    pub hold-ends : t ≡ 0 → Every (chain z img s) P
    hold-ends e = subst (λ (x : List ℕ). Every x P) (tiers-end z img s fits w.along e) w.held

    module _ (ne : t ≢ 0) where
      pub hold_in : Memᴰ t (chain z img s)
      hold_in = tiers_in_lem z img s fits w.along ne

      pub hold-turns : P t → {u : ℕ} → u ≡ next_of z img t → TiersHold u
      hold-turns l e =
          record { done = w.done ++ (t ∷ []); along = tiers-turn z img s fits w.along ne e; held = every_more w.done t w.held l }

      pub hold-lost : (P t → ⊥) → Every (chain z img s) P → ⊥
      hold-lost n f = n (f t hold_in)
