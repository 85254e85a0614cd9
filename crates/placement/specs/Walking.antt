-- What a walk along the chain of a key finds for an entry of n chunks. The definitions serve contracts alone.
use Rattle.std.specs.Prelude.{ℕ, List, [], ◌∷◌, ◌++◌, ◌≡◌, Option, None, Some}
use Rattle.lists.specs.Quantify.{Every}
use Rattle.layout.specs.declared.Shape.{Shape}
use Rattle.chains.specs.Chains.{chain}
use Rattle.entries.specs.Keys.{segment_of}
use Rattle.search.specs.Search.{first_empty, search}
use Rattle.placement.specs.declared.Run.{Run}
use Rattle.placement.specs.declared.Run.TheVariants.{At, Nowhere}
use Rattle.placement.specs.declared.walk.Candidate.{Candidate}
use Rattle.placement.specs.declared.walk.Walk.{Walk}
use Rattle.placement.specs.declared.walk.EntryPlace.{EntryPlace}
use Rattle.placement.specs.OldEntry.{IsOtherTier, old_found}
use Rattle.placement.specs.Runs.{first_run, run_for, full_but, clear_but}
use Rattle.placement.specs.Asking.{rest_from}

-- the run of a candidate
abbrev pub candidate_run : Option Candidate → Run
candidate_run None = Nowhere
candidate_run (Some x) = At x.tier x.chunk

module _ (z : Shape) (img : List ℕ) where
  -- of some tiers the first that takes the entry, and its first empty slot from the key's start slot on
  pub record CandidateIn (key : List ℕ) (n : ℕ) (done : List ℕ) (x : Option Candidate) : Type 0 where
    pub run_is : candidate_run x ≡ run_for z img done n
    pub slot_is : (y : Candidate) → x ≡ Some y → y.slot ≡ first_empty z img key y.tier

  -- with one tier more, whose first empty slot is j
  abbrev pub CandidateAfter : ℕ → Option Candidate → ℕ → ℕ → Option Candidate → Type 0
  CandidateAfter n x t j y = (key done : List ℕ) → j ≡ first_empty z img key t → CandidateIn key n done x → CandidateIn key n (done ++ (t ∷ [])) y

  module _ (key : List ℕ) (n : ℕ) where
    -- the tiers of the chain before the old entry's, and the candidate in them
    pub record Walked (w : Walk) : Type 0 where
      pub front : List ℕ
      pub chain_is : chain z img (segment_of z.settings key) ≡ front ++ rest_from z img w.old w.passed
      pub others : Every front (IsOtherTier w.old)
      pub candidate_is : CandidateIn key n front w.candidate
      pub old_is : w.old ≡ old_found z img (search z img key)

    -- the place in the whole chain, where the old entry counts as removed; a known slot is not in the old entry's tier
    pub record PlaceIs (p : EntryPlace) : Type 0 where
      pub old_is : p.old ≡ old_found z img (search z img key)
      pub run_is : p.run ≡ first_run z (full_but z img p.old) (clear_but z img p.old) (chain z img (segment_of z.settings key)) n
      pub slot_is : (t c j : ℕ) → p.run ≡ At t c → p.slot ≡ Some j → (j ≡ first_empty z img key t) × IsOtherTier p.old t

  -- the place, after a walk for any key
  abbrev pub PlaceAfter : ℕ → Walk → EntryPlace → Type 0
  PlaceAfter n w p = (key : List ℕ) → Walked key n w → PlaceIs key n p
