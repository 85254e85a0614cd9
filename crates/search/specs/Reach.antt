-- How full slots stand together in a tier. The definitions serve contracts alone.
use Rattle.std.specs.Prelude.{ℕ, ◌+◌, ◌-◌, ◌≤◌, ◌<◌, List, ◌≡◌, ◌≢◌, false}
use Rattle.lists.specs.Quantify.{Below}
use Rattle.layout.specs.declared.Shape.{Shape}
use Rattle.probe.specs.Ring.{dist}
use Rattle.entries.specs.Live.{slot_at}
use Rattle.search.specs.declared.reach.Run.{Run}
use Rattle.search.specs.Search.{hits}
use Rattle.search.specs.Rules.{keyAt, start_at}

-- a run goes on with slot j, or begins there
pub record RunOn (run : Run) (j : ℕ) (r : Run) : Type 0 where
  pub next_is : r.next ≡ j + 1
  pub goes_on : j ≡ run.next → r.length ≡ run.length + 1
  pub begins : j ≢ run.next → r.length ≡ 1

module _ (z : Shape) (img : List ℕ) (t : ℕ) where
  open z use {settings}
  open settings use {slots}

  -- the last n slots are full, and the one before them, if there is one, is empty
  pub record EndsFull (n : ℕ) : Type 0 where
    pub few : n ≤ slots
    pub full : Below slots (λ k. slots ≤ k + n → slot_at z img t k ≢ 0)
    pub gap : n < slots → slot_at z img t (slots - 1 - n) ≡ 0

  -- the n slots up to and including slot j, wrapping, are full, and the one before them is empty
  pub record RunAt (j n : ℕ) : Type 0 where
    pub full : Below slots (λ k. dist slots k j < n → slot_at z img t k ≢ 0)
    pub gap : ℕ
    pub gap_in : gap < slots
    pub gap_empty : slot_at z img t gap ≡ 0
    pub gap_at : dist slots gap j ≡ n

  -- before slot next stand n full slots: if it is full, it is the last of n + 1
  abbrev pub RunTo : ℕ → ℕ → Type 0
  RunTo next n = next < slots → slot_at z img t next ≢ 0 → RunAt next (n + 1)

  -- no slot from its start slot up to slot j stands for its key
  abbrev pub Alone : ℕ → Type 0
  Alone j =
      Below slots (λ k. dist slots (start_at z img t j) k < dist slots (start_at z img t j) j
      → hits z img (keyAt z img t j) t (slot_at z img t k) ≡ false)
