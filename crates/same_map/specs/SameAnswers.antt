-- Request A14: two accepted images under one settings block that read as the same map answer the same calls alike, before the first 10 in
-- either.
use Rattle.std.specs.Prelude.{ℕ, suc, ◌≡◌, ◌≢◌, Bool, true, false, ◌||◌, eqb, take}
use mathlib.Core.List.{List, [], ◌∷◌, Memᴰ}
use Rattle.lists.specs.Quantify.{Every}
use Rattle.lists.specs.Runs.{after_all, on_each}
use Rattle.words.specs.Bytes.{Bytes}
use Rattle.entries.specs.Pairs.{Pair}
use Rattle.chronicle_map.specs.History.{Call, grows as call_grows, Said, says, leaves, map_of}
use Rattle.chronicle_map.specs.Demands.{Accepted, SameMap, ByteCalls}
use Rattle.pairs.specs.Delays.{Reply}
use Rattle.pairs.specs.History.{PairCall, grows as pair_call_grows, replies, pair_leaves}

-- ---- two images

-- both are bytes that the check accepts under the settings block, and they read as the same map
pub record ReadAlike (block one other : List ℕ) : Type 0 where
  pub one_bytes : Bytes one
  pub other_bytes : Bytes other
  pub one_accepted : Accepted block one
  pub other_accepted : Accepted block other
  pub same_map : SameMap block one other

-- the keys and records of the one are those of the other; for accepted images that is the same map (proofs/Pairs.antt)
abbrev pub PairsAmong : List ℕ → List ℕ → List ℕ → Type 0
PairsAmong block one other = (p : Pair) → Memᴰ p (map_of block one) → Memᴰ p (map_of block other)

-- ---- two runs of one list of calls, by what each call answered

module _ {A : Type 0} (number : A → ℕ) where
  abbrev pub either10 : A → A → Bool
  either10 x y = eqb (number x) 10 || eqb (number y) 10

  -- how many calls come before the first to which either run answers 10
  unfoldable pub before_first10 : List A → List A → ℕ
  before_first10 [] ys = 0
  before_first10 (x ∷ xs) [] = 0
  before_first10 (x ∷ xs) (y ∷ ys) = elim (either10 x y) [ true ↦ 0 | false ↦ suc (before_first10 xs ys) ]

  abbrev pub Never10 : List A → Type 0
  Never10 xs = Every xs (λ x. number x ≢ 10)

-- a call that is not in the list
abbrev pub NotAmong : {C : Type 0} → C → List C → Type 0
NotAmong c calls = Memᴰ c calls → ⊥

-- ---- the claim, over the calls of an interface

-- what a call answers on an image, the number in that answer, and the image that the call leaves
pub record Interface (C A : Type 0) : Type 0 where
  pub says : List ℕ → C → A
  pub number : A → ℕ
  pub leaves : List ℕ → C → List ℕ

module _ {C A : Type 0} (interface : Interface C A) where
  open interface use {says, leaves}

  -- a list of calls, each on the image as the last one left it
  abbrev pub answers_of : List ℕ → List C → List A
  answers_of img calls = on_each leaves says img calls

  abbrev pub left_by : List ℕ → List C → List ℕ
  left_by img calls = after_all leaves img calls

module _ {C A : Type 0} (interface : Interface C A) (block one other : List ℕ) (calls : List C) where
  open interface use {number}

  -- the calls before the first 10 in either
  abbrev pub compared : ℕ
  compared = before_first10 number (answers_of interface one calls) (answers_of interface other calls)

  pub record SameBefore10 : Type 0 where
    -- each of them got the same answer in both runs
    pub same : take compared (answers_of interface one calls) ≡ take compared (answers_of interface other calls)
    -- where neither run answers 10, they are all the calls
    pub whole : Never10 number (answers_of interface one calls) → Never10 number (answers_of interface other calls)
        → answers_of interface one calls ≡ answers_of interface other calls
    -- the images as they left them are accepted and read as the same map again
    pub after : ReadAlike block (left_by interface one (take compared calls)) (left_by interface other (take compared calls))

-- ---- lookups, stores of both kinds and removals: the number and, when found, the record's bytes; offsets, tiers and slots are no part of it

abbrev pub store_calls : List ℕ → Interface Call Said
store_calls block = record { says = says block; number = λ s. s.number; leaves = leaves block }

abbrev pub SameMapSameAnswers : Type 0
SameMapSameAnswers = (block one other : List ℕ) → ReadAlike block one other
    → (calls : List Call) → ByteCalls calls → NotAmong call_grows calls → SameBefore10 (store_calls block) block one other calls

-- ---- asks and sets of pairs: the number and the delay

abbrev pub pair_calls : List ℕ → Interface PairCall Reply
pair_calls block = record { says = replies block; number = λ r. r.number; leaves = pair_leaves block }

abbrev pub SameMapSameDelays : Type 0
SameMapSameDelays = (block one other : List ℕ) → ReadAlike block one other
    → (calls : List PairCall) → NotAmong pair_call_grows calls → SameBefore10 (pair_calls block) block one other calls
