-- A list of asks, sets and grows run over an image, and what is claimed of it.
use Rattle.std.specs.Prelude.{ℕ, suc, ◌+◌, ◌≡◌, ◌≢◌, length, get_or, ℤ, pos, neg_ℤ, ◌+ℤ◌}
use mathlib.Core.List.{List, [], ◌∷◌, ◌++◌, Memᴰ}
use Rattle.std.specs.Int.{w32}
use Rattle.std.proofs.Common.{SFits}
use Rattle.lists.specs.Runs.{after_all, on_each}
use Rattle.chronicle_map.specs.Calls.{answer_number, grow}
use Rattle.chronicle_map.specs.Demands.{Accepted}
use Rattle.pairs.specs.Pairs.{pair_key}
use Rattle.pairs.specs.Delays.{delay, Reply, asked_reply, set_delay, set_number}

pub data PairCall : Type 0 where
  asks : ℕ → ℕ → PairCall
  sets : ℕ → ℕ → ℤ → PairCall
  grows : PairCall

-- what a set or a grow replies: its number, and no delay
abbrev pub numbered : ℕ → Reply
numbered n = record { number = n; delay = pos 0 }

module _ (block : List ℕ) where
  -- what one call replies, and the image as it leaves it
  unfoldable pub replies : List ℕ → PairCall → Reply
  replies img (asks a b) = asked_reply (delay block img a b)
  replies img (sets a b d) = numbered (set_number (set_delay block img a b d).answer)
  replies img grows = numbered (answer_number (grow block img).answer)

  unfoldable pub pair_leaves : List ℕ → PairCall → List ℕ
  pair_leaves img (asks a b) = img
  pair_leaves img (sets a b d) = (set_delay block img a b d).image
  pair_leaves img grows = (grow block img).image

  -- a list of calls, each on the image as the last one left it: the image at the end, and what each call replied
  abbrev pub pair_run : List ℕ → List PairCall → List ℕ
  pair_run img calls = after_all pair_leaves img calls

  abbrev pub pair_replies : List ℕ → List PairCall → List Reply
  pair_replies img calls = on_each pair_leaves replies img calls

  -- the reply to the i-th call of the list, i from 0
  abbrev pub reply : List ℕ → List PairCall → ℕ → Reply
  reply img calls i = get_or (pair_replies img calls) i (numbered 1)

-- no set of this pair, in either order, is among the calls; sets of other pairs and grows may be
abbrev pub NoSet : ℕ → ℕ → List PairCall → Type 0
NoSet a b [] = Unit {0}
NoSet a b (asks c d ∷ cs) = NoSet a b cs
NoSet a b (sets c d x ∷ cs) = (pair_key c d ≢ pair_key a b) × NoSet a b cs
NoSet a b (grows ∷ cs) = NoSet a b cs

-- whatever an ask and a set are given: the numbers that they may answer; with any number but 0 an ask's delay is 0, and a set leaves every byte as it was
pub record Refusals (block img : List ℕ) : Type 0 where
  pub ask_answers : (a b : ℕ) → Memᴰ (asked_reply (delay block img a b)).number (0 ∷ 1 ∷ 2 ∷ 3 ∷ 4 ∷ 5 ∷ 6 ∷ 7 ∷ 11 ∷ 12 ∷ [])
  pub set_answers : (a b : ℕ) (d : ℤ)
      → Memᴰ (set_number (set_delay block img a b d).answer) (0 ∷ 2 ∷ 3 ∷ 4 ∷ 5 ∷ 6 ∷ 7 ∷ 9 ∷ 10 ∷ 11 ∷ 12 ∷ [])
  pub ask_refused : (a b : ℕ) → (asked_reply (delay block img a b)).number ≢ 0 → (asked_reply (delay block img a b)).delay ≡ pos 0
  pub set_refused : (a b : ℕ) (d : ℤ) → set_number (set_delay block img a b d).answer ≢ 0 → (set_delay block img a b d).image ≡ img

pub record SignsKept (block img : List ℕ) (calls : List PairCall) : Type 0 where
  pub accepted : Accepted block (pair_run block img calls)
  -- two orders of a pair, both found with no set of it between the two, sum to zero
  pub opposite : (a b : ℕ) (before between after : List PairCall) → calls ≡ before ++ asks a b ∷ between ++ asks b a ∷ after → NoSet a b between
      → (reply block img calls (length before)).number ≡ 0
      → (reply block img calls (length before + suc (length between))).number ≡ 0
      → (reply block img calls (length before)).delay +ℤ (reply block img calls (length before + suc (length between))).delay ≡ pos 0
  -- what is asked after a set of a 32-bit number answered 0, with no other set of the pair between, is what was set, with the sign of the order
  pub same_order : (a b : ℕ) (d : ℤ) (before between after : List PairCall)
      → calls ≡ before ++ sets a b d ∷ between ++ asks a b ∷ after → SFits w32 d → NoSet a b between
      → (reply block img calls (length before)).number ≡ 0
      → reply block img calls (length before + suc (length between)) ≡ record { number = 0; delay = d }
  pub other_order : (a b : ℕ) (d : ℤ) (before between after : List PairCall)
      → calls ≡ before ++ sets a b d ∷ between ++ asks b a ∷ after → SFits w32 d → NoSet a b between
      → (reply block img calls (length before)).number ≡ 0
      → reply block img calls (length before + suc (length between)) ≡ record { number = 0; delay = neg_ℤ d }
