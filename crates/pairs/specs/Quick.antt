-- The quick ask for a pair: 2, 3 and 4, then 11, then the walk's 18 and 1, then 12; and what is claimed of it.
use Rattle.pairs.specs.declared.AskError.TheVariants as ask
use Rattle.std.specs.Prelude.{ℕ, ◌≡◌, ◌≢◌, pos, Err, Ok}
use mathlib.Core.List.{List, [], ◌∷◌, Memᴰ}
use Rattle.lists.specs.Decide.{choose}
use Rattle.chronicle_map.specs.Demands.{Accepted}
use Rattle.quick.specs.Quick.{opened, quick_lookup, Opened}
use Rattle.pairs.specs.Pairs.{ChannelsFit, channels_fit?, pair_key}
use Rattle.pairs.specs.Delays.{Asked, from_located, delay, asked_reply}

module _ (block img : List ℕ) (a b : ℕ) where
  -- 11
  unfoldable pub quick_pair : Dec (ChannelsFit a b) → Asked
  quick_pair f = choose f (λ _. Err ask.BadPair) (λ _. from_located img a b (quick_lookup block img (pair_key a b)))

  -- 2, 3 and 4
  unfoldable pub quick_opened : Opened → Asked
  quick_opened (Err s) = Err (ask.Refused s)
  quick_opened (Ok z) = quick_pair (channels_fit? a b)

  unfoldable pub quick_delay : Asked
  quick_delay = quick_opened (opened block img)

pub record QuickDelays (block img : List ℕ) : Type 0 where
  -- whatever the image holds: the numbers, and no delay with any but 0
  pub answers : (a b : ℕ) → Memᴰ (asked_reply (quick_delay block img a b)).number (0 ∷ 1 ∷ 2 ∷ 3 ∷ 4 ∷ 11 ∷ 12 ∷ 18 ∷ [])
  pub refused : (a b : ℕ) → (asked_reply (quick_delay block img a b)).number ≢ 0 → (asked_reply (quick_delay block img a b)).delay ≡ pos 0
  -- on an accepted image it answers as the checked ask
  pub as_checked : Accepted block img → (a b : ℕ) → quick_delay block img a b ≡ delay block img a b
