-- What a part of the block says, and the hash of a key. The definitions serve contracts alone.
use Rattle.std.specs.Prelude.{ℕ, ◌≤◌, List, ◌≡◌, length, take}
use Rattle.settings.specs.Block.{parse}
use Rattle.xxh64.specs.Hash.{xxh64}
use Rattle.entries.specs.Keys.{longest_key}

-- the first n bytes of a block give what the block gives
pub record ParsesAlike (block : List ℕ) (n : ℕ) : Type 0 where
  pub within : n ≤ length block
  pub same : parse (take n block) ≡ parse block

-- h is the hash of a key, unless the key is too long
abbrev pub HashOf : List ℕ → ℕ → Type 0
HashOf key h = length key ≤ longest_key → h ≡ xxh64 key
