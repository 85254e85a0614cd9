-- The settings block: its bytes to numbers, or a refusal.
use Rattle.std.specs.Prelude.{ℕ, ◌+◌, ◌*◌, List, ◌≡◌, length, get_or, Result, Ok, Err}
use Rattle.std.proofs.Math.Decide.{dec_lt, ℕ_discrete}
use Rattle.words.specs.Numbers.{be}
use Rattle.settings.specs.declared.Settings.{Settings}
use Rattle.settings.specs.declared.ParseError.{ParseError}
use Rattle.settings.specs.declared.ParseError.TheVariants as fault
use Rattle.lists.specs.Decide.{choose, rule}
use Rattle.settings.specs.Decide.{valid?}
use Rattle.settings.specs.Versions.{fields_of, KnownVersion, head_size, block_size, length_field}

-- ---- the block: its version, its length and its length field

abbrev pub version : List ℕ → ℕ
version block = get_or block 2 0

pub record BlockFits (block : List ℕ) : Type 0 where
  pub known_version : KnownVersion (version block)
  pub whole : length block ≡ block_size (fields_of (version block))
  pub length_is : be block 0 2 ≡ length_field (fields_of (version block))

unfoldable pub block_fits? : (block : List ℕ) → Dec (BlockFits block)
block_fits? block =
    rule (λ v. v.known_version) (dec_lt 0 (fields_of (version block))) λ k.
    rule (λ v. v.whole) (ℕ_discrete (length block) (block_size (fields_of (version block)))) λ w.
    rule (λ v. v.length_is) (ℕ_discrete (be block 0 2) (length_field (fields_of (version block)))) λ f.
    yes (record { known_version = k; whole = w; length_is = f })

-- ---- the numbers

-- the number in row i + 1 of the table
unfoldable pub field : List ℕ → ℕ → ℕ
field block i = be block (head_size + 4 * i) 4

unfoldable pub settings_of : List ℕ → Settings
settings_of block =
    record {
      globalAt = field block 0;
      segments = field block 1;
      headerSize = field block 2;
      slotSize = field block 3;
      slots = field block 4;
      keyBits = field block 5;
      chunkBits = field block 6;
      lookupSize = field block 7;
      freeListSize = field block 8;
      innerOffset = field block 9;
      chunks = field block 10;
      chunkSize = field block 11;
      tierSize = field block 12;
      bulkInner = field block 13;
      bulkTiers = field block 14;
      bulkSize = field block 15;
      mostChunks = field block 16;
    }

-- ---- the answer

unfoldable pub parse : List ℕ → Result Settings ParseError
parse block =
    choose (block_fits? block) (λ _. Err fault.Block) λ _.
    choose (valid? (settings_of block)) (λ _. Err fault.Field) λ _.
    Ok (settings_of block)
