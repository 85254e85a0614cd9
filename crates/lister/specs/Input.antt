-- The input: the settings block, the image's length in four bytes, and the image.
use Rattle.std.specs.Prelude.{ℕ, ◌+◌, ◌≤◌, Bool, true, false, List, ◌≡◌, ltb, length, take, Result, Ok, Err}
use Rattle.std.proofs.Math.Decide.{dec_lt}
use Rattle.lists.specs.Decide.{choose}
use Rattle.words.specs.Numbers.{be}
use Rattle.settings.specs.declared.Settings.{Settings}
use Rattle.settings.specs.declared.ParseError.{ParseError}
use Rattle.settings.specs.declared.ParseError.TheVariants as fault
use Rattle.settings.specs.Versions.{most_fields, fields_of, head_size, block_size}
use Rattle.settings.specs.Block.{version, parse}
use Rattle.image.specs.declared.Stage.{Stage}
use Rattle.image.specs.declared.Stage.TheVariants.{Block, Field, Frame}
use Rattle.lister.specs.declared.input.Input.{Input}
use Rattle.lister.specs.declared.input.Input.TheVariants.{More, Whole}

-- where the image starts, after a block that ends there; the longest image, and so the longest input that is read
abbrev pub image_at : ℕ → ℕ
image_at end = end + 4

abbrev pub limit : ℕ
limit = 65536

abbrev pub longest : ℕ
longest = image_at (block_size most_fields) + limit

-- where the block of a version ends, and where its image starts
pub record Ends (end at : ℕ) : Type 0 where
  pub small : end ≤ block_size most_fields
  pub starts : at ≡ image_at end

-- ---- what to do after the bytes that were read, which are all where the input has ended

-- fewer than n bytes are there
abbrev pub missing : Stage → ℕ → Bool → Result Input Stage
missing s n true = Err s
missing s n false = Ok (More n)

-- n bytes in all are needed for what comes next
unfoldable pub needed : Stage → ℕ → List ℕ → Bool → Result Input Stage → Result Input Stage
needed s n read ended next = elim (ltb (length read) n) [ true ↦ missing s n ended | false ↦ next ]

unfoldable pub reading_image : ℕ → ℕ → List ℕ → Bool → Result Input Stage
reading_image end n read ended = elim (ltb limit n) [ true ↦ Err Frame | false ↦ needed Frame (image_at end + n) read ended (Ok (Whole end n)) ]

unfoldable pub reading_length : ℕ → List ℕ → Bool → Result Input Stage
reading_length end read ended = needed Frame (image_at end) read ended (reading_image end (be read end 4) read ended)

unfoldable pub from_parsed : Result Settings ParseError → Result Input Stage → Result Input Stage
from_parsed (Err fault.Block) next = Err Block
from_parsed (Err fault.Field) next = Err Field
from_parsed (Ok st) next = next

-- the block ends where the table of versions says
unfoldable pub reading_block : ℕ → List ℕ → Bool → Result Input Stage
reading_block end read ended = needed Block end read ended (from_parsed (parse (take end read)) (reading_length end read ended))

unfoldable pub reading_fields : ℕ → List ℕ → Bool → Result Input Stage
reading_fields fields read ended = choose (dec_lt 0 fields) (λ _. Err Block) (λ _. reading_block (block_size fields) read ended)

unfoldable pub reading : List ℕ → Bool → Result Input Stage
reading read ended = needed Block head_size read ended (reading_fields (fields_of (version read)) read ended)

-- ---- the answer of the loop that reads: what `reading` says of the bytes that it has got, once that is not to read on

abbrev pub Decided : Result Input Stage → Type 0
Decided (Ok (More n)) = ⊥
Decided (Ok (Whole end n)) = Unit
Decided (Err s) = Unit

pub record HasRead (buf : List ℕ) (r : Result Input Stage) : Type 0 where
  pub got : ℕ
  pub ended : Bool
  pub within : got ≤ length buf
  pub said : r ≡ reading (take got buf) ended
  pub decided : Decided r
