-- What is decided before the input ends is what `reading` says of the whole input, whatever follows.
use Prim.Native.Nat.{ℕ, ◌+◌, ◌≤◌, ◌<◌}
use mathlib.Core.Bool.{Bool, false}
use mathlib.Core.List.{List, ◌++◌}
use mathlib.Core.Path.{◌≡◌, refl}
use mathlib.Core.Logic.{⊎_elim}
use native.Mathlib.Omega.{arith}
use native.Mathlib.Decide.{dec_lt}
use lib.ListN.{length, take, length-append, get_or-append}
use lib.Seq.{take-append-le}
use Rattle.std.specs.Prelude.{Result, Ok, Err}
use Rattle.lists.specs.Cases.{lt-or}
use Rattle.lists.specs.Decide.{choose}
use Rattle.words.specs.Numbers.{be}
use Rattle.words.proofs.Numbers.{be-append}
use Rattle.settings.specs.declared.Settings.{Settings}
use Rattle.settings.specs.declared.ParseError.{ParseError}
use Rattle.settings.specs.declared.ParseError.TheVariants as fault
use Rattle.settings.specs.Versions.{fields_of, head_size, block_size}
use Rattle.settings.specs.Block.{version, parse}
use Rattle.image.specs.declared.Stage.{Stage}
use Rattle.image.specs.declared.Stage.TheVariants.{Block, Frame}
use Rattle.lister.specs.declared.input.Input.{Input}
use Rattle.lister.specs.declared.input.Input.TheVariants.{Whole}
use Rattle.lister.specs.Input.{image_at, limit, needed, reading_image, reading_length, from_parsed, reading_block, reading_fields, reading, Decided}
use Rattle.lister.proofs.Reading.{needed-short, needed-there, image-long, image-short}

module _ (read rest : List ℕ) (ended : Bool) where
  needed-stays : (s : Stage) (n : ℕ) (next next' : Result Input Stage) → (n ≤ length read → Decided next → next' ≡ next)
      → Decided (needed s n read false next) → needed s n (read ++ rest) ended next' ≡ needed s n read false next
  needed-stays s n next next' same d =
      ⊎_elim
      (λ (l : length read < n). absurd (rw (needed-short s n read false next l) at d))
      (λ (l : n ≤ length read).
      rw (needed-there s n read false next l, needed-there s n (read ++ rest) ended next' (omega (arith, length-append read rest)))
      (same l (rw (needed-there s n read false next l) at d)))
      (lt-or (length read) n)

  image-stays : (end n : ℕ) → Decided (reading_image end n read false) → reading_image end n (read ++ rest) ended ≡ reading_image end n read false
  image-stays end n d =
      ⊎_elim
      (λ (l : limit < n). rw (image-long end n read false l, image-long end n (read ++ rest) ended l))
      (λ (l : n ≤ limit).
      rw (image-short end n read false l, image-short end n (read ++ rest) ended l)
      (needed-stays Frame (image_at end + n) (Ok (Whole end n)) (Ok (Whole end n)) (λ _ _. refl) (rw (image-short end n read false l) at d)))
      (lt-or limit n)

  length-stays : (end : ℕ) → Decided (reading_length end read false) → reading_length end (read ++ rest) ended ≡ reading_length end read false
  unfolding reading_length
  length-stays end = needed-stays Frame (image_at end) _ _ (λ h d. rw (be-append read rest end 4 h) (image-stays end (be read end 4) d))

  parsed-stays : (p : Result Settings ParseError) (next next' : Result Input Stage) → (Decided next → next' ≡ next) → Decided (from_parsed p next)
      → from_parsed p next' ≡ from_parsed p next
  unfolding from_parsed
  parsed-stays (Err fault.Block) next next' same d = refl
  parsed-stays (Err fault.Field) next next' same d = refl
  parsed-stays (Ok st) next next' same d = same d

  block-stays : (end : ℕ) → Decided (reading_block end read false) → reading_block end (read ++ rest) ended ≡ reading_block end read false
  unfolding reading_block
  block-stays end =
      needed-stays Block end _ _ λ h.
      rw (take-append-le end read rest h) (parsed-stays (parse (take end read)) _ _ (length-stays end))

  fields-stay : (fields : ℕ) (d : Dec (0 < fields)) → Decided (choose d (λ _. Err Block) (λ _. reading_block (block_size fields) read false))
      → choose d (λ _. Err Block) (λ _. reading_block (block_size fields) (read ++ rest) ended)
      ≡ choose d (λ _. Err Block) (λ _. reading_block (block_size fields) read false)
  unfolding choose
  fields-stay fields (no _) d = refl
  fields-stay fields (yes _) d = block-stays (block_size fields) d

  pub reading-stays : Decided (reading read false) → reading (read ++ rest) ended ≡ reading read false
  unfolding reading reading_fields
  reading-stays =
      needed-stays Block head_size _ _ λ h d.
      let same : version (read ++ rest) ≡ version read = get_or-append read rest 0 2 (omega arith) in
      rw same (fields-stay (fields_of (version read)) (dec_lt 0 (fields_of (version read))) d)
