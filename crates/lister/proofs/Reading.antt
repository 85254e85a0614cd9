-- What `reading` says of an input.
use Prim.Native.Nat.{ℕ, ◌+◌, ◌-◌, ◌≤◌, ◌<◌}
use mathlib.Core.Bool.{Bool, true, false}
use mathlib.Core.List.{List}
use mathlib.Core.Path.{◌≡◌, refl, ap, sym, ◌∙◌}
use mathlib.Core.Logic.{⊎_elim, ◌≢◌}
use native.Mathlib.Omega.{arith}
use native.Mathlib.Decide.{dec_lt}
use lib.Dec.{ltb}
use lib.ListN.{length, take}
use lib.Seq.{length-take-le}
use borrow.Author.Tests.{ltb-false, lt-ltb, le-ltb}
use Rattle.std.specs.Prelude.{Result, Ok, Err}
use Rattle.lists.specs.Cases.{by-test, lt-or}
use Rattle.lists.proofs.Decides.{choose-by, choose_no, choose_yes}
use Rattle.words.specs.Numbers.{be}
use Rattle.settings.specs.declared.ParseError.{ParseError}
use Rattle.settings.specs.declared.ParseError.TheVariants as fault
use Rattle.settings.specs.declared.Settings.{Settings}
use Rattle.settings.specs.Versions.{most_fields, fields_of, head_size, block_size}
use Rattle.settings.specs.Block.{version, parse}
use Rattle.settings.proofs.Versions.{fields-most}
use Rattle.image.specs.declared.Stage.{Stage}
use Rattle.image.specs.Check.{stage_of}
use Rattle.image.specs.declared.Stage.TheVariants.{Block, Frame}
use Rattle.lister.specs.declared.input.Input.{Input}
use Rattle.lister.specs.declared.input.Input.TheVariants.{More, Whole}
use Rattle.lister.specs.Input.{image_at, limit, longest, missing, needed, reading_image, reading_length, from_parsed, reading_block, reading_fields, reading, Decided, HasRead}

-- ---- by cases

module _ (s : Stage) (n : ℕ) (read : List ℕ) (ended : Bool) (next : Result Input Stage) where
  pub needed-short : length read < n → needed s n read ended next ≡ missing s n ended
  unfolding needed
  needed-short h = rw (lt-ltb (length read) n h, needed)

  pub needed-there : n ≤ length read → needed s n read ended next ≡ next
  unfolding needed
  needed-there h = rw (le-ltb (length read) n h, needed)

module _ (end n : ℕ) (read : List ℕ) (ended : Bool) where
  pub image-long : limit < n → reading_image end n read ended ≡ Err Frame
  unfolding reading_image
  image-long h = rw (lt-ltb limit n h, reading_image)

  pub image-short : n ≤ limit → reading_image end n read ended ≡ needed Frame (image_at end + n) read ended (Ok (Whole end n))
  unfolding reading_image
  image-short h = rw (le-ltb limit n h, reading_image)

-- ---- the same in the form that the check's own search applies, at `reading_length` and `reading_block`

module _ (end : ℕ) (read : List ℕ) (ended : Bool) where
  pub length-missing : length read < image_at end → reading_length end read ended ≡ missing Frame (image_at end) ended
  unfolding reading_length
  length-missing h = needed-short Frame (image_at end) read ended _ h

  pub length-there : image_at end ≤ length read → reading_length end read ended ≡ reading_image end (be read end 4) read ended
  unfolding reading_length
  length-there h = needed-there Frame (image_at end) read ended _ h

  pub block-missing : length read < end → reading_block end read ended ≡ missing Block end ended
  unfolding reading_block
  block-missing h = needed-short Block end read ended _ h

  pub block-there : end ≤ length read → reading_block end read ended ≡ from_parsed (parse (take end read)) (reading_length end read ended)
  unfolding reading_block
  block-there h = needed-there Block end read ended _ h

module _ (end n : ℕ) (read : List ℕ) (ended : Bool) where
  pub image-missing : n ≤ limit → length read < image_at end + n → reading_image end n read ended ≡ missing Frame (image_at end + n) ended
  image-missing h l = rw (image-short end n read ended h) (needed-short Frame (image_at end + n) read ended _ l)

  pub image-there : n ≤ limit → image_at end + n ≤ length read → reading_image end n read ended ≡ Ok (Whole end n)
  image-there h l = rw (image-short end n read ended h) (needed-there Frame (image_at end + n) read ended _ l)

module _ (p : Result Settings ParseError) (next : Result Input Stage) where
  pub parsed-refused : (e : ParseError) → p ≡ Err e → from_parsed p next ≡ Err (stage_of e)
  unfolding from_parsed
  parsed-refused fault.Block q = rw q
  parsed-refused fault.Field q = rw q

  pub parsed-accepted : (st : Settings) → p ≡ Ok st → from_parsed p next ≡ next
  unfolding from_parsed
  parsed-accepted st e = rw e

pub ruleset length_steps = (length-missing, length-there, image-long, image-missing, image-there)

pub ruleset block_steps = (block-missing, block-there, parsed-refused, parsed-accepted)

module _ (read : List ℕ) (ended : Bool) {fields : ℕ} (there : head_size ≤ length read) (e : fields ≡ fields_of (version read)) where
  fields-next : reading read ended ≡ reading_fields fields read ended
  unfolding reading
  fields-next = rw e (needed-there _ head_size read ended _ there)

  pub version-unknown : fields ≡ 0 → Err Block ≡ reading read ended
  unfolding reading_fields
  version-unknown z = sym (fields-next ∙ choose_no (dec_lt 0 fields) _ _ (λ (h : 0 < fields). omega arith))

  pub version-known : {end : ℕ} → end ≡ block_size fields → fields ≢ 0 → reading_block end read ended ≡ reading read ended
  unfolding reading_fields
  version-known q n = ap (λ (x : ℕ). reading_block x read ended) q ∙ sym (fields-next ∙ choose_yes (dec_lt 0 fields) _ _ (omega arith))

-- ---- it asks for more than it has, within the longest input, and never after the end; a whole image is within what was read

abbrev pub Bounds : List ℕ → Bool → Result Input Stage → Type 0
Bounds read ended (Ok (More n)) = (ended ≡ false) × (length read < n) × (n ≤ longest)
Bounds read ended (Ok (Whole end n)) = image_at end + n ≤ length read
Bounds read ended (Err s) = Unit

missing-bounds : (read : List ℕ) (ended : Bool) (s : Stage) (n : ℕ) → length read < n → n ≤ longest → Bounds read ended (missing s n ended)
missing-bounds read true s n l h = tt
missing-bounds read false s n l h = (refl, l, h)

module _ (read : List ℕ) (ended : Bool) where
  needed-bounds : (s : Stage) (n : ℕ) (next : Result Input Stage) → n ≤ longest → (n ≤ length read → Bounds read ended next)
      → Bounds read ended (needed s n read ended next)
  needed-bounds s n next h f =
      ⊎_elim
      (λ (l : length read < n). rw (needed-short s n read ended next l) (missing-bounds read ended s n l h))
      (λ (l : n ≤ length read). rw (needed-there s n read ended next l) (f l))
      (lt-or (length read) n)

  image-bounds : (end n : ℕ) → end ≤ block_size most_fields → Bounds read ended (reading_image end n read ended)
  image-bounds end n h =
      ⊎_elim
      (λ (l : limit < n). rw (image-long end n read ended l) tt)
      (λ (l : n ≤ limit). rw (image-short end n read ended l) (needed-bounds Frame (image_at end + n) (Ok (Whole end n)) (omega arith) (λ w. w)))
      (lt-or limit n)

  parsed-bounds : (p : Result Settings ParseError) (next : Result Input Stage) → Bounds read ended next → Bounds read ended (from_parsed p next)
  unfolding from_parsed
  parsed-bounds (Err fault.Block) next h = tt
  parsed-bounds (Err fault.Field) next h = tt
  parsed-bounds (Ok st) next h = h

  block-bounds : (end : ℕ) → end ≤ block_size most_fields → Bounds read ended (reading_block end read ended)
  unfolding reading_block reading_length
  block-bounds end h =
      needed-bounds _ end _ (omega arith) λ _.
      parsed-bounds (parse (take end read)) _
      (needed-bounds _ (image_at end) _ (omega arith) λ _. image-bounds end (be read end 4) h)

  pub reading-bounds : Bounds read ended (reading read ended)
  unfolding reading reading_fields
  reading-bounds =
      needed-bounds _ head_size _ (omega arith) λ _.
      choose-by (dec_lt 0 (fields_of (version read))) _ _ (Bounds read ended) (λ _. tt) λ _.
      block-bounds (block_size (fields_of (version read))) (omega (arith, fields-most (version read)))

-- ---- so a buffer of the longest input is enough, and reading on ends

module _ (buf : List ℕ) (got : ℕ) (ended : Bool) {r : Result Input Stage} (fits : (length buf ≡ longest) × (got ≤ longest))
    (due : r ≡ reading (take got buf) ended) where
  pub more-asked : {n : ℕ} → r ≡ Ok (More n) → (ended ≡ false) × (got < n) × (n ≤ longest)
  more-asked {n} e =
      let bounds : Bounds (take got buf) ended (Ok (More n)) = rw (sym due ∙ e) at (reading-bounds (take got buf) ended) in
      rw (length-take-le got buf (omega arith)) at bounds

  pub has-read : {x : Result Input Stage} → r ≡ x → Decided x → HasRead buf x
  has-read e d = record { got = got; ended = ended; within = omega arith; said = sym e ∙ due; decided = d }

pub whole-there : {buf : List ℕ} {r : Result Input Stage} {end n : ℕ} → HasRead buf r → r ≡ Ok (Whole end n) → image_at end + n ≤ length buf
whole-there {buf} {r} {end} {n} a e =
    let bounds : Bounds (take a.got buf) a.ended (Ok (Whole end n)) = rw (sym a.said ∙ e) at (reading-bounds (take a.got buf) a.ended) in
    omega (arith, length-take-le a.got buf a.within)

-- how often it can be read on, and one more before the end
abbrev pub turns : ℕ → Bool → ℕ
turns got true = 0
turns got false = 1 + (longest - got)

pub reads_on : {ended : Bool} {got n : ℕ} (more : ℕ) → (ended ≡ false) × (got < n) × (n ≤ longest)
    → turns (got + more) (ltb (got + more) n) < turns got ended
reads_on {ended} {got} {n} more h =
    rw h.0 (by-test (ltb (got + more) n) (λ t. rw t (omega arith)) (λ t. rw t (omega (arith, ltb-false (got + more) n t))))
