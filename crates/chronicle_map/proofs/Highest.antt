-- Which stages refuse: at most 7 without a key, 8 with one, 9 with a record; never 8 where the key fits.
use Prim.Native.Nat.{ℕ, ◌≤◌}
use mathlib.Core.List.{List}
use mathlib.Core.Logic.{◌≢◌}
use native.Mathlib.Omega.{arith}
use Rattle.std.specs.Prelude.{Result, Ok, Err}
use Rattle.lists.proofs.Decides.{choose-by}
use Rattle.settings.specs.declared.Settings.{Settings}
use Rattle.settings.specs.declared.ParseError.{ParseError}
use Rattle.settings.specs.declared.ParseError.TheVariants as fault
use Rattle.settings.specs.Block.{parse}
use Rattle.layout.specs.declared.Shape.{Shape}
use Rattle.layout.specs.Frame.{shape_of, frame_fits?}
use Rattle.chains.specs.Chains.{chains_fit?}
use Rattle.search.specs.Rules.{entries_fit?}
use Rattle.chunks.specs.Chunks.{chunks_fit?}
use Rattle.image.specs.declared.Stage.{Stage}
use Rattle.image.specs.declared.Stage.TheVariants.{Block, Field, Frame, Chains, Entries, Chunks, Key, Value, Walk}
use Rattle.image.specs.declared.Counts.{Counts}
use Rattle.image.specs.Check.{Examined, stage_number, stage_of, after_chunks, after_entries, after_chains, after_frame, after_block, examine}
use Rattle.chronicle_map.specs.Asked.{Given, nothing, a_key, an_entry, GivenKeyFits, given_key_fits?, GivenValueFits, given_value_fits?, after_value, after_key, after_examined, asked}

-- ---- which stages refuse

-- a refusal's number is at most n
abbrev pub Most : ℕ → Examined → Type 0
Most n (Err s) = stage_number s ≤ n
Most n (Ok (z, c)) = Unit {0}

frame-most : (z : Shape) (img : List ℕ) → Most 7 (after_frame z img (frame_fits? z img))
unfolding after_frame after_chains after_entries after_chunks
frame-most z img =
    choose-by (frame_fits? z img) _ _ (Most 7) (λ _. omega arith) λ _.
    choose-by (chains_fit? z img) _ _ (Most 7) (λ _. omega arith) λ _.
    choose-by (entries_fit? z img) _ _ (Most 7) (λ _. omega arith) λ _.
    choose-by (chunks_fit? z img) _ _ (Most 7) (λ _. omega arith) λ _. tt

block-refused : (e : ParseError) → Most 7 (Err (stage_of e))
block-refused fault.Block = omega arith
block-refused fault.Field = omega arith

block-most : (img : List ℕ) (p : Result Settings ParseError) → Most 7 (after_block img p)
unfolding after_block
block-most img (Err e) = block-refused e
block-most img (Ok st) = frame-most (shape_of st img) img

pub examine-most : (block img : List ℕ) → Most 7 (examine block img)
unfolding examine
examine-most block img = block-most img (parse block)

-- 8 where a key is given, 9 where a record is given too

abbrev pub highest : Given → ℕ
highest nothing = 7
highest (a_key key) = 8
highest (an_entry key value) = 9

given-most : (z : Shape) (c : Counts) (g : Given) → Most (highest g) (after_key z c g (given_key_fits? z.settings g))
unfolding after_key after_value
given-most z c g =
    choose-by (given_key_fits? z.settings g) _ _ (Most (highest g)) (key-no g) λ _.
    choose-by (given_value_fits? z.settings g) _ _ (Most (highest g)) (value-no g) λ _. tt
  where
    key-no : (g : Given) → (GivenKeyFits z.settings g → ⊥) → 8 ≤ highest g
    key-no nothing n = absurd (n tt)
    key-no (a_key key) n = omega arith
    key-no (an_entry key value) n = omega arith

    value-no : (g : Given) → (GivenValueFits z.settings g → ⊥) → 9 ≤ highest g
    value-no nothing n = absurd (n tt)
    value-no (a_key key) n = absurd (n tt)
    value-no (an_entry key value) n = omega arith

highest-least : (g : Given) → 7 ≤ highest g
highest-least nothing = omega arith
highest-least (a_key key) = omega arith
highest-least (an_entry key value) = omega arith

examined-most : (g : Given) (x : Examined) → Most 7 x → Most (highest g) (after_examined g x)
unfolding after_examined
examined-most g (Err s) w = omega (arith, w, highest-least g)
examined-most g (Ok (z, c)) w = given-most z c g

pub asked-most : (block img : List ℕ) (g : Given) → Most (highest g) (asked block img g)
unfolding asked
asked-most block img g = examined-most g (examine block img) (examine-most block img)

pub stage-least : (s : Stage) → 2 ≤ stage_number s
stage-least Block = omega arith
stage-least Field = omega arith
stage-least Frame = omega arith
stage-least Chains = omega arith
stage-least Entries = omega arith
stage-least Chunks = omega arith
stage-least Key = omega arith
stage-least Value = omega arith
stage-least Walk = omega arith

-- ---- a key that fits is never refused with 8

abbrev pub Not8 : Examined → Type 0
Not8 (Err s) = stage_number s ≢ 8
Not8 (Ok (z, c)) = Unit {0}

given-not-8 : (z : Shape) (c : Counts) (g : Given) → GivenKeyFits z.settings g → Not8 (after_key z c g (given_key_fits? z.settings g))
unfolding after_key after_value
given-not-8 z c g fits =
    choose-by (given_key_fits? z.settings g) _ _ Not8 (λ n. absurd (n fits)) λ _.
    choose-by (given_value_fits? z.settings g) _ _ Not8 (λ _. omega arith) λ _. tt

examined-not-8 : (g : Given) → ((st : Settings) → GivenKeyFits st g) → (x : Examined) → Most 7 x → Not8 (after_examined g x)
unfolding after_examined
examined-not-8 g fits (Err s) w = omega arith
examined-not-8 g fits (Ok (z, c)) w = given-not-8 z c g (fits z.settings)

pub asked-not-8 : (block img : List ℕ) (g : Given) → ((st : Settings) → GivenKeyFits st g) → Not8 (asked block img g)
unfolding asked
asked-not-8 block img g fits = examined-not-8 g fits (examine block img) (examine-most block img)
