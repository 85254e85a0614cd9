-- The order of refusals, for all calls: the lowest of 2 to 9 that applies.
use Rattle.std.specs.Prelude.{ℕ, List, length, Ok, Err}
use Rattle.lists.specs.Decide.{choose}
use Rattle.settings.specs.declared.Settings.{Settings}
use Rattle.entries.specs.Keys.{KeyFits, key_fits?}
use Rattle.entries.specs.Stored.{ValueFits, value_fits?}
use Rattle.layout.specs.declared.Shape.{Shape}
use Rattle.image.specs.declared.Counts.{Counts}
use Rattle.image.specs.declared.Stage.TheVariants.{Key, Value}
use Rattle.image.specs.Check.{Examined, examine}

-- what a call is given beside the block and the image
pub data Given : Type 0 where
  nothing : Given
  a_key : List ℕ → Given
  an_entry : List ℕ → List ℕ → Given

-- 8 and 9 of what is given
abbrev pub GivenKeyFits : Settings → Given → Type 0
GivenKeyFits st nothing = Unit {0}
GivenKeyFits st (a_key key) = KeyFits st key
GivenKeyFits st (an_entry key value) = KeyFits st key

unfoldable pub given_key_fits? : (st : Settings) (g : Given) → Dec (GivenKeyFits st g)
given_key_fits? st nothing = yes tt
given_key_fits? st (a_key key) = key_fits? st key
given_key_fits? st (an_entry key value) = key_fits? st key

abbrev pub GivenValueFits : Settings → Given → Type 0
GivenValueFits st nothing = Unit {0}
GivenValueFits st (a_key key) = Unit {0}
GivenValueFits st (an_entry key value) = ValueFits st (length key) (length value)

unfoldable pub given_value_fits? : (st : Settings) (g : Given) → Dec (GivenValueFits st g)
given_value_fits? st nothing = yes tt
given_value_fits? st (a_key key) = yes tt
given_value_fits? st (an_entry key value) = value_fits? st (length key) (length value)

-- 8 before 9; each after 2 to 7
unfoldable pub after_value : (z : Shape) → Counts → (g : Given) → Dec (GivenValueFits z.settings g) → Examined
after_value z c g d = choose d (λ _. Err Value) (λ _. Ok (z, c))

unfoldable pub after_key : (z : Shape) → Counts → (g : Given) → Dec (GivenKeyFits z.settings g) → Examined
after_key z c g d = choose d (λ _. Err Key) (λ _. after_value z c g (given_value_fits? z.settings g))

unfoldable pub after_examined : Given → Examined → Examined
after_examined g (Err s) = Err s
after_examined g (Ok (z, c)) = after_key z c g (given_key_fits? z.settings g)

unfoldable pub asked : List ℕ → List ℕ → Given → Examined
asked block img g = after_examined g (examine block img)
