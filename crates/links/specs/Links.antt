-- Lists of positive numbers linked by a function `next`: the number after t is `next t`, and 0 is the end.
use Rattle.std.specs.Prelude.{ℕ, zero, suc, List, [], ◌∷◌, ◌≡◌, ◌≢◌, true, false, eqb}

module _ (next : ℕ → ℕ) where
  -- the numbers met from t on, up to 0, at most n of them; and the number that is met after those
  unfoldable pub follow : ℕ → ℕ → List ℕ
  follow zero t = []
  follow (suc n) t = elim (eqb t 0) [ true ↦ [] | false ↦ t ∷ follow n (next t) ]

  unfoldable pub end_of : ℕ → ℕ → ℕ
  end_of zero t = t
  end_of (suc n) t = elim (eqb t 0) [ true ↦ 0 | false ↦ end_of n (next t) ]

-- from t on the numbers of l are met, none of them 0, and then u
pub data Run (next : ℕ → ℕ) : ℕ → List ℕ → ℕ → Type 0 where
  stop : {t u : ℕ} → t ≡ u → Run next t [] u
  step : {t u x : ℕ} {l : List ℕ} → t ≡ x → x ≢ 0 → Run next (next x) l u → Run next t (x ∷ l) u

-- the numbers of l are all that are met from t on
abbrev pub Linked : (ℕ → ℕ) → ℕ → List ℕ → Type 0
Linked next t l = Run next t l 0
