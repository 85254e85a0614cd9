-- Answers taken together, and answers to questions that say the same.
use Rattle.std.specs.Prelude.{Result, Ok, Err}
use Prim.Native.Nat.{ℕ, ◌+◌, ◌≤◌}
use mathlib.Core.Path.{◌≡◌, ◌∙◌, sym, subst}
use native.Mathlib.Omega.{arith}
use Rattle.contents.specs.declared.ContentsError.{ContentsError}
use Rattle.contents.specs.declared.ContentsError.TheVariants.{Chunks, Entries}
use Rattle.contents.specs.Counting.{Says, joined, AtMost}

module _ {E C E' C' : Type 0} {n m n' m' : ℕ} where
  joined_says : (a b : Result (ℕ × ℕ) ContentsError) → Says E C n m a → Says E' C' n' m' b → Says (E × E') (C × C') (n + n') (m + m') (joined a b)
  joined_says (Err Entries) b p q = record { so = λ e. p.so e.0 }
  joined_says (Err Chunks) (Err Entries) p q = record { so = λ e. q.so e.1 }
  joined_says (Err Chunks) (Err Chunks) p q = record { so = ((p.so.0, q.so.0), λ c. p.so.1 c.0) }
  joined_says (Err Chunks) (Ok (x, y)) p q = record { so = ((p.so.0, q.so.0.0), λ c. p.so.1 c.0) }
  joined_says (Ok (a, b)) (Err Entries) p q = record { so = λ e. q.so e.1 }
  joined_says (Ok (a, b)) (Err Chunks) p q = record { so = ((p.so.0.0, q.so.0), λ c. q.so.1 c.1) }
  joined_says (Ok (a, b)) (Ok (x, y)) p q =
      record {
        so = (
          ((p.so.0.0, q.so.0.0), (p.so.0.1, q.so.0.1)),
          (omega (arith, p.so.1.0, q.so.1.0), omega (arith, p.so.1.1, q.so.1.1)),
        );
      }

  pub both_say : {a b r : Result (ℕ × ℕ) ContentsError} → r ≡ joined a b → Says E C n m a → Says E' C' n' m' b → Says (E × E') (C × C') (n + n') (m + m') r
  both_say {a} {b} e p q = subst (Says (E × E') (C × C') (n + n') (m + m')) (sym e) (joined_says a b p q)

  -- the same questions in other words
  pub says_as : (E → E') → (E' → E) → (C → C') → (C' → C) → n ≡ n' → m ≡ m' → (r : Result (ℕ × ℕ) ContentsError) → Says E C n m r → Says E' C' n' m' r
  says_as f g h k en em (Err Entries) p = record { so = λ e. p.so (g e) }
  says_as f g h k en em (Err Chunks) p = record { so = (f p.so.0, λ c. p.so.1 (k c)) }
  says_as f g h k en em (Ok (a, b)) p = record { so = ((f p.so.0.0, h p.so.0.1), (p.so.1.0 ∙ en, p.so.1.1 ∙ em)) }

pub says-small : {E C : Type 0} {n m : ℕ} (k : ℕ) → n ≤ k → m ≤ k → (r : Result (ℕ × ℕ) ContentsError) → Says E C n m r → AtMost k r
says-small k hn hm (Err Entries) p = tt
says-small k hn hm (Err Chunks) p = tt
says-small k hn hm (Ok (a, b)) p = (omega (arith, p.so.1.0), omega (arith, p.so.1.1))

-- an answer that is taken by its error
pub error-at : {r : Result (ℕ × ℕ) ContentsError} {e e' : ContentsError} → r ≡ Err e → e ≡ e' → r ≡ Err e'
error-at {r} q w = subst (λ (x : ContentsError). r ≡ Err x) w q

-- counts that are added, with the equations that they are taken by
pub can-add : (a b : Result (ℕ × ℕ) ContentsError) → AtMost 4294967296 a → AtMost 4294967296 b → (n m : ℕ) → a ≡ Ok (n, m) → (n' m' : ℕ) → b ≡ Ok (n', m')
    → (n + n' ≤ 8589934592) × (m + m' ≤ 8589934592)
can-add a b p q n m e n' m' f =
    let p' : AtMost 4294967296 (Ok (n, m)) = subst (AtMost 4294967296) e p in
    let q' : AtMost 4294967296 (Ok (n', m')) = subst (AtMost 4294967296) f q in
    omega (arith, p', q')
