-- Elements that are met one after the other, of any kind and in any order: those met, and one more; those that one pass meets.
use Prim.Native.Nat.{ℕ, ◌<◌}
use mathlib.Core.Path.{◌≡◌, refl, ap, sym, ◌∙◌, subst}
use mathlib.Core.Logic.{◌⊎◌, ⊎_elim}
use mathlib.Core.Bool.{Bool, true}
use Rattle.lists.specs.Decide.{Decides}
use Rattle.lists.specs.Quantify.{Below}
use Rattle.lists.proofs.Decides.{decided_true, decided-false}
use Rattle.probe.specs.Table.{Table}
use Rattle.gather.specs.Table.{Holds, Takes, Lacks, Adds}
use Rattle.gather.specs.Once.{Once, Twin, Gathered, Passed}
use Rattle.gather.proofs.Adding.{takes_none, holds-none}

-- P' picks what P does, and b
pub record More {A : Type 0} (P P' : A → Type 0) (b : A) : Type 0 where
  pub kept : (a : A) → P a → P' a
  pub has : P' b
  pub only : (a : A) → P' a → P a ⊎ (a ≡ b)

module _ {A : Type 0} (same : A → A → Type 0) (P P' : A → Type 0) where
  once-less : ((a : A) → P' a → P a) → Once same P → Once same P'
  once-less f o a b pa pb s = o a b (f a pa) (f b pb) s

  -- one more, that is the same as none before
  once_more : ((a b : A) → same a b → same b a) → (b : A) → More P P' b → Once same P → (Twin same P b → ⊥) → Once same P'
  once_more back b g o n x y px py s =
      ⊎_elim
      (λ (p : P x). ⊎_elim (λ (q : P y). o x y p q s) (λ (q : y ≡ b). absurd (n (x, (p, subst (same x) q s)))) (g.only y py))
      (λ (p : x ≡ b).
      ⊎_elim (λ (q : P y). absurd (n (y, (q, subst (same y) p (back x y s))))) (λ (q : y ≡ b). p ∙ sym q) (g.only y py))
      (g.only x px)

-- those that are the same are met in the same pass
module _ {A : Type 0} (same : A → A → Type 0) (P : A → Type 0) (part : A → ℕ) (n : ℕ) where
  -- those that pass p meets
  abbrev pub InPart : ℕ → A → Type 0
  InPart p a = P a × (part a ≡ p)

  pub once-passes : ((a b : A) → P a → P b → same a b → part a ≡ part b) → ((a : A) → P a → part a < n)
      → Below n (λ p. Once same (InPart p)) → Once same P
  once-passes parts low f a b pa pb s = f (part a) (low a pa) a b (pa, refl) (pb, sym (parts a b pa pb s)) s

module _ {M : Type 0} (𝓣 : Table M) {A : Type 0} (number : A → ℕ) (same : A → A → Type 0) where
  open 𝓣 use {size, get}

  -- a table with no number in it stands for no element
  pub passed_none : (m : M) (left : ℕ) (P : A → Type 0) → left < size → Below size (λ j. get m j ≡ 0) → ((a : A) → P a → ⊥)
      → Passed 𝓣 number same m left P
  passed_none m left P h z n =
      record {
        gathered = record { takes = takes_none 𝓣 m left h z; from = λ w k. absurd (holds-none 𝓣 m w z k); all = λ a p. absurd (n a p) };
        once = λ a b pa pb s. absurd (n a pa);
      }

  module _ {m : M} {left : ℕ} {P : A → Type 0} (w : Passed 𝓣 number same m left P) where
    -- the same, picked in another way
    pub passed-same : (P' : A → Type 0) → ((a : A) → P a → P' a) → ((a : A) → P' a → P a) → Passed 𝓣 number same m left P'
    passed-same P' f h =
        let g : Gathered 𝓣 number m left P = w.gathered in
        record {
          gathered = record {
            takes = g.takes;
            from = λ x k. let r : _ = g.from x k in (r.0, (f r.0 r.1.0, r.1.1));
            all = λ a p. g.all a (h a p);
          };
          once = once-less same P P' h w.once;
        }

    -- ---- b is looked up, by a test that tells which of those met is the same as b

    module _ (b : A) (meant : ℕ → Bool) (tests : (a : A) → P a → Decides (meant (number a)) (same a b)) where
      pub passed-twin : (x : ℕ) × (Holds 𝓣 m x × (meant x ≡ true)) → Twin same P b
      passed-twin f =
          let a : _ = w.gathered.from f.0 f.1.0 in
          (a.0, (a.1.0, decided_true (meant (number a.0)) (tests a.0 a.1.0) (ap meant a.1.1 ∙ f.1.1)))

      no-twin : Lacks 𝓣 meant m → Twin same P b → ⊥
      no-twin l t = decided-false (meant (number t.0)) (tests t.0 t.1.0) (l _ (w.gathered.all t.0 t.1.0)) t.1.1

      -- and put in, if none is
      pub passed-more : ((a b : A) → same a b → same b a) → {P' : A → Type 0} → More P P' b → Lacks 𝓣 meant m → {m' : M}
          → Adds 𝓣 m m' (number b) → {left' : ℕ} → Takes 𝓣 m' left' → Passed 𝓣 number same m' left' P'
      passed-more back {P'} more l {m'} d t =
          let g : Gathered 𝓣 number m left P = w.gathered in
          record {
            gathered = record {
              takes = t;
              from = λ x k. ⊎_elim
                  (λ h. let r : _ = g.from x h in (r.0, (more.kept r.0 r.1.0, r.1.1)))
                  (λ (q : x ≡ number b). (b, (more.has, sym q)))
                  (d.only x k);
              all = λ a p. ⊎_elim
                  (λ (q : P a). d.kept (number a) (g.all a q))
                  (λ (q : a ≡ b). subst (λ (x : A). Holds 𝓣 m' (number x)) (sym q) d.added)
                  (more.only a p);
            };
            once = once_more same P P' back b more w.once (no-twin l);
          }
