-- References to full slots: what they refer to, the test of a search for a key, and lists of them as tables.
use Prim.Native.Nat.{ℕ, ◌+◌, ◌*◌, ◌/◌, ◌%◌, ◌≤◌, ◌<◌}
use mathlib.Core.Path.{◌≡◌, ap, sym, ◌∙◌}
use mathlib.Core.List.{List}
use mathlib.Core.Bool.{true, false≢true}
use mathlib.Core.Logic.{◌≢◌}
use native.Mathlib.Omega.{arith}
use native.Mathlib.Nat.{mod-lt, div-eq_of_lt, mul-add-div_right, div-add-mod', mul-le-mul_right}
use lib.ListN.{length, length-set}
use lib.Seq.{get_or-set_same, get_or-set_other}
use Rattle.lists.specs.Decide.{Decides}
use Rattle.lists.proofs.Decides.{decides}
use Rattle.layout.specs.declared.Shape.{Shape}
use Rattle.probe.proofs.Table.{Lawful}
use Rattle.entries.specs.Keys.{lookup_key, slot_key}
use Rattle.entries.specs.Live.{slot_at}
use Rattle.search.specs.Search.{hits}
use Rattle.search.specs.Rules.{keyAt}
use Rattle.search.proofs.Finding.{hits-key, hits-own}
use Rattle.gather.specs.Rows.{Place}
use Rattle.once.specs.declared.Sharing.{Sharing}
use Rattle.once.specs.Sharing.{place_for, number_of}
use Rattle.once.specs.Refs.{ref_to, key_of_ref, meant, SameKey, ref_table}

-- a reference is small, and is read back
pub ref-small : (t n j : ℕ) → t ≤ 1024 → n ≤ 4096 → j < n → t * n + j < 4198400
ref-small t n j ht hn hj = omega (arith, mul-le-mul_right n ht)

module _ (n t j : ℕ) (h : j < n) where
  pub tier-back : (t * n + j) / n ≡ t
  tier-back = omega (arith, mul-add-div_right {m = n} (omega arith) t j, div-eq_of_lt h)

  pub slot-back : (t * n + j) % n ≡ j
  slot-back = omega (arith, div-add-mod' (t * n + j) n, ap (λ (x : ℕ). x * n) tier-back)

module _ (z : Shape) (img : List ℕ) where
  open z use {settings}
  open settings use {slots}

  -- the slot holds the lookup key of its key
  abbrev pub Looks : Place → Type 0
  Looks a = lookup_key settings (keyAt z img a.0 a.1) ≡ slot_key settings (slot_at z img a.0 a.1)

  module _ (a : Place) (h : a.1 < slots) where
    pub ref-key : key_of_ref z img (ref_to z img a) ≡ keyAt z img a.0 a.1
    unfolding key_of_ref
    ref-key = rw (tier-back slots a.0 a.1 h, slot-back slots a.0 a.1 h)

    pub ref-full : 1 ≤ a.0 → ref_to z img a ≢ 0
    ref-full l e = omega (arith, mul-le-mul_right slots l)

    -- the test of a search for b, at a reference to a
    pub tests : (b : Place) → Looks a → Decides (meant z img b (ref_to z img a)) (SameKey z img a b)
    unfolding meant
    tests b la =
        rw (tier-back slots a.0 a.1 h, slot-back slots a.0 a.1 h)
        (decides (hits z img (keyAt z img b.0 b.1) a.0 (slot_at z img a.0 a.1))
        (λ t. hits-key z img (keyAt z img b.0 b.1) a.0 a.1 t)
        (λ f s. false≢true (sym f ∙ hits-own z img (keyAt z img b.0 b.1) a.0 a.1 (sym la ∙ ap (lookup_key settings) s) s)))

    -- what is meant starts where the search does
    pub starts : (by : Sharing) (n w : ℕ) → meant z img a w ≡ true → (ref_table z img by n).start w ≡ (ref_table z img by n).start (ref_to z img a)
    unfolding meant key_of_ref
    starts by n w t =
        let same : key_of_ref z img w ≡ keyAt z img a.0 a.1 = hits-key z img (keyAt z img a.0 a.1) (w / slots) (w % slots) t in
        ap (λ (k : List ℕ). place_for by.passBits n (number_of by settings k)) (same ∙ sym ref-key)

  -- where the search for the key of slot a starts, as it is computed
  pub search-start : (by : Sharing) (a : Place) → a.1 < slots → (n : ℕ) → {number i : ℕ}
      → number ≡ number_of by settings (keyAt z img a.0 a.1)
      → i ≡ place_for by.passBits n number → i ≡ (ref_table z img by n).start (ref_to z img a)
  search-start by a h n e q = q ∙ ap (place_for by.passBits n) (e ∙ ap (number_of by settings) (sym (ref-key a h)))

  -- ---- a list of references is a lawful table

  module _ (by : Sharing) (n : ℕ) (two : 1 < n) where
    pub start-lt : (v : ℕ) → (ref_table z img by n).start v < n
    unfolding place_for
    start-lt v = mod-lt _ (omega arith)

    abbrev pub lawful : Lawful (ref_table z img by n)
    lawful =
        record {
          Ok = λ m. length m ≡ n;
          Fit = λ v. Unit {0};
          two = two;
          start-lt = start-lt;
          fit-zero = tt;
          fit-get = λ m j ok. tt;
          ok-put = λ m j v ok hj fit. length-set m j v ∙ ok;
          same = λ m j v ok hj fit. get_or-set_same m j v 0 (omega (arith, ok));
          other = λ m j v k ok hj hk ne. get_or-set_other m j k v 0 ne;
        }
