-- Bytes written one by one, and an entry's bytes written part by part.
use Prim.Native.Nat.{ℕ, suc, ◌+◌, ◌≤◌, ◌<◌}
use mathlib.Core.List.{List, ◌++◌}
use mathlib.Core.Path.{◌≡◌, refl, ap, ap₂, sym, ◌∙◌}
use native.Mathlib.Omega.{arith}
use native.Mathlib.Nat.{add-zero}
use lib.ListN.{length, get_or, set, drop, length-append, length-set, drop_of_length-le}
use lib.Seq.{sets, drop-cons}
use Rattle.words.proofs.Bytes.{sets_then}
use Rattle.settings.specs.declared.Settings.{Settings}
use Rattle.leb128.specs.Leb128.{encode}
use Rattle.entries.specs.Stored.{value_offset, entry_bytes}
use Rattle.entries.proofs.Sizes.{length-entry}

-- ---- the loop: what is left to write gives the same as the whole

pub record Copying (l₀ : List ℕ) (at : ℕ) (bs l : List ℕ) (i : ℕ) : Type 0 where
  pub low : i ≤ length bs
  pub long : length l ≡ length l₀
  pub is : sets l (at + i) (drop i bs) ≡ sets l₀ at bs

pub copying_starts : (l : List ℕ) (at : ℕ) (bs : List ℕ) → Copying l at bs l 0
copying_starts l at bs = record { low = omega arith; long = refl; is = ap (λ (k : ℕ). sets l k bs) (add-zero at) }

module _ {l₀ : List ℕ} {at : ℕ} {bs l : List ℕ} {i : ℕ} (w : Copying l₀ at bs l i) where
  pub copying_turns : i < length bs → Copying l₀ at bs (set l (at + i) (get_or bs i 0)) (i + 1)
  copying_turns h =
      let e : at + (i + 1) ≡ suc (at + i) = omega arith in
      let f : i + 1 ≡ suc i = omega arith in
      record {
        low = omega arith;
        long = length-set l (at + i) (get_or bs i 0) ∙ w.long;
        is =
            ap₂ (λ (k n : ℕ). sets (set l (at + i) (get_or bs i 0)) k (drop n bs)) e f ∙
            sym (ap (sets l (at + i)) (drop-cons bs i 0 h)) ∙ w.is;
      }

  pub copying_ends : length bs ≤ i → l ≡ sets l₀ at bs
  copying_ends h = sym (ap (sets l (at + i)) (drop_of_length-le bs h)) ∙ w.is

-- ---- one part after the other

module _ (st : Settings) (key value : List ℕ) where
  -- the four parts fit where the entry does
  pub entry-room : (at n : ℕ) → at + length (entry_bytes st key value) ≤ n
      → at + length (encode (length key)) + length key + length (encode (length value)) + length value ≤ n
  unfolding value_offset
  entry-room at n h = omega (arith, length-entry st key value)

  pub entry-written : (img : List ℕ) (at : ℕ) {one two three four : List ℕ} {keyAt valueAt : ℕ} → keyAt ≡ at + length (encode (length key))
      → one ≡ sets img at (encode (length key)) → two ≡ sets one keyAt key → valueAt ≡ keyAt + length key + length (encode (length value))
      → three ≡ sets two (keyAt + length key) (encode (length value)) → four ≡ sets three valueAt value
      → four ≡ sets img at (entry_bytes st key value)
  unfolding entry_bytes
  entry-written img at {one} {two} {three} {four} {keyAt} {valueAt} ek e₁ e₂ ev e₃ e₄ =
      let a : List ℕ = encode (length key) in
      let b : List ℕ = encode (length value) in
      let h₂ : keyAt + length key ≡ at + length (a ++ key) = omega (arith, length-append a key) in
      let h₃ : valueAt ≡ at + length (a ++ key ++ b) = omega (arith, length-append a key, length-append (a ++ key) b) in
      let f₂ : two ≡ sets img at (a ++ key) = e₂ ∙ sets_then img at a key e₁ ek in
      let f₃ : three ≡ sets img at (a ++ key ++ b) = e₃ ∙ sets_then img at (a ++ key) b f₂ h₂ in
      e₄ ∙ sets_then img at (a ++ key ++ b) value f₃ h₃
