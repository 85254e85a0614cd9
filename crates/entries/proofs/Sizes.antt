-- The sizes of an entry: of its bytes, and of the chunks that they take.
use Prim.Native.Nat.{ℕ, suc, ◌+◌, ◌-◌, ◌*◌, ◌/◌, ◌%◌, ◌≤◌, ◌<◌}
use mathlib.Core.Path.{◌≡◌, ap, sym, ◌∙◌, subst}
use mathlib.Core.Logic.{⊎_elim, ◌≢◌}
use mathlib.Core.List.{List}
use native.Mathlib.Omega.{arith}
use native.Mathlib.Nat.{mod-lt}
use Rattle.std.specs.Prelude.{Option, Some, None}
use Rattle.std.specs.Int.{div_ceil}
use Rattle.std.proofs.Math.Nat.{suc-mul}
use Rattle.std.proofs.lemmas.Nat.{div-add-mod', div-mul-add}
use Rattle.lists.specs.Cases.{same_or}
use Rattle.lists.specs.Lists.{ceil}
use lib.ListN.{length, length-append}
use Rattle.lists.proofs.Numbers.{ceil-enough, ceil-pos}
use Rattle.settings.specs.declared.Settings.{Settings}
use Rattle.settings.specs.Rules.{Valid}
use Rattle.leb128.specs.Leb128.{largest_length}
use Rattle.leb128.proofs.Encode.{length-encode}
use Rattle.entries.specs.Stored.{value_offset, entry_size, chunks_for, entry_bytes, ValueFits, SizeSays}

-- ---- lengths that are read are small

module _ (st : Settings) (k v : ℕ) (hk : k ≤ largest_length) (hv : v ≤ largest_length) where
  open st use {chunkSize}

  pub offset-bounds : (2 + k ≤ value_offset st k v) × (value_offset st k v ≤ 6 + k)
  unfolding value_offset
  offset-bounds = omega (arith, length-encode k hk, length-encode v hv)

  module _ (vs : Valid st) where
    pub chunks-pos : 0 < chunks_for st k v
    unfolding chunks_for
    chunks-pos = ceil-pos (entry_size st k v) chunkSize (omega (arith, offset-bounds)) vs.chunkSize.0

    pub chunks-enough : entry_size st k v ≤ chunks_for st k v * chunkSize
    unfolding chunks_for
    chunks-enough = ceil-enough (entry_size st k v) chunkSize vs.chunkSize.0

-- the quotient is rounded up
pub ceil-is : (a b : ℕ) → 0 < b → div_ceil a b ≡ ceil a b
ceil-is a b h =
    let q : ℕ = a / b in
    let split : q * b + a % b ≡ a = div-add-mod' a b in
    let more : suc q * b ≡ q * b + b = suc-mul q b in
    ⊎_elim
    (λ (e : a % b ≡ 0).
    let up : a + b - 1 ≡ q * b + (b - 1) = omega (arith, split) in
    let none : div_ceil a b ≡ q = omega arith in
    none ∙ sym (ap (λ (x : ℕ). x / b) up ∙ div-mul-add q b (b - 1) (omega arith)))
    (λ (e : a % b ≢ 0).
    let up : a + b - 1 ≡ suc q * b + (a % b - 1) = omega (arith, split, more) in
    let one : div_ceil a b ≡ suc q = omega arith in
    one ∙ sym (ap (λ (x : ℕ). x / b) up ∙ div-mul-add (suc q) b (a % b - 1) (omega (arith, mod-lt a h))))
    (same_or (a % b) 0)

-- ---- what was answered on a value

module _ {st : Settings} {k v : ℕ} {r : Option ℕ} (q : SizeSays st k v r) where
  pub size-broken : r ≡ None → ValueFits st k v → ⊥
  size-broken e = subst (SizeSays st k v) e q

  pub size-told : {n : ℕ} → r ≡ Some n → ValueFits st k v × (n ≡ chunks_for st k v)
  size-told e = subst (SizeSays st k v) e q

-- ---- its bytes

pub length-entry : (st : Settings) (key value : List ℕ) → length (entry_bytes st key value) ≡ entry_size st (length key) (length value)
unfolding entry_bytes value_offset
length-entry st key value = simp length-append (omega arith)
