-- The parts of a key's hash.
use Prim.Native.Nat.{ℕ, ◌-◌, ◌/◌, ◌%◌, ◌^◌, ◌≤◌, ◌<◌}
use mathlib.Core.Path.{◌≡◌}
use mathlib.Core.List.{List}
use mathlib.Core.Logic.{◌≢◌}
use native.Mathlib.Omega.{arith}
use native.Mathlib.Nat.{mod-lt}
use lib.Dec.{eqb}
use lib.Pow.{pow_pos, pow_mono}
use borrow.Author.Tests.{eq-eqb, ne_eqb, eqb-true, eqb-false}
use Rattle.lists.specs.Cases.{by-test}
use Rattle.settings.specs.declared.Settings.{Settings}
use Rattle.settings.specs.Rules.{Valid}
use Rattle.xxh64.specs.Hash.{xxh64}
use Rattle.entries.specs.Keys.{segment_of_hash, segment_of, lookup_of_hash, lookup_key, start}

module _ (st : Settings) (h : ℕ) where
  open st use {segments, keyBits}

  -- the two ways that the part is taken
  pub lookup-ones : h / segments % 2 ^ keyBits ≡ 0 → lookup_of_hash st h ≡ 2 ^ keyBits - 1
  unfolding lookup_of_hash
  lookup-ones e = rw (eq-eqb _ 0 e, lookup_of_hash)

  pub lookup-part : h / segments % 2 ^ keyBits ≢ 0 → lookup_of_hash st h ≡ h / segments % 2 ^ keyBits
  unfolding lookup_of_hash
  lookup-part e = rw (ne_eqb _ 0 e, lookup_of_hash)

module _ {st : Settings} (v : Valid st) where
  open st use {segments, slots, keyBits}

  two-le : 2 ≤ 2 ^ keyBits
  two-le = omega (arith, pow_mono {i = 1} {j = keyBits} v.keyBits.0)

  pub lookup-bounds : (h : ℕ) → (lookup_of_hash st h ≢ 0) × (lookup_of_hash st h < 2 ^ keyBits)
  lookup-bounds h =
      by-test (eqb (h / segments % 2 ^ keyBits) 0)
      (λ t. rw (lookup-ones st h (eqb-true _ _ t)) (omega (arith, two-le)))
      (λ t. rw (lookup-part st h (eqb-false _ _ t)) (omega (arith, eqb-false (h / segments % 2 ^ keyBits) 0 t, mod-lt (h / segments) (pow_pos keyBits))))

  pub lookup-bounds-of : (h r : ℕ) → r ≡ lookup_of_hash st h → (r ≡ lookup_of_hash st h) × (0 < r) × (r < 2 ^ keyBits)
  lookup-bounds-of h r e = (e, omega (arith, lookup-bounds h), omega (arith, lookup-bounds h))

  -- never 0, so that a slot with it is never empty
  pub lookup-full : (key : List ℕ) → lookup_key st key ≢ 0
  unfolding lookup_key
  lookup-full key = (lookup-bounds (xxh64 key)).0

  pub lookup-lt : (key : List ℕ) → lookup_key st key < 2 ^ keyBits
  unfolding lookup_key
  lookup-lt key = (lookup-bounds (xxh64 key)).1

  pub start-lt : (lookup : ℕ) → start st lookup < slots
  start-lt lookup = mod-lt lookup (omega (arith, v.slots))

  pub segment_of_hash-lt : (h : ℕ) → segment_of_hash st h < segments
  segment_of_hash-lt h = mod-lt h v.segments.1.0

  pub segment-lt : (key : List ℕ) → segment_of st key < segments
  unfolding segment_of
  segment-lt key = segment_of_hash-lt (xxh64 key)
