-- What is known of a fitting lowest free chunk field: the exact number fits, the same number fits where the same chunks are clear, and
-- below it no chunk is clear.
use Prim.Native.Nat.{ℕ, ◌≤◌}
use mathlib.Core.List.{List}
use mathlib.Core.Path.{◌≡◌, sym, ◌∙◌}
use mathlib.Core.Bool.{false}
use native.Mathlib.Omega.{arith}
use Rattle.lists.specs.Quantify.{Below}
use Rattle.layout.specs.declared.Shape.{Shape}
use Rattle.chunks.specs.Chunks.{clear, lowest_clear, low_field, LowMarkFits}
use Rattle.chunks.proofs.Marks.{lowest-few, below-lowest}

pub low-mark-exact : {z : Shape} {img : List ℕ} {t : ℕ} → low_field z img t ≡ lowest_clear z img t → LowMarkFits z img t
low-mark-exact e = record { none_below = omega (arith, e); when_full = λ full. e ∙ full }

pub low-mark-same : {z z' : Shape} {img img' : List ℕ} {t : ℕ} → z'.settings.chunks ≡ z.settings.chunks
    → low_field z' img' t ≡ low_field z img t → lowest_clear z' img' t ≡ lowest_clear z img t → LowMarkFits z img t → LowMarkFits z' img' t
low-mark-same many field bits f =
    record { none_below = omega (arith, field, bits, f.none_below); when_full = λ full. field ∙ f.when_full (sym bits ∙ full ∙ many) ∙ sym many }

pub low-mark-few : {z : Shape} {img : List ℕ} {t : ℕ} → LowMarkFits z img t → low_field z img t ≤ z.settings.chunks
low-mark-few {z} {img} {t} f = omega (arith, f.none_below, lowest-few z img t)

pub low-mark-below : {z : Shape} {img : List ℕ} {t : ℕ} → LowMarkFits z img t → Below (low_field z img t) (λ i. clear z img t i ≡ false)
low-mark-below {z} {img} {t} f i h = below-lowest z img t i (omega (arith, f.none_below))
