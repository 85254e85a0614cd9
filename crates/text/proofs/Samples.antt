-- The sample lines, by computing.
use Prim.Native.Nat.{ℕ}
use Prim.Native.String.{String}
use mathlib.Core.Path.{◌≡◌, refl}
use mathlib.Core.List.{List, map, flat_map}
use Rattle.text.specs.Text.{bytes, digits, decimal, spaced}
use Rattle.text.specs.Lines.{line}
use Rattle.text.specs.Samples.{samples}

pub sampled : map (λ (s : List ℕ × String). s.0) samples ≡ map (λ (s : List ℕ × String). bytes s.1) samples
unfolding samples line digits decimal spaced flat_map
sampled = refl
