-- The frame asks only how long an image is.
use Prim.Native.Nat.{ℕ}
use mathlib.Core.Path.{◌≡◌, sym, subst}
use Rattle.layout.specs.declared.Shape.{Shape}
use Rattle.layout.specs.Frame.{Framed}

pub framed-again : {z : Shape} {m n : ℕ} → m ≡ n → Framed z n → Framed z m
framed-again {z} e fr = subst (Framed z) (sym e) fr
