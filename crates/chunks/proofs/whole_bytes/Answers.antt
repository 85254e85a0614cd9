use mathlib.Core.Path.{◌≡◌}
use Prim.Native.Nat.{◌*◌}
use Rattle.layout.specs.Places.{mark}
use Rattle.chunks.proofs.Eights.{byte-more, byte-all}
use Rattle.chunks.proofs.whole_bytes.Goals as goal

pub loop-k-preserved : goal.loop-k-preserved
loop-k-preserved c =
    byte-more c.loop-k.k (λ i. mark c.args.z c.args.img.now c.args.t i ≡ c.args.b) c.loop-k.invariant
    (byte-all c.args.z c.args.img.now c.args.t (c.loop-k.k * 8) _ c.byte_of.ensures c.requires.1 c.if-byte_of-b.false)
