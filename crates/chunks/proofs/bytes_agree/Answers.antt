use native.Mathlib.Omega.{arith}
use mathlib.Core.Path.{sym, ◌≡◌}
use Prim.Native.Nat.{◌+◌, ◌*◌}
use lib.ListN.{get_or}
use Rattle.layout.specs.Places.{mark}
use Rattle.chunks.proofs.Marks.{marked-none, marked-le}
use Rattle.chunks.proofs.Eights.{byte-more, marked-eight, ones-byte, byte-same}
use Rattle.chunks.proofs.bytes_agree.Goals as goal

pub loop-k-init : goal.loop-k-init
loop-k-init c = (λ i h. absurd (omega arith), sym (marked-none _ _ _))

pub overflow_add-marked : goal.overflow_add-marked
overflow_add-marked c =
    omega (
      arith,
      ones-byte c.byte_of-v.result c.byte_of-v.type_inv,
      marked-eight c.args.z c.args.img.now c.args.t (c.loop-k.k * 8) _ c.byte_of-v.ensures,
      marked-le c.args.z c.args.img.now c.args.t (c.loop-k.k * 8 + 8),
      c.requires.tier.framed.valid.chunks.1,
    )

pub loop-k-preserved : goal.loop-k-preserved
loop-k-preserved c =
    let more : (c.loop-k.k + 1) * 8 ≡ c.loop-k.k * 8 + 8 = omega arith in
    let eight = marked-eight c.args.z c.args.img.now c.args.t (c.loop-k.k * 8) _ c.byte_of-v.ensures in (
      byte-more c.loop-k.k (λ i. get_or c.args.covered.now i 0 ≡ mark c.args.z c.args.img.now c.args.t i) c.loop-k.invariant.0
          (byte-same c.args.z c.args.img.now c.args.t (c.loop-k.k * 8) _ c.byte_of-v.ensures c.args.covered.now c.if-not-byte_agrees.ensures),
      rw more (omega (arith, ones-byte c.byte_of-v.result c.byte_of-v.type_inv, eight)),
    )
