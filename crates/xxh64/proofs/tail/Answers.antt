use Rattle.std.proofs.Common.{◌≡◌, ◌∙◌, sym, arith}
use Rattle.xxh64.proofs.Laws.{tail_of-none, tail_of-more}
use Rattle.xxh64.proofs.tail.Goals as goal

pub loop-k-init : goal.loop-k-init
loop-k-init g c = λ m is. sym (tail_of-none m _ _ _ _)

pub loop-k-preserved : goal.loop-k-preserved
loop-k-preserved g c =
    λ m is. is _ _ _ c.mix-acc.ensures ∙ rw (c.loop-k.invariant m is, c.read_le.ensures.0) (sym (tail_of-more m _ _ _ _ c.loop-k.k))

pub returns : goal.returns
returns g c = λ m is. let e : c.loop-k.k ≡ c.args.n = omega arith in rw (← e) (c.loop-k.invariant m is)
