use Rattle.xxh64.specs.Hash.{mix8_of, mix4_of, mix1_of, rest_of}
use Rattle.xxh64.proofs.finish.Goals as goal

pub returns : goal.returns
unfolding rest_of
returns c =
    let eights = c.tail-acc8.ensures mix8_of (λ acc w r p. p) in
    let fours = c.tail-acc4.ensures mix4_of (λ acc w r p. p) in
    let singles = c.tail-acc1.ensures mix1_of (λ acc w r p. p) in
    rw (c.avalanche.ensures, singles, fours, eights)
