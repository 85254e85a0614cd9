use Rattle.contents.proofs.Answer.{contents-told}
use Rattle.contents.proofs.Saying.{says-small}
use native.Mathlib.Omega.{arith}
use Rattle.contents.proofs.contents_of.Goals as goal

pub joined-requires : goal.joined-requires
joined-requires c =
    record {
      left = c.chained_contents.ensures.1;
      right = says-small 4294967296 (omega arith) (omega arith) c.free_contents.result c.free_contents.ensures;
    }

pub returns : goal.returns
returns c =
    contents-told c.args.z c.args.img.now c.chained_contents.ensures.0 c.free_contents.ensures
    c.joined.ensures
