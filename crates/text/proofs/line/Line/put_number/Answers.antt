use Rattle.std.proofs.Common.{◌≡◌, ◌∙◌, ap, length, arith}
use Rattle.text.specs.Text.{decimal}
use Rattle.text.proofs.Decimal.{decimal-std, decimal-short}
use Rattle.text.proofs.Adding.{added_as, added-within}
use Rattle.text.proofs.line.Line.put_number.Goals as goal
use Rattle.text.proofs.line.Line.put_number.Goals.{After-as_bytes}

written : (c : After-as_bytes) → c.as_bytes.result.now ≡ decimal c.args.n
written c = c.as_bytes.ensures.value ∙ c.format.ensures.text ∙ decimal-std c.args.n c.ranges.n.fits

pub put_word-requires : goal.put_word-requires
put_word-requires c = omega (arith, ap length (written c), decimal-short c.args.n c.ranges.n.fits)

pub returns : goal.returns
returns c =
    added-within
    (added_as (written (goal.at.returns c).After-as_bytes) c.put_word.ensures)
    (decimal-short c.args.n c.ranges.n.fits)
