use Rattle.std.proofs.Common.{◌≡◌, ◌-◌, ◌%◌, ◌∙◌, arith, rules}
use Rattle.xxh64.proofs.Laws.{rotl64-or}
use Rattle.xxh64.proofs.rotl.Goals as goal

pub returns : goal.returns
returns c =
    let low : c.args.n % 64 ≡ c.args.n = omega arith in
    let high : (64 - c.args.n) % 64 ≡ 64 - c.args.n = omega arith in
    c.rotate_left.ensures ∙ rw (low, high) (rotl64-or c.args.x c.args.n (search rules) (search rules))
