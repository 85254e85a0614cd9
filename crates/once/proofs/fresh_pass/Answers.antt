use Rattle.once.proofs.Walking.{can-pass}
use Rattle.once.proofs.fresh_pass.Goals as goal

pub pass-requires : goal.pass-requires
pass-requires g c =
    can-pass c.args.z c.args.img.now c.args.by c.args.p c.args.s c.requires.0 _ c.requires.1 c.requires.2 c.requires.3
