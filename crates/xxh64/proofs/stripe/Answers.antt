use Rattle.std.proofs.Common.{refl}
use Rattle.xxh64.specs.Hash.{stripe_of}
use Rattle.xxh64.proofs.stripe.Goals as goal

pub returns : goal.returns
unfolding stripe_of
returns c = (cc, refl, refl)
