use native.Mathlib.Omega.{arith}
use Rattle.once.proofs.Reading.{chain-tier}
use Rattle.once.proofs.Tiers.{tiers-start, tiers_in_lem}
use Rattle.contents.proofs.later_entries.Goals as goal

pub shared-main-requires : goal.shared-main-requires
shared-main-requires c = (
  c.requires.chains.framed,
  chain-tier (c.requires) (tiers_in_lem c.args.z c.args.img.now c.args.s c.requires.fits
      (tiers-start c.args.z c.args.img.now c.args.s) (omega arith)),
)
