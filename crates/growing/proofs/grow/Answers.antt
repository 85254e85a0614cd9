use mathlib.Core.Path.{sym, ◌∙◌, subst}
use native.Mathlib.Omega.{arith}
use Rattle.layout.specs.Frame.{Bounded}
use Rattle.layout.proofs.Bounds.{framed-bounded, framed-largest}
use Rattle.growing.proofs.Reshaped.{framed-less}
use Rattle.growing.proofs.Loops.{framed_as, grew}
use Rattle.growing.proofs.grow.Goals as goal

pub grown-more-requires : goal.grown-more-requires
grown-more-requires c = framed-largest (framed-less _ c.requires)

pub put_global-requires : goal.put_global-requires
put_global-requires c = framed_as c.grown-more.ensures c.new_tiers.auto.img c.requires

pub tier_count-requires : goal.tier_count-requires
tier_count-requires c = framed-bounded (framed-less _ c.requires)

pub overflow_add-tier_count : goal.overflow_add-tier_count
overflow_add-tier_count c = omega (arith, c.tier_count.ensures, (framed-less _ c.requires).tier_count)

pub put_global-requires-2 : goal.put_global-requires-2
put_global-requires-2 c = framed_as c.grown-more.ensures (c.put_global.auto.img ∙ c.new_tiers.auto.img) c.requires

pub store_end-requires : goal.store_end-requires
store_end-requires c = subst Bounded (sym c.grown-more.ensures) (framed-bounded c.requires)

pub put_global-requires-3 : goal.put_global-requires-3
put_global-requires-3 c = framed_as c.grown-more.ensures (c.put_global-2.auto.img ∙ c.put_global.auto.img ∙ c.new_tiers.auto.img) c.requires

pub returns : goal.returns
returns c =
    grew c.args.z c.args.img.now c.grown-more.ensures c.tier_count.ensures c.store_end.ensures c.new_tiers.ensures
    c.put_global.ensures c.put_global-2.ensures c.put_global-3.ensures
