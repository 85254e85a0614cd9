use mathlib.Core.Path.{sym, ◌∙◌, subst}
use native.Mathlib.Omega.{arith}
use Rattle.layout.specs.Tiers.{IsTier}
use Rattle.sound.proofs.Framing.{framed-again}
use Rattle.unlinking.proofs.Neighbours.{is-tier, before-tier, used-some, lower-asks}
use Rattle.unlinking.proofs.Closing.{prior-is, unlinked}
use Rattle.unlinking.proofs.unlink.Goals as goal

pub shared-next-requires : goal.shared-next-requires
shared-next-requires c = (c.requires.framed, is-tier _ _ _ _ c.requires.fits c.requires.extra_of)

pub read-counters-requires : goal.read-counters-requires
read-counters-requires c = (c.requires.framed, is-tier _ _ _ _ c.requires.fits c.requires.extra_of)

pub close_up-requires : goal.close_up-requires
close_up-requires c = lower-asks _ _ _ _ c.requires.fits c.requires.extra_of c.requires.framed c.shared-next.ensures

pub put_shared-requires : goal.put_shared-requires
put_shared-requires c =
    let tier-before = before-tier c.args.z c.args.img.now _ _ c.requires.fits c.requires.extra_of in (
      framed-again c.close_up.auto.img c.requires.framed,
      subst (IsTier c.args.z) (sym (prior-is c.args.z c.args.img.now c.args.t c.read-counters.ensures)) tier-before,
    )

pub put_shared-requires-2 : goal.put_shared-requires-2
put_shared-requires-2 c = (
  framed-again (c.put_shared.auto.img ∙ c.close_up.auto.img) c.requires.framed,
  is-tier _ _ _ _ c.requires.fits c.requires.extra_of,
)

pub overflow_sub-used : goal.overflow_sub-used
overflow_sub-used c = omega (arith, c.global-used.ensures, used-some _ _ _ _ c.requires.fits c.requires.extra_of)

pub put_global-requires-2 : goal.put_global-requires-2
put_global-requires-2 c = framed-again (c.put_global.auto.img ∙ c.put_shared-2.auto.img ∙ c.put_shared.auto.img ∙ c.close_up.auto.img) c.requires.framed

pub returns : goal.returns
returns c =
    unlinked c.args.z c.args.img.now c.args.t
    (record {
      next_is = c.shared-next.ensures;
      counters_is = c.read-counters.ensures;
      free_is = c.global-free.ensures;
      used_is = c.global-used.ensures;
    })
    c.close_up.ensures c.put_shared.ensures c.put_shared-2.ensures c.put_global.ensures c.put_global-2.ensures
