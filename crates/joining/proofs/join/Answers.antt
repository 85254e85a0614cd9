use mathlib.Core.Path.{sym, ◌∙◌, subst}
use Rattle.layout.specs.Tiers.{IsTier}
use Rattle.sound.proofs.Framing.{framed-again}
use Rattle.joining.proofs.EndOfChain.{last-tier}
use Rattle.joining.proofs.Putting.{joined}
use Rattle.joining.proofs.join.Goals as goal

pub put_shared-requires : goal.put_shared-requires
put_shared-requires c = (
  c.requires.follows.framed,
  subst (IsTier c.args.z) (sym c.end_of_chain-end.ensures.last_is)
      (last-tier c.args.z c.args.img.now c.args.s c.requires.follows),
)

pub put_shared-requires-2 : goal.put_shared-requires-2
put_shared-requires-2 c = (
  framed-again (c.put_global-2.auto.img ∙ c.put_global.auto.img ∙ c.put_shared.auto.img) c.requires.follows.framed,
  subst (IsTier c.args.z) (sym c.global-free.ensures) c.requires.free_in,
)

pub put_counter-requires : goal.put_counter-requires
put_counter-requires c = (
  framed-again (c.put_shared-2.auto.img ∙ c.put_global-2.auto.img ∙ c.put_global.auto.img ∙ c.put_shared.auto.img) c.requires.follows.framed,
  subst (IsTier c.args.z) (sym c.global-free.ensures) c.requires.free_in,
)

pub put_counter-requires-2 : goal.put_counter-requires-2
put_counter-requires-2 c = (
  framed-again (c.put_counter.auto.img ∙ c.put_shared-2.auto.img ∙ c.put_global-2.auto.img ∙ c.put_global.auto.img ∙ c.put_shared.auto.img)
      c.requires.follows.framed,
  subst (IsTier c.args.z) (sym c.global-free.ensures) c.requires.free_in,
)

pub put_counter-requires-3 : goal.put_counter-requires-3
put_counter-requires-3 c = (
  framed-again (c.put_counter-2.auto.img ∙ c.put_counter.auto.img ∙ c.put_shared-2.auto.img ∙ c.put_global-2.auto.img ∙ c.put_global.auto.img
      ∙ c.put_shared.auto.img) c.requires.follows.framed,
  subst (IsTier c.args.z) (sym c.global-free.ensures) c.requires.free_in,
)

pub returns : goal.returns
returns c =
    joined c.args.z c.args.img.now c.args.s
    (record {
      free_is = c.global-free.ensures;
      next_is = c.shared-next.ensures;
      used_is = c.global-used.ensures;
      last_is = c.end_of_chain-end.ensures.last_is;
      count_is = c.end_of_chain-end.ensures.length_is;
    })
    c.put_shared.ensures c.put_global.ensures c.put_global-2.ensures c.put_shared-2.ensures c.put_counter.ensures
    c.put_counter-2.ensures c.put_counter-3.ensures
