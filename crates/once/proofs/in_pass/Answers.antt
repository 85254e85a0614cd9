use Prim.Native.Nat.{ℕ, ◌%◌, ◌^◌}
use mathlib.Core.Path.{◌≡◌, ap, sym, ◌∙◌}
use Rattle.lists.proofs.Decides.{decides_eq}
use Rattle.search.specs.Rules.{keyAt}
use Rattle.once.specs.Sharing.{pass_for, number_of}
use Rattle.once.specs.Refs.{InPass}
use Rattle.once.proofs.Reading.{framed-slot, fitting-slot}
use Rattle.once.proofs.in_pass.Goals as goal

pub slot-v-requires : goal.slot-v-requires
slot-v-requires c = framed-slot c.requires.tier.pass.reads.fitting c.requires.tier.tier_in c.requires.slot_in

pub returns-then-v-eq0 : goal.returns-then-v-eq0
returns-then-v-eq0 c = λ h. h.0 (sym c.slot-v.ensures ∙ c.if-v-eq0.true)

pub number_at-requires : goal.number_at-requires
number_at-requires c =
    record {
      slot = fitting-slot c.requires.tier.pass.reads c.requires.tier.tier_in c.requires.slot_in (λ q. c.if-v-eq0.false (c.slot-v.ensures ∙ q));
      holds = c.slot-v.ensures;
    }

pub low_bits-requires : goal.low_bits-requires
low_bits-requires c = c.requires.tier.pass.few

pub returns : goal.returns
unfolding pass_for
returns c =
    let is : c.low_bits.result ≡ pass_for c.args.by.passBits
    (number_of c.args.by c.args.z.settings (keyAt c.args.z c.args.img.now c.args.t c.args.j)) =
    c.low_bits.ensures.0 ∙ ap (λ (x : ℕ). x % 2 ^ c.args.by.passBits) c.number_at.ensures in
    decides_eq {P = InPass c.args.z c.args.img.now c.args.by c.args.p c.args.t c.args.j} c.low_bits.result c.args.p
    (λ q. (λ e. c.if-v-eq0.false (c.slot-v.ensures ∙ e), sym is ∙ q)) (λ h. is ∙ h.1)
