use Prim.Native.Nat.{ℕ, ◌%◌, ◌^◌}
use mathlib.Core.Path.{ap, sym, ◌∙◌}
use mathlib.Core.Logic.{◌≢◌}
use Rattle.entries.specs.Live.{slot_at}
use Rattle.once.specs.Sharing.{pass_for}
use Rattle.once.proofs.Reading.{framed-slot, lookup-pass}
use Rattle.once.proofs.lookup_in_pass.Goals as goal

pub slot-v-requires : goal.slot-v-requires
slot-v-requires c = framed-slot c.requires.0.tier.pass.reads.fitting c.requires.0.tier.tier_in c.requires.0.slot_in

pub low_bits-requires : goal.low_bits-requires
low_bits-requires c = c.requires.0.tier.pass.few

pub returns-then-low_bits-p : goal.returns-then-low_bits-p
unfolding pass_for
returns-then-low_bits-p c =
    λ h. c.if-low_bits-p.true
    (c.low_bits.ensures.0 ∙ ap (λ (x : ℕ). x % 2 ^ c.args.by.passBits) c.slot_key.ensures ∙ lookup-pass c.requires.0 c.requires.1 c.slot-v.ensures h.0
    ∙ h.1)

pub returns-then-v-eq0 : goal.returns-then-v-eq0
returns-then-v-eq0 c = λ h. h.0 (sym c.slot-v.ensures ∙ c.if-v-eq0.true)

pub returns : goal.returns
unfolding pass_for
returns c =
    let full : slot_at c.args.z c.args.img.now c.args.t c.args.j ≢ 0 = λ q. c.if-v-eq0.false (c.slot-v.ensures ∙ q) in (
      full,
      sym (lookup-pass c.requires.0 c.requires.1 c.slot-v.ensures full) ∙ ap (λ (x : ℕ). x % 2 ^ c.args.by.passBits) (sym c.slot_key.ensures)
          ∙ sym c.low_bits.ensures.0 ∙ c.if-low_bits-p.false,
    )
