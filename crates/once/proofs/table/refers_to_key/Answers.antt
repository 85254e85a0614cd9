use mathlib.Core.Path.{◌∙◌, ap, sym}
use native.Mathlib.Omega.{arith}
use Rattle.entries.specs.Keys.{slot_key}
use Rattle.search.specs.Search.{hits}
use Rattle.search.specs.Rules.{keyAt}
use Rattle.once.specs.Refs.{meant}
use Rattle.once.proofs.table.refers_to_key.Goals as goal

pub nonzero_div-u : goal.nonzero_div-u
nonzero_div-u c = omega (arith, c.requires.slot.slot.tier.chains.framed.valid.slots)

pub nonzero_rem-k : goal.nonzero_rem-k
nonzero_rem-k c = omega (arith, c.requires.slot.slot.tier.chains.framed.valid.slots)

pub same_hit-requires : goal.same_hit-requires
same_hit-requires c =
    record {
      key = record {
        slot = record {
          tier = record { framed = c.requires.slot.slot.tier.chains.framed; tier_in = c.requires.slot.slot.tier.tier_in };
          slot_in =
              c.requires.slot.slot.slot_in;
        };
        fits = c.requires.slot.fits;
        lookup_is = c.slot_key-lookup.ensures ∙ ap (slot_key c.args.z.settings) c.slot.ensures ∙ sym c.requires.slot.fits.hashed.lookup_agrees;
      };
      tier_in = c.requires.other.slot.tier.tier_in;
    }

pub returns : goal.returns
unfolding meant
returns c = c.same_hit.ensures ∙ ap (hits c.args.z c.args.img.now (keyAt c.args.z c.args.img.now c.args.t c.args.j) _) c.slot-v.ensures
