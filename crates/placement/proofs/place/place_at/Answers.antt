use Rattle.sound.proofs.Framing.{framed-again}
use Rattle.placement.proofs.Written.{chunk-lt, placed-is, lookup-made, first_empty-lt}
use native.Mathlib.Omega.{arith}
use Rattle.placement.proofs.place.place_at.Goals as goal

pub slot_for-j-requires : goal.slot_for-j-requires
slot_for-j-requires c =
    record {
      seeks = record {
        tier = c.requires.write.tier;
        lookup_is = lookup-made c.args.z.settings c.args.key.now c.xxh64.ensures c.lookup_of_hash-lookup.ensures.0;
      };
      takes = c.requires.takes;
      slot_is = c.requires.slot_is;
    }

pub slot_with-v-requires : goal.slot_with-v-requires
slot_with-v-requires c =
    record {
      valid = c.requires.write.tier.framed.valid;
      lookup_in = c.lookup_of_hash-lookup.ensures.2;
      chunk_in = omega (arith, chunk-lt c.requires.write);
    }

pub put_slot-requires : goal.put_slot-requires
put_slot-requires c =
    record {
      tier = record { framed = framed-again c.write_at.auto.img c.requires.write.tier.framed; tier_in = c.requires.write.tier.tier_in };
      slot_in = rw c.slot_for-j.ensures (first_empty-lt c.requires.write.tier.framed c.args.img.now c.args.t c.args.key.now);
    }

pub returns : goal.returns
returns c =
    placed-is c.args.z c.args.img.now c.args.t c.args.c c.args.key.now c.args.value.now c.requires.write
    (lookup-made c.args.z.settings c.args.key.now c.xxh64.ensures c.lookup_of_hash-lookup.ensures.0) c.slot_for-j.ensures
    c.write_at.ensures c.slot_with-v.ensures c.put_slot.ensures
