-- Whether the rules hold is decided. The types say all that the definitions here do.
use Rattle.std.specs.Prelude.{ℕ, ◌+◌, ◌*◌, ◌/◌, ◌%◌, ◌^◌, ◌≡◌}
use Rattle.std.proofs.Math.Decide.{dec_le, ℕ_discrete}
use Rattle.lists.specs.Decide.{both, either, some_below, rule}
use Rattle.settings.specs.declared.Settings.{Settings}
use Rattle.settings.specs.Rules.{Between, largest, most_tier_slots, most_tier_chunks, largest_chunk, largest_inner, PowerOfTwo, Valid}

unfoldable pub power_of_two? : (n : ℕ) → Dec (PowerOfTwo n)
power_of_two? n = some_below (λ k. n ≡ 2 ^ k) (λ k. ℕ_discrete n (2 ^ k)) 25

unfoldable pub between? : (low high x : ℕ) → Dec (Between low high x)
between? low high x = both (dec_le low x) (λ _. dec_le x high)

unfoldable pub valid? : (st : Settings) → Dec (Valid st)
valid? st =
    rule (λ v. v.globalAt) (both (ℕ_discrete (st.globalAt % 64) 0) (λ _. dec_le st.globalAt 65536)) λ r1.
    rule (λ v. v.segments) (both (power_of_two? st.segments) (λ _. between? 1 256 st.segments)) λ r2.
    rule (λ v. v.headerSize) (between? 32 256 st.headerSize) λ r3.
    rule (λ v. v.slotSize) (either (ℕ_discrete st.slotSize 4) (ℕ_discrete st.slotSize 8)) λ r4.
    rule (λ v. v.slots) (both (power_of_two? st.slots) (λ _. between? 4 most_tier_slots st.slots)) λ r5.
    rule (λ v. v.keyBits) (between? 1 56 st.keyBits) λ r6.
    rule (λ v. v.chunkBits) (both (between? 1 32 st.chunkBits)
    (λ _. both (dec_le (st.keyBits + st.chunkBits) (8 * st.slotSize)) (λ _. dec_le st.chunks (2 ^ st.chunkBits)))) λ r7.
    rule (λ v. v.lookupSize) (between? (st.slots * st.slotSize) largest st.lookupSize) λ r8.
    rule (λ v. v.freeListSize) (between? ((st.chunks + 7) / 8) largest st.freeListSize) λ r9.
    rule (λ v. v.innerOffset) (dec_le st.innerOffset largest_inner) λ r10.
    rule (λ v. v.chunks) (between? 1 most_tier_chunks st.chunks) λ r11.
    rule (λ v. v.chunkSize) (between? 1 largest_chunk st.chunkSize) λ r12.
    rule (λ v. v.tierSize) (between? (st.lookupSize + 64 + st.freeListSize + st.innerOffset + st.chunks * st.chunkSize) largest st.tierSize) λ r13.
    rule (λ v. v.bulkInner) (dec_le st.bulkInner 65536) λ r14.
    rule (λ v. v.bulkTiers) (between? 1 64 st.bulkTiers) λ r15.
    rule (λ v. v.bulkSize) (between? (st.bulkInner + st.bulkTiers * st.tierSize) largest st.bulkSize) λ r16.
    rule (λ v. v.mostChunks) (both (between? 1 64 st.mostChunks) (λ _. dec_le st.mostChunks st.chunks)) λ r17.
    yes (record {
      globalAt = r1;
      segments = r2;
      headerSize = r3;
      slotSize = r4;
      slots = r5;
      keyBits = r6;
      chunkBits = r7;
      lookupSize = r8;
      freeListSize = r9;
      innerOffset = r10;
      chunks = r11;
      chunkSize = r12;
      tierSize = r13;
      bulkInner = r14;
      bulkTiers = r15;
      bulkSize = r16;
      mostChunks = r17;
    })
