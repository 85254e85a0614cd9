use Rattle.settings.specs.Block.{settings_of}
use Rattle.settings.proofs.settings_of.Goals as goal

pub returns : goal.returns
unfolding settings_of
returns c =
    λ i. record {
      globalAt = c.field.ensures i;
      segments = c.field-2.ensures i;
      headerSize = c.field-3.ensures i;
      slotSize = c.field-4.ensures i;
      slots = c.field-5.ensures i;
      keyBits = c.field-6.ensures i;
      chunkBits = c.field-7.ensures i;
      lookupSize = c.field-8.ensures i;
      freeListSize = c.field-9.ensures i;
      innerOffset = c.field-10.ensures i;
      chunks = c.field-11.ensures i;
      chunkSize = c.field-12.ensures i;
      tierSize = c.field-13.ensures i;
      bulkInner = c.field-14.ensures i;
      bulkTiers = c.field-15.ensures i;
      bulkSize = c.field-16.ensures i;
      mostChunks = c.field-17.ensures i;
    }
