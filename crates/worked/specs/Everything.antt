-- One name that opens every definition, for cases that are computed: `unfolding everything`.
use Rattle.std.specs.Prelude.{ℕ}
use Rattle.lists.specs.Runs.{after_all, on_each}
use Rattle.probe.specs.Removal.{stays, shift, remove as probe_remove}
use Rattle.entries.specs.Pairs.{pairs_of}
use Rattle.counters.specs.Recount.{recount, settle, touched}
use Rattle.removal.specs.Removal.{remove_at}
use Rattle.placement.specs.Runs.{from_lowest, clear_from, lowest_run, run_in, first_run, run_for}
use Rattle.placement.specs.Placement.{written, slotted, place_at}
use Rattle.joining.specs.Joining.{join}
use Rattle.unlinking.specs.Unlinking.{later, unlink, is_empty_extra, unlink_empty}
use Rattle.growing.specs.Growing.{no_bulk, empty_slots, empty_tier, after_new, new_tiers, grow_image}
use Rattle.edit.specs.Edits.{find, without_entry, without, removed_entry, remove_image, run_of, no_room, place_in, on_the_spot, entry_in, stored_entry, store_image}
use Rattle.chronicle_map.specs.Asked.{given_key_fits?, given_value_fits?, after_value, after_key, after_examined, asked}
use Rattle.chronicle_map.specs.Calls.{from_find, looked_up, lookup, record_at, record_length, record_bytes}
use Rattle.chronicle_map.specs.Calls.{remove_found, removing, remove, store_unless, storing, store, grow_unless, growing, grow}
use Rattle.chronicle_map.specs.History.{says, leaves, told_of}
use Rattle.layout.specs.Frame.{frame_of}
use Rattle.walk.specs.Walk.{entry_reads?, compared, tested, at_slot, over_slots, in_tier, from_tier, walk}
use Rattle.quick.specs.Quick.{opened_frame, opened_block, opened, from_walk, quick_key, after_opened, quick_lookup}
use Rattle.pairs.specs.Pairs.{is_channel?, channels_fit?, pair_key, record_delay, record_fits?}
use Rattle.pairs.specs.Delays.{from_record, from_located}
use Rattle.pairs.specs.Quick.{quick_pair, quick_opened, quick_delay}
use Rattle.same_map.specs.SameAnswers.{before_first10}
use Rattle.image.specs.Everything.{everything as image_everything}

unfoldable pub everything : ℕ
unfolding image_everything stays shift probe_remove pairs_of recount settle touched remove_at from_lowest clear_from lowest_run run_in first_run run_for
    written slotted place_at join later unlink is_empty_extra unlink_empty no_bulk empty_slots empty_tier after_new new_tiers grow_image find without_entry
    without removed_entry remove_image run_of no_room place_in on_the_spot entry_in stored_entry store_image given_key_fits? given_value_fits?
    after_value after_key
    after_examined asked from_find looked_up lookup record_at record_length record_bytes remove_found removing remove store_unless storing store grow_unless
    growing grow says leaves told_of after_all on_each frame_of entry_reads? compared tested at_slot over_slots in_tier from_tier walk opened_frame opened_block
    opened from_walk quick_key after_opened quick_lookup is_channel? channels_fit? pair_key record_delay record_fits? from_record from_located quick_pair
    quick_opened quick_delay before_first10
everything = 0
