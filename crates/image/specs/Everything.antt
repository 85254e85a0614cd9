-- One name that opens every definition, for cases that are computed: `unfolding everything`.
use Rattle.std.specs.Prelude.{ℕ}
use mathlib.Core.List.{flat_map}
use Rattle.std.proofs.Math.Decide.{dec_le, dec_lt, ℕ_discrete}
use Rattle.lists.specs.Lists.{span, first, those, total}
use Rattle.lists.specs.Decide.{both, either, implied, refuted, some_below, rule, choose}
use Rattle.lists.specs.Quantify.{below?, every?}
use Rattle.words.specs.Bytes.{same}
use Rattle.words.specs.Same.{same?}
use Rattle.words.specs.Numbers.{le, le_bytes, put_le, be}
use Rattle.words.specs.Bits.{bit, put_bit, put_bits, ones}
use Rattle.leb128.specs.Leb128.{encode_within, encode, front, value, accept, decode}
use Rattle.xxh64.specs.Hash.{round_of, stripe_of, lanes_of, sum_of, merge_of, converge_of, start_of, total_of, mix8_of, mix4_of, mix1_of, tail_of, rest_of, avalanche_of, xxh64}
use Rattle.settings.specs.Decide.{power_of_two?, between?, valid?}
use Rattle.settings.specs.Versions.{fields_in}
use Rattle.settings.specs.Block.{block_fits?, field, settings_of, parse}
use Rattle.layout.specs.Tiers.{tiers, mains, bulks_at, store_end, extra_at, tier_at}
use Rattle.layout.specs.Places.{part_at, part_wide, at, wide, get, put, shared_place, free_list_at, mark, put_marks, chunk_at, puts}
use Rattle.layout.specs.Frame.{shape_of, frame_fits?}
use Rattle.links.specs.Links.{follow, end_of}
use Rattle.chains.specs.Chains.{chain, free_chain, chained, chained_extra, is_extra?, stands_at?, chain_fits?, free_chain_fits?, chains_fit?, chains_of}
use Rattle.probe.specs.Ring.{next, dist}
use Rattle.probe.specs.Search.{probe, room, seek}
use Rattle.entries.specs.Keys.{segment_of, lookup_of_hash, lookup_key, key_fits?}
use Rattle.entries.specs.Stored.{value_offset, chunks_for, entry_bytes, after_value_length, after_key_length, stored, value_fits?}
use Rattle.entries.specs.Live.{full_slots, entry_at, live_at, live_in, live_of, live}
use Rattle.search.specs.Rules.{is_whole?, keyAt, full?, reached?, hashed?, entry_fits?, slots_fit?, key_once?, keys_once?, entries_fit?, tier_slots_fit?}
use Rattle.search.specs.Search.{hits, seek_in, search_from, search, sought_in}
use Rattle.chunks.specs.Chunks.{lowest_clear, low_mark_fits?, counters_fit?, free_tier_fits?, chunks_fit?, marked_in, marked_chunks, tier_chunks_fit?}
use Rattle.image.specs.Check.{counts_of, after_chunks, after_entries, after_chains, after_frame, after_block, examine, verdict_of, check}
use Rattle.image.specs.List.{pick, from_nth, from_examined, entry}

unfoldable pub everything : ℕ
unfolding flat_map dec_le dec_lt ℕ_discrete span first those total both either implied refuted choose some_below rule below? every? same same? le le_bytes put_le be bit put_bit put_bits ones encode_within encode front value accept decode round_of stripe_of lanes_of sum_of merge_of converge_of start_of total_of mix8_of mix4_of mix1_of tail_of rest_of avalanche_of xxh64 power_of_two? between? valid? fields_in block_fits? field settings_of parse tiers mains bulks_at store_end extra_at tier_at part_at part_wide at wide get put shared_place free_list_at mark put_marks chunk_at puts shape_of frame_fits? follow end_of chain free_chain chained chained_extra is_extra? stands_at? chain_fits? free_chain_fits? chains_fit? chains_of next dist probe room seek key_fits? segment_of lookup_of_hash lookup_key value_offset chunks_for value_fits? entry_bytes after_value_length after_key_length stored full_slots entry_at live_at live_in live_of live is_whole? keyAt full? reached? hashed? entry_fits? slots_fit? tier_slots_fit? key_once? keys_once? entries_fit? hits seek_in sought_in search_from search lowest_clear tier_chunks_fit? low_mark_fits? counters_fit? free_tier_fits? chunks_fit? marked_in marked_chunks counts_of after_chunks after_entries after_chains after_frame after_block examine verdict_of check pick from_nth from_examined entry
everything = 0
