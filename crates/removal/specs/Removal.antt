-- Removal: the bit range is cleared, the slot becomes a hole, later slots move back. Entry bytes stay. The counters follow at the end of an edit.
use Rattle.std.specs.Prelude.{ℕ, List}
use Rattle.layout.specs.declared.Shape.{Shape}
use Rattle.layout.specs.Places.{put_marks}
use Rattle.probe.specs.Removal.{remove}
use Rattle.entries.specs.declared.Live.{Live}
use Rattle.search.specs.Search.{slots_of}

-- slot j of tier t, with the n chunks from c on
unfoldable pub remove_at : Shape → List ℕ → ℕ → ℕ → ℕ → ℕ → List ℕ
remove_at z img t j c n = remove (slots_of z t) (put_marks z img t c n 0) j

abbrev pub remove_entry : Shape → List ℕ → Live → List ℕ
remove_entry z img e = remove_at z img e.tier e.slot e.chunk e.chunks
