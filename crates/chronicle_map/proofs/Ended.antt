-- Where the search for a key that no entry has ended.
use Prim.Native.Nat.{ℕ}
use mathlib.Core.List.{List, Memᴰ}
use mathlib.Core.Path.{refl}
use lib.ListN.{length}
use borrow.Author.Tests.{eqb-true, eqb-false}
use Rattle.layout.specs.declared.Shape.{Shape}
use Rattle.layout.specs.Tiers.{IsTier}
use Rattle.layout.specs.Frame.{Framed}
use Rattle.chains.specs.Chains.{chain, last_tier}
use Rattle.chains.proofs.Segments.{last-in}
use Rattle.chains.proofs.Tiers.{chain-tiers}
use Rattle.probe.specs.Table.{empty}
use Rattle.probe.proofs.Search.{First, room-first}
use Rattle.entries.specs.Keys.{segment_of, lookup_key, start}
use Rattle.entries.proofs.Hashes.{segment-lt, start-lt}
use Rattle.search.specs.Search.{slots_of, first_empty}
use Rattle.search.specs.Rules.{SomeEmpty}
use Rattle.search.proofs.Slots.{slots-lawful}
use Rattle.sound.specs.Sound.{ImageFits}
use Rattle.chronicle_map.specs.Calls.{search_end}
use Rattle.chronicle_map.specs.Demands.{Ended}

pub search-ended : (z : Shape) (img : List ℕ) → Framed z (length img) → ImageFits z img → (key : List ℕ)
    → Ended z img key (search_end z img key).tier (search_end z img key).slot
search-ended z img framed fits key =
    let s : ℕ = segment_of z.settings key in
    let t : ℕ = last_tier z img s in
    let mt : Memᴰ t (chain z img s) = last-in z img s (segment-lt fits.valid key) in
    let is : IsTier z t = chain-tiers z img fits.chains s (segment-lt fits.valid key) t mt in
    let some : SomeEmpty z img t = (fits.entries.tiers_fit s (segment-lt fits.valid key) t mt).slots_fit.some_empty in
    let first : First z.settings.slots (empty (slots_of z t) img) (start z.settings (lookup_key z.settings key)) (first_empty z img key t) =
    room-first (slots_of z t) (slots-lawful framed t is) img _ some.0 (start-lt fits.valid _) (record { lt = some.1.0; free = some.1.1 }) in
    record {
      in_chain = mt;
      last = refl;
      slot_in = first.lt;
      empty = eqb-true _ _ first.stops;
      full_before = λ k hk d. eqb-false _ _ (first.before k hk d);
    }
