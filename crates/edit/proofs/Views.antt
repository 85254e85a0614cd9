-- What a store on the spot leaves as it was: the entry of every other key, and where the search for an absent one ends.
use Prim.Native.Nat.{ℕ, ◌+◌, ◌-◌}
use mathlib.Core.List.{List, Memᴰ}
use mathlib.Core.Path.{◌≡◌, refl, ap, sym, ◌∙◌, subst}
use mathlib.Core.Logic.{◌≢◌}
use mathlib.Core.Option.{Option, none, some}
use native.Mathlib.Omega.{arith}
use Rattle.std.specs.Prelude.{Option as Option_of_std, Some, None}
use lib.ListN.{length, get_or}
use Rattle.lists.specs.Lists.{total}
use Rattle.lists.proofs.Totals.{total-at}
use Rattle.layout.specs.declared.Shape.{Shape}
use Rattle.leb128.specs.Leb128.{encode}
use Rattle.layout.specs.Tiers.{IsTier}
use Rattle.layout.specs.Places.{chunk_at}
use Rattle.chains.specs.Chains.{last_tier}
use Rattle.entries.specs.declared.Entry.{Entry}
use Rattle.entries.specs.declared.Live.{Live}
use Rattle.entries.specs.Keys.{segment_of}
use Rattle.entries.specs.Stored.{value_offset, stored, entry_of, key_of}
use Rattle.entries.specs.Live.{chunk_of, entry_at, live}
use Rattle.entries.specs.Pairs.{Pair, pair_of, pairs_of}
use Rattle.entries.proofs.Hashes.{segment-lt, start-lt}
use Rattle.entries.proofs.Whole.{whole-sound, entry_here}
use Rattle.entries.proofs.LiveLists.{IsLive, in_live, live_in_lem}
use Rattle.probe.proofs.Search.{room-same}
use Rattle.search.specs.Search.{slots_of, first_empty}
use Rattle.search.specs.Rules.{IsWhole, keyAt, EntryFits}
use Rattle.sound.proofs.Sound.{sound-image}
use Rattle.sound.proofs.Marked.{entry-long}
use Rattle.sound.proofs.KeyCounts.{with_key, live-pair}
use Rattle.placement.proofs.Rewriting.{Rewrites, rewritten, is-tier, was-entry, rewrite-slots, rewrite-chain}
use Rattle.placement.proofs.Rewritten.{rewrite-sound, rewrite-pairs, rewrite-live}
use Rattle.edit.specs.Edits.{find, without_entry, without}
use Rattle.edit.proofs.Finding.{find-live, found-only}
use Rattle.edit.proofs.Without.{with-own, with-other, without-key}

module _ {z : Shape} {img : List ℕ} {s t j : ℕ} {key value : List ℕ} (w : Rewrites z img s t j key value) where
  -- the image after it
  abbrev m : List ℕ
  m = rewritten z img t j key value

  pub live-stays : (o : Live) → Memᴰ o (live z img) → key_of img o.entry ≢ key
      → Memᴰ o (live z (rewritten z img t j key value)) × (pair_of (rewritten z img t j key value) o ≡ pair_of img o)
  live-stays o mo ne =
      let r : IsLive z m o × (pair_of m o ≡ pair_of img o) = rewrite-live w o (live_in_lem z img o mo) ne in
      let is : IsLive z m o = r.0 in (
        subst (λ (x : Live). Memᴰ x (live z m)) (sym is.is)
            (in_live z m o.segment o.tier o.slot is.segment_in is.tier_in is.slot_in is.full),
        r.1,
      )

  module _ (other : List ℕ) (ne : other ≢ key) where
    -- an absent key stays absent
    absent-before : find z img other ≡ none → total (pairs_of z img) (with_key other) ≡ 0
    unfolding without without_entry
    absent-before f = rw f at (without-key z img w.sound other)

    absent-after : find z img other ≡ none → total (pairs_of z m) (with_key other) ≡ 0
    absent-after f =
        omega (
          arith,
          rewrite-pairs w (with_key other),
          absent-before f,
          with-other other (record { key = key; value = value }) (λ (q : key ≡ other). ne (sym q)),
        )

    not_found : find z img other ≡ none → (o : Option Live) → find z m other ≡ o → o ≡ none
    not_found f none q = refl
    not_found f (some o) q =
        let r : Memᴰ o (live z m) × (key_of m o.entry ≡ other) = find-live z m other o q in
        absurd
        (omega (
          arith,
          absent-after f,
          with-own other (pair_of m o) r.1,
          total-at (with_key other) (pair_of m o) (pairs_of z m) (live-pair z m o r.0),
        ))

    found-by : (o : Option Live) → find z img other ≡ o → find z m other ≡ o
    found-by none f = not_found f (find z m other) refl
    found-by (some o) f =
        let r : Memᴰ o (live z img) × (key_of img o.entry ≡ other) = find-live z img other o f in
        let apart : key_of img o.entry ≢ key = λ q. ne (sym r.1 ∙ q) in
        let there : Memᴰ o (live z m) × (pair_of m o ≡ pair_of img o) = live-stays o r.0 apart in
        found-only z m (rewrite-sound w) other o there.0 (ap (λ (p : Pair). p.key) there.1 ∙ r.1)

    pub find-stays : find z (rewritten z img t j key value) other ≡ find z img other
    find-stays = found-by (find z img other) refl

  -- no link is written, so every chain ends in the same tier, and no slot, so the first empty one is the same
  module _ (other : List ℕ) where
    pub last-stays : last_tier z (rewritten z img t j key value) (segment_of z.settings other) ≡ last_tier z img (segment_of z.settings other)
    last-stays = ap (λ (ts : List ℕ). get_or ts (length ts - 1) 0) (rewrite-chain w _ (segment-lt w.sound.fits.valid other))

    pub empty-stays : (u : ℕ) → IsTier z u → first_empty z (rewritten z img t j key value) other u ≡ first_empty z img other u
    empty-stays u is = room-same (slots_of z u) _ (start-lt w.sound.fits.valid _) m img (λ k h. rewrite-slots w u k is h)

  -- the record starts where it did if its length takes as many bytes as before
  started : (r : Option_of_std Entry) → stored z img t (chunk_of z img t j) ≡ r → IsWhole r
      → (entry_of r).valueAt ≡ chunk_at z t (chunk_of z img t j) + value_offset z.settings (entry_of r).keyLength (entry_of r).valueLength
  started (Some e) q h = (whole-sound z img t (chunk_of z img t j) e q).value_is
  started None q h = absurd h

  pub offset-stays : length (encode (length value)) ≡ length (encode (entry_at z img t j).valueLength)
      → (entry_here z t (chunk_of z img t j) (length key) (length value)).valueAt ≡ (entry_at z img t j).valueAt
  unfolding entry_at value_offset keyAt
  offset-stays q =
      let fits : EntryFits z img s t j = was-entry w in
      let key-long : length key ≡ (entry_at z img t j).keyLength =
      ap length (sym w.key_is) ∙ (entry-long z img s t j (sound-image z img w.sound) (is-tier w) fits).0 in
      let same-forms : length (encode (length key)) ≡ length (encode (entry_at z img t j).keyLength) = ap (λ (k : ℕ). length (encode k)) key-long in
      omega (arith, q, key-long, same-forms, started _ refl fits.whole)
