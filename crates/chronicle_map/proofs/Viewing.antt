-- Request A5: what a replacement on the spot leaves as it was, for the calls; and all of the request.
use Prim.Native.Nat.{ℕ}
use mathlib.Core.List.{List, Memᴰ}
use mathlib.Core.Path.{◌≡◌, refl, ap, sym, ◌∙◌, subst}
use mathlib.Core.Logic.{◌≢◌}
use mathlib.Core.Option.{Option, none, some}
use lib.ListN.{length}
use Rattle.words.specs.Bytes.{Bytes, cut, Apart}
use Rattle.words.proofs.Bytes.{cut-sets-out}
use Rattle.leb128.specs.Leb128.{encode}
use Rattle.settings.specs.Block.{settings_of}
use Rattle.layout.specs.declared.Shape.{Shape}
use Rattle.layout.specs.Tiers.{IsTier}
use Rattle.layout.specs.Places.{chunk_at}
use Rattle.layout.specs.Frame.{shape_of}
use Rattle.chains.specs.Chains.{last_tier}
use Rattle.chains.proofs.Segments.{last-in}
use Rattle.chains.proofs.Tiers.{chain-tiers}
use Rattle.entries.specs.declared.Entry.{Entry}
use Rattle.entries.specs.declared.Live.{Live}
use Rattle.entries.specs.Keys.{KeyFits, segment_of, key_fits?}
use Rattle.entries.specs.Stored.{entry_bytes, key_of}
use Rattle.entries.specs.Live.{entry_at, live, live_at}
use Rattle.entries.specs.Pairs.{pair_of}
use Rattle.entries.proofs.LiveLists.{IsLive, in_live, live_in_lem}
use Rattle.entries.proofs.Hashes.{segment-lt}
use Rattle.placement.specs.Placement.{write_entry}
use Rattle.placement.proofs.Rewriting.{Rewrites, rewritten, rewrite-slots, rewrite-chain}
use Rattle.placement.proofs.Rewritten.{rewrite-sound, rewrite-own, rewrite-own-pair}
use Rattle.edit.specs.declared.Policy.TheVariants.{OnTheSpot}
use Rattle.edit.specs.Edits.{find}
use Rattle.edit.proofs.Views.{live-stays, find-stays, last-stays, empty-stays, offset-stays}
use Rattle.std.specs.Prelude.{Ok}
use Rattle.chronicle_map.specs.declared.Located.TheVariants as looked
use Rattle.chronicle_map.specs.Calls.{end_in, search_end, from_find, lookup, store}
use Rattle.chronicle_map.specs.Demands.{shape, Accepted, SameSize, Replacements}
use Rattle.chronicle_map.proofs.Accepting.{Holds, accepted-holds, shape-again, holds-again}
use Rattle.chronicle_map.proofs.Altering.{lookup-is, lookup_misfit}
use Rattle.chronicle_map.proofs.Replacing.{Replacement, is-done, same-weight, same_map, same-marked, spot-rewrites, spot-image, never_row10_lem, never-full}

module _ {block img : List ℕ} {e : Live} {key value : List ℕ} (r : Replacement block img e key value) where
  abbrev z : Shape
  z = shape block img

  w : Rewrites z img e.segment e.tier e.slot key value
  w = spot-rewrites r

  -- the image after it, as the code writes it and as the call leaves it
  abbrev m : List ℕ
  m = rewritten z img e.tier e.slot key value

  abbrev after : List ℕ
  after = (store OnTheSpot block img key value).image

  m-holds : Holds block m
  m-holds = holds-again r.holds (rewrite-sound w)

  same_shape : z ≡ shape block m
  same_shape = shape-again r.holds (rewrite-sound w)

  live-is : live z m ≡ live (shape block after) after
  live-is = ap (λ (x : Shape). live x m) same_shape ∙ ap (λ (x : List ℕ). live (shape block x) x) (sym (spot-image r))

  -- ---- another key

  others : (o : Live) → Memᴰ o (live z img) → key_of img o.entry ≢ key
      → Memᴰ o (live (shape block after) after) × (pair_of after o ≡ pair_of img o)
  others o mo ne =
      let there : Memᴰ o (live z m) × (pair_of m o ≡ pair_of img o) = live-stays w o mo ne in
      (subst (Memᴰ o) live-is there.0, ap (λ (x : List ℕ). pair_of x o) (spot-image r) ∙ there.1)

  module _ (other : List ℕ) (ne : other ≢ key) where
    same_end : search_end z m other ≡ search_end z img other
    same_end =
        let s : ℕ = segment_of z.settings other in
        let last : ℕ = last_tier z img s in
        ap (end_in z m other) (last-stays w other)
        ∙ ap (λ (j : ℕ). record { tier = last; slot = j })
        (empty-stays w other last
        (chain-tiers z img r.holds.sound.fits.chains s (segment-lt r.holds.sound.fits.valid other) last
        (last-in z img s (segment-lt r.holds.sound.fits.valid other))))

    from-find : (o : Option Live) → from_find z m other o ≡ from_find z img other o
    unfolding from_find
    from-find none = ap looked.Absent same_end
    from-find (some x) = refl

    by-fit : Dec (KeyFits z.settings other) → lookup block m other ≡ lookup block img other
    by-fit (no n) =
        lookup_misfit block m m-holds other (λ k. n (subst (λ (x : Shape). KeyFits x.settings other) (sym same_shape) k))
        ∙ sym (lookup_misfit block img r.holds other n)
    by-fit (yes k) =
        lookup-is block m m-holds other (subst (λ (x : Shape). KeyFits x.settings other) same_shape k)
        ∙ ap (λ (x : Shape). Ok (from_find x m other (find x m other))) (sym same_shape)
        ∙ ap (λ (o : Option Live). Ok (from_find z m other o)) (find-stays w other ne)
        ∙ ap Ok (from-find (find z img other))
        ∙ sym (lookup-is block img r.holds other k)

    lookups : lookup block after other ≡ lookup block img other
    lookups = ap (λ (x : List ℕ). lookup block x other) (spot-image r) ∙ by-fit (key_fits? z.settings other)

  -- ---- this key

  -- its entry after the store
  abbrev own : Live
  own = live_at z m e.segment e.tier e.slot

  was : IsLive z img e
  was = live_in_lem z img e r.is_live

  own-live : Memᴰ own (live (shape block after) after)
  own-live =
      let is : IsTier z e.tier = chain-tiers z img r.holds.sound.fits.chains e.segment was.segment_in e.tier was.tier_in in
      subst (Memᴰ own) live-is
      (in_live z m e.segment e.tier e.slot was.segment_in
      (subst (Memᴰ e.tier) (sym (rewrite-chain w e.segment was.segment_in)) was.tier_in)
      was.slot_in (λ q. was.full (sym (rewrite-slots w e.tier e.slot is was.slot_in) ∙ q)))

  own-place : (own.tier ≡ e.tier) × (own.slot ≡ e.slot) × (own.chunk ≡ e.chunk) × (own.chunks ≡ e.chunks)
  unfolding live_at
  own-place = (
    refl,
    refl,
    ap (λ (x : Live). x.chunk) (rewrite-own w) ∙ ap (λ (x : Live). x.chunk) (sym was.is),
    ap (λ (x : Live). x.chunks) (rewrite-own w) ∙ ap (λ (x : Live). x.chunks) (sym was.is),
  )

  own-offset : length (encode (length value)) ≡ length (encode e.entry.valueLength) → own.entry.valueAt ≡ e.entry.valueAt
  unfolding live_at
  own-offset q =
      let entry-is : e.entry ≡ entry_at z img e.tier e.slot = ap (λ (x : Live). x.entry) was.is in
      ap (λ (x : Live). x.entry.valueAt) (rewrite-own w)
      ∙ offset-stays w (q ∙ ap (λ (x : Entry). length (encode x.valueLength)) entry-is)
      ∙ ap (λ (x : Entry). x.valueAt) (sym entry-is)

  -- ---- all bytes but the entry's own

  outside : (at n : ℕ) → Apart at n (chunk_at z e.tier e.chunk) (length (entry_bytes (settings_of block) key value)) → cut after at n ≡ cut img at n
  unfolding shape_of live_at
  outside at n a =
      ap (λ (x : List ℕ). cut x at n) (spot-image r)
      ∙ ap (λ (c : ℕ). cut (write_entry z img e.tier c key value) at n) (ap (λ (x : Live). x.chunk) (sym was.is))
      ∙ cut-sets-out img at n (chunk_at z e.tier e.chunk) (entry_bytes (settings_of block) key value) a

  same_size : SameSize block img key value e
  same_size =
      record {
        done = is-done r;
        same_map = same_map r;
        same_sum = same-weight r _;
        same_marked = same-marked r;
        outside = outside;
        others = others;
        lookups = lookups;
        own = own;
        own_live = own-live;
        own_pair = ap (λ (x : List ℕ). pair_of x own) (spot-image r) ∙ rewrite-own-pair w;
        own_place = own-place;
        own_offset = own-offset;
      }

-- ---- all of it

pub replacements : (block img : List ℕ) → Bytes img → Accepted block img → Replacements block img
replacements block img b a =
    let h : Holds block img = accepted-holds block img b a in
    record {
      never_row10 = never_row10_lem block img h;
      never_full = never-full block img h;
      same_size = λ e m key value k kb vb long many.
          same_size (record { holds = h; is_live = m; key_is = k; key_bytes = kb; value_bytes = vb; long = long; as_many = many });
    }
