-- The image after an entry was written over the old one of its key: it is sound, and the one pair is exchanged.
use Prim.Native.Nat.{ℕ, ◌+◌, ◌<◌}
use mathlib.Core.List.{List, Memᴰ}
use mathlib.Core.Path.{◌≡◌, refl, ap, sym, ◌∙◌, subst}
use mathlib.Core.Logic.{◌≢◌, ⊎_elim}
use native.Mathlib.Omega.{arith}
use lib.ListN.{length}
use Rattle.lists.specs.Cases.{same_or}
use Rattle.lists.specs.Lists.{total}
use Rattle.layout.specs.declared.Shape.{Shape}
use Rattle.layout.specs.Tiers.{IsTier}
use Rattle.chains.proofs.Tiers.{chain-tiers}
use Rattle.entries.specs.declared.Live.{Live}
use Rattle.entries.specs.Keys.{slot_chunk}
use Rattle.entries.specs.Stored.{key_of}
use Rattle.entries.specs.Live.{slot_at, chunk_of, entry_at, live_at}
use Rattle.entries.specs.Pairs.{Pair, pair_of, pairs_of}
use Rattle.entries.proofs.Whole.{entry_here}
use Rattle.entries.proofs.LiveLists.{IsLive, live_made}
use Rattle.search.specs.Rules.{keyAt, chunks_at, EntryFits}
use Rattle.sound.specs.Sound.{SoundImage}
use Rattle.sound.proofs.Values.{entry_for, pair_for, weigh}
use Rattle.sound.proofs.Sums.{table-change}
use Rattle.sound.proofs.Sound.{sound-but, but-sound, but-less}
use Rattle.sound.proofs.AgreeEntry.{Moved, entry-moves}
use Rattle.sound.proofs.AgreeTier.{SameTier}
use Rattle.sound.proofs.Replaced.{tier-replaced, pairs-replaced}
use Rattle.placement.proofs.Standing.{stands-entry, stands-pair}
pub use Rattle.placement.proofs.Rewriting.{Rewrites, rewritten}
use Rattle.placement.proofs.Rewriting.{rewrite-only, rewrite-slots, rewrite-chain}
use Rattle.placement.proofs.RewrittenTier.{same-slots, stands, moved, moved_here, tier-again, counters-now}

module _ {z : Shape} {img : List ℕ} {s t j : ℕ} {key value : List ℕ} (w : Rewrites z img s t j key value) where
  open z use {settings}
  open settings use {slots}

  abbrev m : List ℕ
  m = rewritten z img t j key value

  pub rewrite-sound : SoundImage z (rewritten z img t j key value)
  rewrite-sound =
      but-sound z m
      (but-less z m (counters-now w)
      (tier-replaced z img s t w.segment_in (sound-but z img w.sound) w.tier_in m (rewrite-only w) (tier-again w)))

  old-pair : pair_for z img t (slot_at z img t j) ≡ pair_of img (live_at z img s t j)
  unfolding live_at entry_at
  old-pair = refl

  weighs : (F : Pair → ℕ) → weigh z m F t + F (pair_of img (live_at z img s t j)) ≡ weigh z img F t + F (record { key = key; value = value })
  unfolding weigh
  weighs F =
      let sum : weigh z m F t + F (pair_for z img t (slot_at z img t j)) ≡ weigh z img F t + F (pair_for z m t (slot_at z img t j)) =
      table-change z t img m (λ x. F (pair_for z img t x)) (λ x. F (pair_for z m t x)) (same-slots w) j w.slot_in w.full
      (λ k hk ne fk. ap F (ap (pair_for z m t) (sym (same-slots w k hk)) ∙ (moved_here w k hk fk ne).pair)) in
      omega (arith, sum, ap F old-pair, ap F (stands-pair (stands w)))

  -- its pair is exchanged
  pub rewrite-pairs : (F : Pair → ℕ)
      → total (pairs_of z (rewritten z img t j key value)) F + F (pair_of img (live_at z img s t j))
      ≡ total (pairs_of z img) F + F (record { key = key; value = value })
  rewrite-pairs F =
      omega (arith, pairs-replaced z img s t w.segment_in (sound-but z img w.sound) w.tier_in m (rewrite-only w) F, weighs F)

  -- ---- its live entries

  pub rewrite-own : live_at z (rewritten z img t j key value) s t j
      ≡ record {
        segment = s;
        tier = t;
        slot = j;
        chunk = chunk_of z img t j;
        chunks = chunks_at z img t j;
        entry = entry_here z t (chunk_of z img t j) (length key) (length value);
      }
  unfolding entry_at
  rewrite-own =
      sym
      (live_made z m s t j (ap (slot_chunk settings) (sym (same-slots w j w.slot_in)))
      (sym (ap (entry_for z m t) (same-slots w j w.slot_in) ∙ stands-entry (stands w))) w.same_chunks)

  pub rewrite-own-pair : pair_of (rewritten z img t j key value) (live_at z (rewritten z img t j key value) s t j) ≡ record { key = key; value = value }
  unfolding live_at entry_at
  rewrite-own-pair = ap (pair_for z m t) (same-slots w j w.slot_in) ∙ stands-pair (stands w)

  -- an entry with another key, in whatever tier
  moves : (q u k : ℕ) → IsTier z u → k < slots → slot_at z img u k ≢ 0 → EntryFits z img q u k → keyAt z img u k ≢ key → Moved z img m q u k k
  moves q u k is hk fk f other =
      ⊎_elim
      (λ (e : u ≡ t). rw e (moved w k hk (rw e at fk) (λ (p : k ≡ j). other (rw (e, p) w.key_is)) q (rw e at f)))
      (λ (ne : u ≢ t).
      let same : SameTier z img m u = (rewrite-only w).others u is ne in
      entry-moves z img m u same.bytes q k k (same.slots k hk) f)
      (same_or u t)

  pub rewrite-live : (e : Live) → IsLive z img e → key_of img e.entry ≢ key
      → IsLive z (rewritten z img t j key value) e × (pair_of (rewritten z img t j key value) e ≡ pair_of img e)
  unfolding live_at keyAt entry_at
  rewrite-live e h ne =
      let q : ℕ = e.segment in
      let u : ℕ = e.tier in
      let k : ℕ = e.slot in
      let is : IsTier z u = chain-tiers z img w.sound.fits.chains q h.segment_in u h.tier_in in
      let fits : EntryFits z img q u k = (w.sound.fits.entries.tiers_fit q h.segment_in u h.tier_in).slots_fit.full k h.slot_in h.full in
      let other : keyAt z img u k ≢ key = λ p. ne (ap (λ (x : Live). key_of img x.entry) h.is ∙ p) in
      let a : Moved z img m q u k k = moves q u k is h.slot_in h.full fits other in
      let slot : slot_at z m u k ≡ slot_at z img u k = rewrite-slots w u k is h.slot_in in
      let now : e ≡ live_at z m q u k = h.is ∙ sym (live_made z img q u k (ap (slot_chunk settings) slot) a.entry refl) in (
        record {
          segment_in = h.segment_in;
          tier_in = subst (Memᴰ u) (sym (rewrite-chain w q h.segment_in)) h.tier_in;
          slot_in = h.slot_in;
          full = λ p. h.full (sym slot ∙ p);
          is = now;
        },
        ap (pair_of m) now ∙ a.pair ∙ sym (ap (pair_of img) h.is),
      )
