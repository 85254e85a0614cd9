-- The live entries that cover a chunk of a tier are those of the tier that cover it.
use Prim.Native.Nat.{ℕ, ◌+◌, ◌<◌}
use mathlib.Core.List.{List, Memᴰ}
use mathlib.Core.Path.{◌≡◌, ap, sym, ◌∙◌}
use mathlib.Core.Logic.{◌≢◌}
use mathlib.Core.Bool.{false}
use native.Mathlib.Omega.{arith}
use lib.ListN.{length}
use borrow.Author.Tests.{eq-eqb, ne_eqb}
use Rattle.lists.specs.Lists.{below, how_many, total}
use Rattle.lists.proofs.Lists.{span_in}
use Rattle.lists.proofs.Rows.{how_many-span_in}
use Rattle.lists.proofs.SameLists.{same-those}
use Rattle.lists.proofs.Totals.{total-same, total-change, total-zero, how_many-total, how_many_flat_map}
use Rattle.layout.specs.declared.Shape.{Shape}
use Rattle.chains.specs.Chains.{chain, ChainsFit}
use Rattle.entries.specs.declared.Live.{Live}
use Rattle.entries.specs.Live.{slot_at, live_at, live_in, live_of, live}
use Rattle.entries.proofs.LiveLists.{live_in_in}
use Rattle.chunks.specs.Chunks.{covers}
use Rattle.chains.proofs.Chained.{chain-segment, chain-once}
use Rattle.chronicle_map.specs.Demands.{covers_in}

module _ (z : Shape) (img : List ℕ) (fits : ChainsFit z img) (s t i : ℕ) (hs : s < z.settings.segments) (mt : Memᴰ t (chain z img s)) where
  open z use {settings}
  open settings use {segments}

  live-tier : (s' u : ℕ) (e : Live) → Memᴰ e (live_in z img s' u) → e.tier ≡ u
  unfolding live_at
  live-tier s' u e m =
      let r : (j : ℕ) × (j < settings.slots) × (slot_at z img u j ≢ 0) × (e ≡ live_at z img s' u j) = live_in_in z img s' u e m in
      ap (λ (x : Live). x.tier) r.3

  here : (s' : ℕ) → how_many (live_in z img s' t) (covers_in t i) ≡ how_many (live_in z img s' t) (covers i)
  here s' =
      ap length (same-those (covers_in t i) (covers i) (live_in z img s' t) (λ e m. rw (eq-eqb e.tier t (live-tier s' t e m), covers_in)))

  elsewhere : (s' u : ℕ) → u ≢ t → how_many (live_in z img s' u) (covers_in t i) ≡ 0
  elsewhere s' u ne =
      ap length (same-those (covers_in t i) (λ _. false) (live_in z img s' u)
      (λ e m. rw (ne_eqb e.tier t (λ (q : e.tier ≡ t). ne (sym (live-tier s' u e m) ∙ q)), covers_in)))
      ∙ how_many-total (live_in z img s' u) (λ _. false) ∙ total-zero (live_in z img s' u)

  abbrev of-segment : ℕ → ℕ
  of-segment s' = total (chain z img s') (λ u. how_many (live_in z img s' u) (covers_in t i))

  own : of-segment s ≡ how_many (live_in z img s t) (covers i)
  own =
      let c : total (chain z img s) (λ u. how_many (live_in z img s u) (covers_in t i)) + 0
      ≡ total (chain z img s) (λ _. 0) + how_many (live_in z img s t) (covers_in t i) =
      total-change (chain z img s) t (λ _. 0) (λ u. how_many (live_in z img s u) (covers_in t i)) (chain-once z img fits s t hs mt)
      (λ u mu ne. elsewhere s u ne) in
      omega (arith, total-zero (chain z img s), here s)

  other : (s' : ℕ) → s' < segments → s' ≢ s → of-segment s' ≡ 0
  other s' hs' ne =
      total-same (chain z img s') (λ _. 0) (λ u. how_many (live_in z img s' u) (covers_in t i))
      (λ u mu. elsewhere s' u (λ (q : u ≡ t). ne (chain-segment z img fits s' s t hs' hs (rw q at mu) mt)))
      ∙ total-zero (chain z img s')

  pub covered-live : how_many (live z img) (covers_in t i) ≡ how_many (live_in z img s t) (covers i)
  unfolding live live_of
  covered-live =
      let a : how_many (live z img) (covers_in t i) ≡ total (below segments) of-segment =
      how_many_flat_map (live_of z img) (below segments) (covers_in t i)
      ∙ total-same (below segments) of-segment (λ s'. how_many (live_of z img s') (covers_in t i))
      (λ s' m. how_many_flat_map (live_in z img s') (chain z img s') (covers_in t i)) in
      let b : total (below segments) of-segment + 0 ≡ total (below segments) (λ _. 0) + of-segment s =
      total-change (below segments) s (λ _. 0) of-segment (how_many-span_in 0 segments s (omega arith) (omega arith))
      (λ s' m ne. other s' (omega (arith, span_in 0 segments s' m)) ne) in
      omega (arith, a, b, total-zero (below segments), own)
