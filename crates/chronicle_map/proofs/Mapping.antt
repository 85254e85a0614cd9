-- A map that weighs what the image's keys and records weigh finds what the image's live entries hold.
use Prim.Native.Nat.{ℕ}
use mathlib.Core.List.{List, Memᴰ}
use mathlib.Core.Path.{◌≡◌, ap, sym, ◌∙◌}
use mathlib.Core.Bool.{true, false}
use mathlib.Core.Option.{none, some}
use native.Mathlib.Omega.{arith}
use Rattle.lists.specs.Cases.{by-test}
use Rattle.lists.proofs.Members.{none_first, first-only}
use Rattle.words.proofs.Bytes.{same-eq, same_true}
use Rattle.layout.specs.declared.Shape.{Shape}
use Rattle.entries.specs.declared.Live.{Live}
use Rattle.entries.specs.Stored.{key_of}
use Rattle.entries.specs.Live.{live}
use Rattle.entries.specs.Pairs.{Pair, pair_of, pairs_of}
use Rattle.sound.specs.Sound.{SoundImage}
use Rattle.edit.specs.Edits.{find}
use Rattle.chronicle_map.specs.History.{has_key, Map, map_get}
use Rattle.sound.proofs.KeyCounts.{pair-live, live-pair}
use Rattle.edit.proofs.Finding.{find-live, found-only}
use Rattle.chronicle_map.proofs.Weights.{Weigh, weigh_in}

module _ (z : Shape) (img : List ℕ) (sound : SoundImage z img) (m : Map) (w : Weigh (pairs_of z img) m) (key : List ℕ) where
  -- a key and record of the map with this key are those of the live entry that is found
  held : (p : Pair) → Memᴰ p m → has_key key p ≡ true → (e : Live) × (find z img key ≡ some e) × (p ≡ pair_of img e)
  unfolding has_key
  held p mp t =
      let r : (e : Live) × Memᴰ e (live z img) × (p ≡ pair_of img e) = pair-live z img p (weigh_in m (pairs_of z img) (λ F. sym (w F)) p mp) in
      let k : key_of img r.0.entry ≡ key = ap (λ (q : Pair). q.key) (sym r.2) ∙ same_true _ key t in
      (r.0, found-only z img sound key r.0 r.1 k, r.2)

  pub map_found : (e : Live) → find z img key ≡ some e → map_get m key ≡ some (pair_of img e)
  unfolding map_get has_key
  map_found e f =
      let r : Memᴰ e (live z img) × (key_of img e.entry ≡ key) = find-live z img key e f in
      first-only (has_key key) (pair_of img e) m (weigh_in (pairs_of z img) m w (pair_of img e) (live-pair z img e r.0)) (same-eq _ key r.1)
      (λ y my t.
      let q : (x : Live) × (find z img key ≡ some x) × (y ≡ pair_of img x) = held y my t in
      let g : some q.0 ≡ some e = sym q.1 ∙ f in
      let x : q.0 ≡ e = cc in
      q.2 ∙ ap (pair_of img) x)

  pub map-none : find z img key ≡ none → map_get m key ≡ none
  unfolding map_get
  map-none f =
      none_first (has_key key) m
      (λ y my. by-test (has_key key y)
      (λ (t : has_key key y ≡ true).
      absurd
      (let q : (x : Live) × (find z img key ≡ some x) × (y ≡ pair_of img x) = held y my t in
      let g : some q.0 ≡ none = sym q.1 ∙ f in
      let h : ◌≡◌ {A = ℕ} 0 1 = cc in
      omega arith))
      (λ (t : has_key key y ≡ false). t))
