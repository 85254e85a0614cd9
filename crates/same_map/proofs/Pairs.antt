-- Two accepted images read as the same map exactly where the keys and records of each are those of the other, in whatever order.
use Prim.Native.Nat.{ℕ}
use mathlib.Core.List.{List, Memᴰ}
use mathlib.Core.Path.{◌≡◌, refl, ap, sym, ◌∙◌, subst}
use mathlib.Core.Bool.{true}
use mathlib.Core.Option.{Option, none, some}
use Rattle.lists.proofs.Members.{first_in}
use Rattle.words.specs.Bytes.{Bytes}
use Rattle.words.proofs.Bytes.{same_true}
use Rattle.entries.specs.declared.Live.{Live}
use Rattle.entries.specs.Stored.{key_of}
use Rattle.entries.specs.Live.{live}
use Rattle.entries.specs.Pairs.{Pair, pair_of}
use Rattle.sound.proofs.KeyCounts.{pair-live}
use Rattle.edit.proofs.Finding.{found-only}
use Rattle.chronicle_map.specs.History.{has_key, map_of, map_get}
use Rattle.chronicle_map.specs.Demands.{Accepted, SameMap, shape}
use Rattle.chronicle_map.proofs.Accepting.{Holds, accepted-holds}
use Rattle.chronicle_map.proofs.Mapping.{map_found}
use Rattle.same_map.specs.SameAnswers.{PairsAmong}

-- in an accepted image a key has one record, so what is among the keys and records is what is got
module _ (block img : List ℕ) (h : Holds block img) where
  among-got : (p : Pair) → Memᴰ p (map_of block img) → map_get (map_of block img) p.key ≡ some p
  among-got p m =
      let r : (e : Live) × Memᴰ e (live (shape block img) img) × (p ≡ pair_of img e) = pair-live (shape block img) img p m in
      let k : key_of img r.0.entry ≡ p.key = ap (λ (q : Pair). q.key) (sym r.2) in
      map_found (shape block img) img h.sound (map_of block img) (λ F. refl) p.key r.0
      (found-only (shape block img) img h.sound p.key r.0 r.1 k)
      ∙ ap some (sym r.2)

  got-among : (key : List ℕ) (p : Pair) → map_get (map_of block img) key ≡ some p → Memᴰ p (map_of block img) × (p.key ≡ key)
  unfolding map_get has_key
  got-among key p e =
      let r : Memᴰ p (map_of block img) × (has_key key p ≡ true) = first_in (has_key key) p (map_of block img) e in
      (r.0, same_true p.key key r.1)

-- what the one gets, the other gets
carried : (block one other : List ℕ) → Holds block one → Holds block other → PairsAmong block one other → (key : List ℕ) (p : Pair)
    → map_get (map_of block one) key ≡ some p → map_get (map_of block other) key ≡ some p
carried block one other h h' among key p e =
    let r : Memᴰ p (map_of block one) × (p.key ≡ key) = got-among block one h key p e in
    subst (λ (k : List ℕ). map_get (map_of block other) k ≡ some p) r.1 (among-got block other h' p (among p r.0))

module _ (block one other : List ℕ) (b : Bytes one) (b' : Bytes other) (a : Accepted block one) (a' : Accepted block other) where
  h : Holds block one
  h = accepted-holds block one b a

  h' : Holds block other
  h' = accepted-holds block other b' a'

  pub pairs-same-map : PairsAmong block one other → PairsAmong block other one → SameMap block one other
  pairs-same-map among among' key = by-got (map_get (map_of block one) key) (map_get (map_of block other) key) refl refl
    where
      by-got : (o o' : Option Pair) → map_get (map_of block one) key ≡ o → map_get (map_of block other) key ≡ o'
          → map_get (map_of block one) key ≡ map_get (map_of block other) key
      by-got (some p) o' e e' = e ∙ sym (carried block one other h h' among key p e)
      by-got none none e e' = e ∙ sym e'
      by-got none (some p) e e' = carried block other one h' h among' key p e' ∙ sym e'

  pub same-map-pairs : SameMap block one other → PairsAmong block one other
  same-map-pairs same p m = (got-among block other h' p.key p (sym (same p.key) ∙ among-got block one h p m)).0
