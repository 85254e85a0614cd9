-- Lines written one piece after the other.
use Prim.Native.Nat.{ℕ, ◌+◌, ◌-◌, ◌*◌, ◌≤◌, ◌<◌}
use mathlib.Core.List.{List, [], ◌∷◌, ◌++◌, append_assoc, append-nil, flat_map}
use mathlib.Core.Path.{◌≡◌, ap, sym, ◌∙◌}
use native.Mathlib.Omega.{arith}
use native.Mathlib.Nat.{mul-suc}
use native.Mathlib.Numerals.{add-one}
use lib.ListN.{length, get_or, set, take, drop, length-append, length-take}
use lib.Seq.{take-suc-set, take_all}
use Rattle.lists.proofs.Lists.{flat_map_take-more}
use Rattle.text.specs.declared.line.Line.{Line}
use Rattle.text.specs.Text.{decimal, spaced, ended}
use Rattle.text.specs.Lines.{line}
use Rattle.text.specs.Line.{text_of, Added, AddedWithin, Reads}

-- a byte put at the end
pub added-byte : (l : Line) (b : ℕ) → l.len < length l.bytes
    → Added l (b ∷ []) (record { bytes = set l.bytes l.len b; len = l.len + 1 })
added-byte l b h = record { text = rw add-one (take-suc-set l.bytes l.len b h); len = omega arith }

pub added_then : {l m r : Line} {s t : List ℕ} → Added l s m → Added m t r → Added l (s ++ t) r
added_then {l} {m} {r} {s} {t} a b = record {
  text = b.text ∙ ap (λ (x : List ℕ). x ++ t) a.text ∙ append_assoc (text_of l) s t;
  len = omega (arith, a.len, b.len, length-append s t);
}

-- the piece that was added, said in another way
pub added_as : {l r : Line} {s t : List ℕ} → s ≡ t → Added l s r → Added l t r
added_as e a = rw e at a

pub added-within : {n : ℕ} {l r : Line} {s : List ℕ} → Added l s r → length s ≤ n → AddedWithin n l s r
added-within a h = record { added = a; within = omega (arith, a.len) }

pub added-reads : {l r : Line} {s : List ℕ} → (text_of l ≡ []) × (l.len ≡ 0) → Added l s r → Reads s r
added-reads {l} {r} {s} h a =
    let e : text_of r ≡ s = a.text ∙ ap (λ (x : List ℕ). x ++ s) h.0 in
    let n : r.len ≡ length (text_of r) = omega (arith, ap length e, a.len) in
    record { text = e; length_fits = (omega (arith, length-take r.len r.bytes), n) }

-- ---- a loop that adds a piece of at most k bytes for each element

pub record Adding (f : ℕ → List ℕ) (k : ℕ) (xs : List ℕ) (l₀ l : Line) (i : ℕ) : Type 0 where
  pub far : i ≤ length xs
  pub added : Added l₀ (flat_map f (take i xs)) l
  pub within : l.len ≤ l₀.len + k * i

module _ {f : ℕ → List ℕ} {k : ℕ} {xs : List ℕ} {l₀ : Line} where
  pub add-starts : Adding f k xs l₀ l₀ 0
  unfolding flat_map
  add-starts = record { far = omega arith; added = record { text = sym (append-nil _); len = omega arith }; within = omega arith }

  module _ {l : Line} {i : ℕ} (a : Adding f k xs l₀ l i) where
    pub add-turns : {r : Line} → i < length xs → AddedWithin k l (f (get_or xs i 0)) r → Adding f k xs l₀ r (i + 1)
    add-turns h b = record {
      far = omega arith;
      added = added_as (sym (flat_map_take-more f xs i h)) (added_then a.added b.added);
      within = rw (add-one, mul-suc) (omega (arith, a.within, b.within));
    }

    pub add-ends : length xs ≤ i → AddedWithin (k * length xs) l₀ (flat_map f xs) l
    add-ends h =
        let e : i ≡ length xs = omega (arith, a.far) in
        record { added = added_as (ap (flat_map f) (take_all i xs h)) a.added; within = rw e at a.within }

-- a line's first number, and the others
pub line_first : (ns : List ℕ) → 0 < length ns → ended (decimal (get_or ns 0 0) ++ spaced (take (length ns - 1) (drop 1 ns))) ≡ line ns
unfolding line
line_first [] h = absurd (omega arith)
line_first (n ∷ ns) h = rw (take_all (length (n ∷ ns) - 1) ns (omega arith))
