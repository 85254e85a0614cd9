-- The lowest free chunk fields: after `settle` the tiers that it was given have the exact number, and all others have what they had.
use Prim.Native.Nat.{ℕ}
use mathlib.Core.List.Memᴰ
use mathlib.Core.List.{List, [], ◌∷◌, Memᴰ}
use mathlib.Core.Path.{◌≡◌, refl, sym, ◌∙◌}
use mathlib.Core.Logic.{◌≢◌, ◌⊎◌, inl, inr, ⊎_elim}
use Rattle.lists.specs.Cases.{same_or}
use Rattle.lists.specs.Quantify.{Every}
use Rattle.layout.specs.declared.Shape.{Shape}
use Rattle.layout.specs.Tiers.{IsTier}
use Rattle.chains.proofs.Tiers.{chain-tiers}
use Rattle.chains.proofs.Chained.{IsChained}
use Rattle.chunks.specs.Chunks.{lowest_clear, low_field}
use Rattle.sound.specs.Sound.{SoundBut}
use Rattle.sound.proofs.AgreeTier.{SameTier, SameCounters, same-lowest}
use Rattle.sound.proofs.Replaced.{OnlyTier}
use Rattle.counters.specs.Recount.{recount, settle}
use Rattle.counters.specs.LowMarks.{LowKept, LowMarks}
use Rattle.counters.proofs.Recounting.{recount-only, recount-exact, recount-sound, recount-chained}

module _ {z : Shape} where
  pub low_same : {img img' : List ℕ} {t : ℕ} → SameTier z img img' t → SameCounters z img img' t → LowKept z img img' t
  low_same s c = record { bits = s.marks; field = c.low }

  pub low-stays : {img : List ℕ} {t : ℕ} → LowKept z img img t
  low-stays = record { bits = λ i h. refl; field = refl }

  pub low-then : {img img' img'' : List ℕ} {t : ℕ} → LowKept z img img' t → LowKept z img' img'' t → LowKept z img img'' t
  low-then a b = record { bits = λ i h. b.bits i h ∙ a.bits i h; field = b.field ∙ a.field }

  pub low-only : {img img' : List ℕ} {t u : ℕ} → OnlyTier z img img' t → IsTier z u → u ≢ t → LowKept z img img' u
  low-only {img} {img'} {t} {u} only is ne = low_same (only.others u is ne) (only.counts u is ne)

module _ (z : Shape) where
  -- the exact number
  abbrev Exact : List ℕ → ℕ → Type 0
  Exact img t = low_field z img t ≡ lowest_clear z img t

  module _ (img : List ℕ) (t : ℕ) {but : List ℕ} (sound : SoundBut z img (t ∷ but)) (c : IsChained z img t) where
    only : OnlyTier z img (recount z img t) t
    only = recount-only z img c.0 t c.1.0 sound c.1.1

    again : SoundBut z (recount z img t) but
    again = recount-sound z img c.0 t c.1.0 sound c.1.1

    exact-recounted : (u : ℕ) → IsTier z u → Exact img u ⊎ (u ≡ t) → Exact (recount z img t) u
    exact-recounted u is a =
        ⊎_elim
        (λ (e : u ≡ t). rw e (recount-exact z img c.0 t c.1.0 sound c.1.1))
        (λ (ne : u ≢ t).
        ⊎_elim
        (λ x. (only.counts u is ne).low ∙ x ∙ sym (same-lowest z img (recount z img t) u (only.others u is ne).marks))
        (λ e. absurd (ne e))
        a)
        (same_or u t)

  chained-on : {ts img : List ℕ} {t : ℕ} → SoundBut z img (t ∷ ts) → Every (t ∷ ts) (IsChained z img) → Every ts (IsChained z (recount z img t))
  chained-on {ts} {img} {t} sound c u m = recount-chained z img t sound (c t (Memᴰ.head refl)) u (c u (Memᴰ.tail m))

  pub chained-tier : {but img : List ℕ} {t : ℕ} → SoundBut z img but → IsChained z img t → IsTier z t
  chained-tier {but} {img} {t} sound c = chain-tiers z img sound.fits.chains c.0 c.1.0 t c.1.1

  exact-stays : (ts img : List ℕ) → SoundBut z img ts → Every ts (IsChained z img) → (u : ℕ) → IsTier z u → Exact img u
      → Exact (settle z img ts) u
  unfolding settle
  exact-stays [] img sound c u is e = e
  exact-stays (t ∷ ts) img sound c u is e =
      let here : IsChained z img t = c t (Memᴰ.head refl) in
      exact-stays ts (recount z img t) (again img t sound here) (chained-on sound c) u is (exact-recounted img t sound here u is (inl e))

  settle-exact : (ts img : List ℕ) → SoundBut z img ts → Every ts (IsChained z img) → Every ts (Exact (settle z img ts))
  unfolding settle
  settle-exact [] img sound c u m = absurd (Memᴰ.not-nil m)
  settle-exact (t ∷ ts) img sound c u m =
      let here : IsChained z img t = c t (Memᴰ.head refl) in
      let is : IsTier z u = chained-tier sound (c u m) in
      ⊎_elim
      (λ (e : u ≡ t).
      exact-stays ts (recount z img t) (again img t sound here) (chained-on sound c) u is (exact-recounted img t sound here u is (inr e)))
      (λ k. settle-exact ts (recount z img t) (again img t sound here) (chained-on sound c) u k)
      (Memᴰ.cases_cons m)

  settle-others : (ts img : List ℕ) → SoundBut z img ts → Every ts (IsChained z img) → (u : ℕ) → IsTier z u → (Memᴰ u ts → ⊥)
      → LowKept z img (settle z img ts) u
  unfolding settle
  settle-others [] img sound c u is out = low-stays
  settle-others (t ∷ ts) img sound c u is out =
      let here : IsChained z img t = c t (Memᴰ.head refl) in
      low-then (low-only (only img t sound here) is (λ e. out (Memᴰ.head e)))
      (settle-others ts (recount z img t) (again img t sound here) (chained-on sound c) u is (λ k. out (Memᴰ.tail k)))

  -- an edit that changed some tiers, and then settled them
  pub settle-lows : {img : List ℕ} (ts img' : List ℕ) → SoundBut z img' ts → Every ts (IsChained z img')
      → ((u : ℕ) → IsTier z u → (Memᴰ u ts → ⊥) → LowKept z img img' u) → LowMarks z img (settle z img' ts) ts
  settle-lows ts img' sound c before =
      record {
        exact = settle-exact ts img' sound c;
        others = λ u is out. low-then (before u is out) (settle-others ts img' sound c u is out);
      }

  -- and what comes after it leaves bits and fields
  pub lows-then : {img img' img'' ts : List ℕ} → LowMarks z img img' ts → Every ts (IsTier z)
      → ((u : ℕ) → IsTier z u → LowKept z img' img'' u) → LowMarks z img img'' ts
  lows-then {img} {img'} {img''} a is kept =
      record {
        exact = λ u m. (kept u (is u m)).field ∙ a.exact u m ∙ sym (same-lowest z img' img'' u (kept u (is u m)).bits);
        others = λ u it out. low-then (a.others u it out) (kept u it);
      }
