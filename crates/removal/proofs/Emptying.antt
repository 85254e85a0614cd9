-- What the loop that empties a slot keeps: what is left to do gives the same as the whole. Then a removal step by step.
use Prim.Native.Nat.{ℕ, ◌-◌, ◌≤◌, ◌<◌}
use mathlib.Core.List.{List}
use mathlib.Core.Path.{◌≡◌, refl, ap, sym, ◌∙◌}
use mathlib.Core.Logic.{◌≢◌, ⊎_elim}
use mathlib.Core.Bool.{Bool, true, false, ◌&&◌}
use native.Mathlib.Omega.{arith}
use lib.Dec.{ltb, leb}
use lib.ListN.{length}
use borrow.Author.Tests.{lt-ltb, le-ltb, le-leb, lt-leb}
use Rattle.lists.specs.Cases.{lt-or}
use Rattle.lists.specs.Decide.{Decides}
use Rattle.lists.proofs.Decides.{decided_true, decided-false}
use Rattle.settings.specs.declared.Settings.{Settings}
use Rattle.layout.specs.declared.Shape.{Shape}
use Rattle.layout.specs.Places.{put, tier, slot, put_marks}
use Rattle.layout.specs.Frame.{Framed}
use Rattle.layout.proofs.Places.{length-put}
use Rattle.probe.specs.Ring.{next, dist}
use Rattle.probe.specs.Removal.{stays, shift, remove}
use Rattle.probe.proofs.Ring.{next-lt}
use Rattle.probe.proofs.Removal.{shift-out, shift-empty, shift-stays, shift-moves}
use Rattle.entries.specs.Keys.{start, slot_key}
use Rattle.entries.specs.Live.{slot_at}
use Rattle.search.specs.Search.{slots_of}
use Rattle.removal.specs.Removal.{remove_at}
use Rattle.sound.proofs.Framing.{framed-again}

-- how far the start of v is from the hole h, where the code has its parts
pub start-distance : (st : Settings) (v h : ℕ) {k x d : ℕ} → k ≡ slot_key st v → x ≡ start st k → d ≡ dist st.slots h x
    → d ≡ dist st.slots h (start st (slot_key st v))
start-distance st v h ek ex ed = ed ∙ ap (dist st.slots h) (ex ∙ ap (start st) ek)

-- the start of v lies on the stretch after the hole h up to and including i
abbrev pub Stays : Settings → ℕ → ℕ → ℕ → Type 0
Stays st v h i = (0 < dist st.slots h (start st (slot_key st v))) × (dist st.slots h (start st (slot_key st v)) ≤ dist st.slots h i)

-- the same as the test of the definition
on_true : (d n : ℕ) → 0 < d → d ≤ n → (ltb 0 d && leb d n) ≡ true
on_true d n p q = rw (lt-ltb 0 d p, le-leb d n q)

on-false : (d n : ℕ) → ((0 < d) × (d ≤ n) → ⊥) → (ltb 0 d && leb d n) ≡ false
on-false d n f =
    ⊎_elim
    (λ (p : 0 < d). rw (lt-ltb 0 d p, lt-leb d n (⊎_elim (λ (q : n < d). q) (λ (q : d ≤ n). absurd (f (p, q))) (lt-or n d))))
    (λ (p : d ≤ 0). rw (le-ltb 0 d p))
    (lt-or 0 d)

module _ (z : Shape) (t : ℕ) where
  open z use {settings}
  open settings use {slots}

  module _ (img : List ℕ) (h i v : ℕ) (e : v ≡ slot_at z img t i) where
    stays-yes : Stays settings v h i → stays (slots_of z t) img h i ≡ true
    unfolding stays
    stays-yes s = rw (← e) (on_true _ _ s.0 s.1)

    stays-no : (Stays settings v h i → ⊥) → stays (slots_of z t) img h i ≡ false
    unfolding stays
    stays-no s = rw (← e) (on-false _ _ s)

  -- the hole is `hole`, the next slot to be read is i
  pub record Emptying (j : ℕ) (img₀ img : List ℕ) (i hole left : ℕ) : Type 0 where
    pub long : length img ≡ length img₀
    pub i_lt : i < slots
    pub hole-lt : hole < slots
    pub is : shift (slots_of z t) left img hole i ≡ remove (slots_of z t) img₀ j

  pub emptying_starts : (j : ℕ) (img : List ℕ) (i : ℕ) → j < slots → i ≡ next slots j → Emptying j img img i j slots
  unfolding remove
  emptying_starts j img i h e =
      record { long = refl; i_lt = rw e (next-lt slots h); hole-lt = h; is = ap (shift (slots_of z t) slots img j) e }

  module _ {j : ℕ} {img₀ img : List ℕ} {i hole left : ℕ} (w : Emptying j img₀ img i hole left) where
    -- the frame, for the calls of a turn
    pub emptying_framed : Framed z (length img₀) → Framed z (length img)
    emptying_framed fr = framed-again w.long fr

    pub emptying_long : (v : ℕ) {out : List ℕ} → out ≡ put z img (tier t (slot hole)) v → length out ≡ length img₀
    emptying_long v e = ap length e ∙ length-put z img (tier t (slot hole)) v ∙ w.long

    -- the slot is empty, or no step is left
    pub emptying_empty : (v : ℕ) → v ≡ slot_at z img t i → v ≡ 0 → {out : List ℕ} → out ≡ put z img (tier t (slot hole)) 0
        → out ≡ remove (slots_of z t) img₀ j
    emptying_empty v e q r = r ∙ sym (shift-empty (slots_of z t) left img hole i (sym e ∙ q)) ∙ w.is

    pub emptying_out : left ≤ 0 → {out : List ℕ} → out ≡ put z img (tier t (slot hole)) 0 → out ≡ remove (slots_of z t) img₀ j
    emptying_out h r = r ∙ sym (shift-out (slots_of z t) left img hole i h) ∙ w.is

    module _ (v : ℕ) (e : v ≡ slot_at z img t i) (ne : v ≢ 0) (pos : 0 < left) (i' : ℕ) (ei : i' ≡ next slots i) (r : Bool)
        (d : Decides r (Stays settings v hole i)) where
      pub emptying_stays : r ≡ true → {img' : List ℕ} {hole' : ℕ} → img' ≡ img → hole' ≡ hole → Emptying j img₀ img' i' hole' (left - 1)
      emptying_stays q em eh =
          rw (em, eh, ei)
          (record {
            long = w.long;
            i_lt = next-lt slots w.i_lt;
            hole-lt = w.hole-lt;
            is =
                sym (shift-stays (slots_of z t) left (left - 1) img hole i (omega arith) (λ q. ne (e ∙ q))
                (stays-yes img hole i v e (decided_true r d q)))
                ∙ w.is;
          })

      pub emptying_moves : r ≡ false → {img' : List ℕ} {hole' : ℕ} → img' ≡ put z img (tier t (slot hole)) v → hole' ≡ i
          → Emptying j img₀ img' i' hole' (left - 1)
      emptying_moves q em eh =
          rw (em, eh, ei, e)
          (record {
            long = length-put z img (tier t (slot hole)) (slot_at z img t i) ∙ w.long;
            i_lt = next-lt slots w.i_lt;
            hole-lt = w.i_lt;
            is =
                sym (shift-moves (slots_of z t) left (left - 1) img hole i (omega arith) (λ q. ne (e ∙ q))
                (stays-no img hole i v e (decided-false r d q)))
                ∙ w.is;
          })

-- the two steps of a removal, where the code has the image after each
pub removed-at : (z : Shape) (img : List ℕ) (t j c n : ℕ) {one two : List ℕ} → one ≡ put_marks z img t c n 0 → two ≡ remove (slots_of z t) one j
    → two ≡ remove_at z img t j c n
unfolding remove_at
removed-at z img t j c n e₁ e₂ = e₂ ∙ ap (λ (x : List ℕ). remove (slots_of z t) x j) e₁
