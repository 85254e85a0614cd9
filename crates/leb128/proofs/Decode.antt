-- What is read at a place, path by path, and the laws: exactly the shortest forms are read, and what is written reads back.
use Prim.Native.Nat.{ℕ, zero, suc, ◌+◌, ◌-◌, ◌*◌, ◌/◌, ◌%◌, ◌≤◌, ◌<◌}
use mathlib.Core.List.{List, [], ◌∷◌}
use mathlib.Core.Path.{◌≡◌, refl, ap, sym, ◌∙◌}
use mathlib.Core.Logic.{◌⊎◌, inl, inr, ⊎_elim, ◌≢◌}
use mathlib.Core.Bool.{true, false}
use native.Mathlib.Omega.{arith}
use native.Mathlib.Nat.{add-zero}
use native.Mathlib.Numerals.{add-one}
use borrow.Author.Tests.{lt-ltb, le-ltb, le-leb, lt-leb, leb-true}
use lib.Dec.{leb, ltb}
use lib.ListN.{length, get_or, take, drop, drop_of_length-le}
use lib.Seq.{drop-cons, sets}
use Rattle.words.specs.Bytes.{cut, same}
use Rattle.lists.specs.Cases.{lt-or, by-test}
use Rattle.words.proofs.Cuts.{cut-room}
use Rattle.words.proofs.Bytes.{same-eq, same_true, same_false, cut-sets-same, get_or-cut}
use Rattle.std.specs.Prelude.{Some, None}
use Rattle.std.proofs.lemmas.Option.{none-some, some_pair_parts}
use Rattle.leb128.specs.Leb128.{encode, front, value, largest_length, accept, decode, EncodedAt}
use Rattle.leb128.proofs.Encode.{encode-1, encode-2, encode-3}

-- ---- the bytes at the front

front-end : (n : ℕ) (l : List ℕ) (at : ℕ) → length l ≤ at → front n (drop at l) ≡ []
unfolding front
front-end zero l at h = refl
front-end (suc n) l at h = rw (drop_of_length-le l h)

front-last : (n : ℕ) (l : List ℕ) (at : ℕ) → at < length l → get_or l at 0 < 128 → front (suc n) (drop at l) ≡ get_or l at 0 ∷ []
unfolding front
front-last n l at h b = rw (drop-cons l at 0 h, front, lt-ltb _ 128 b)

front-more : (n : ℕ) (l : List ℕ) (at : ℕ) → at < length l → 128 ≤ get_or l at 0
    → front (suc n) (drop at l) ≡ get_or l at 0 ∷ front n (drop (at + 1) l)
unfolding front
front-more n l at h b = rw (add-one, drop-cons l at 0 h, front, le-ltb _ 128 b)

-- ---- when bytes are accepted

module _ (bs : List ℕ) (at : ℕ) where
  accept-shortest : (n : ℕ) → value bs ≡ n → bs ≡ encode n → n ≤ largest_length → accept bs at ≡ Some (n, at + length bs)
  unfolding accept
  accept-shortest n v e h = rw (v, accept, same-eq bs (encode n) e, le-leb n largest_length h) (ap (λ (k : ℕ). Some (k, at + length bs)) v)

  accept-longer : bs ≢ encode (value bs) → accept bs at ≡ None
  unfolding accept
  accept-longer e = rw (same_false bs (encode (value bs)) e, accept)

  accept_too_large : largest_length < value bs → accept bs at ≡ None
  unfolding accept
  accept_too_large h =
      by-test (same bs (encode (value bs)))
      (λ t. rw (t, lt-leb (value bs) largest_length h, accept))
      (λ t. rw (t, accept))

-- the three sizes
three-sizes : (n : ℕ) → (n < 128) ⊎ (((128 ≤ n) × (n < 16384)) ⊎ (16384 ≤ n))
three-sizes n = ⊎_elim (λ h. inl h) (λ (a : 128 ≤ n). ⊎_elim (λ h. inr (inl (a, h))) (λ h. inr (inr h)) (lt-or n 16384)) (lt-or n 128)

base-128 : (x y z : ℕ) → x + y * 128 + z * 16384 ≡ x + (y + z * 128) * 128
base-128 x y z = omega arith

div-128 : (x w : ℕ) → x < 128 → (x + w * 128) / 128 ≡ w
div-128 x w h = omega arith

mod_128 : (y z : ℕ) → y < 128 → (y + z * 128) % 128 ≡ y
mod_128 y z h = omega arith

-- ---- one, two and three bytes, accepted and refused

refuse-none : (at : ℕ) → accept [] at ≡ None
unfolding value
refuse-none at = accept-longer [] at (λ e. let f : [] ≡ 0 ∷ [] = e ∙ encode-1 0 (omega arith) in let z : ◌≡◌ {A = ℕ} 0 1 = cc in omega arith)

module _ (at a : ℕ) where
  accept-1 : a < 128 → accept (a ∷ []) at ≡ Some (a, at + 1)
  unfolding value
  accept-1 h = accept-shortest (a ∷ []) at a (omega arith) (sym (encode-1 a h)) (omega arith)

  refuse-1 : 128 ≤ a → accept (a ∷ []) at ≡ None
  unfolding value
  refuse-1 h =
      accept-longer (a ∷ []) at
      (λ e. let f : a ∷ [] ≡ (a % 128 + 128 * 0) ∷ [] = e ∙ encode-1 _ (omega arith) in let g : a ≡ a % 128 + 128 * 0 = cc in omega arith)

  module _ (b : ℕ) where
    pub accept-2 : 128 ≤ a → a < 256 → 0 < b → b < 128 → accept (a ∷ b ∷ []) at ≡ Some (a - 128 + b * 128, at + 2)
    unfolding value
    accept-2 lo hi pos h =
        let n : ℕ = a - 128 + b * 128 in
        let x : a ≡ 128 + n % 128 = omega arith in
        let y : b ≡ n / 128 = omega arith in
        accept-shortest (a ∷ b ∷ []) at n (omega arith) (cc (encode-2 n (omega arith) (omega arith))) (omega arith)

    pub refuse-2 : 128 ≤ a → (b ≡ 0) ⊎ (128 ≤ b) → accept (a ∷ b ∷ []) at ≡ None
    unfolding value
    refuse-2 lo o =
        let n : ℕ = a % 128 + 128 * (b % 128 + 128 * 0) in
        accept-longer (a ∷ b ∷ []) at
        (λ (e : a ∷ b ∷ [] ≡ encode n).
        ⊎_elim
        (λ (h : n < 128). let f : a ∷ b ∷ [] ≡ n ∷ [] = e ∙ encode-1 n h in let z : ◌≡◌ {A = ℕ} 0 1 = cc in omega arith)
        (λ (h : 128 ≤ n).
        let f : a ∷ b ∷ [] ≡ (128 + n % 128) ∷ (n / 128) ∷ [] = e ∙ encode-2 n h (omega arith) in
        let g : b ≡ n / 128 = cc in
        ⊎_elim (λ (k : b ≡ 0). omega arith) (λ (k : 128 ≤ b). omega arith) o)
        (lt-or n 128))

    module _ (c : ℕ) where
      pub accept-3 : 128 ≤ a → a < 256 → 128 ≤ b → b < 256 → 0 < c → c ≤ 3
          → accept (a ∷ b ∷ c ∷ []) at ≡ Some (a - 128 + (b - 128) * 128 + c * 16384, at + 3)
      unfolding value
      accept-3 lo hi lo' hi' pos h =
          let n : ℕ = a - 128 + (b - 128) * 128 + c * 16384 in
          let x : a ≡ 128 + n % 128 = omega arith in
          let q : n / 128 ≡ b - 128 + c * 128 =
          ap (λ (k : ℕ). k / 128) (base-128 (a - 128) (b - 128) c) ∙ div-128 (a - 128) (b - 128 + c * 128) (omega arith) in
          let y : b ≡ 128 + n / 128 % 128 = rw (q, mod_128 (b - 128) c (omega arith)) (omega arith) in
          let w : c ≡ n / 128 / 128 = rw q (omega arith) in
          let a' : a % 128 ≡ a - 128 = omega arith in
          let b' : b % 128 ≡ b - 128 = omega arith in
          accept-shortest (a ∷ b ∷ c ∷ []) at n (omega arith) (cc (encode-3 n (omega arith) (omega arith))) (omega arith)

      pub refuse-3 : (c ≡ 0) ⊎ (3 < c) → accept (a ∷ b ∷ c ∷ []) at ≡ None
      unfolding value
      refuse-3 o =
          let n : ℕ = a % 128 + 128 * (b % 128 + 128 * (c % 128 + 128 * 0)) in
          ⊎_elim
          (λ (big : largest_length < n). accept_too_large (a ∷ b ∷ c ∷ []) at big)
          (λ (small : n ≤ largest_length).
          accept-longer (a ∷ b ∷ c ∷ []) at
          (λ (e : a ∷ b ∷ c ∷ [] ≡ encode n).
          ⊎_elim
          (λ (h : n < 128). let f : a ∷ b ∷ c ∷ [] ≡ n ∷ [] = e ∙ encode-1 n h in let z : ◌≡◌ {A = ℕ} 0 1 = cc in omega arith)
          (⊎_elim
          (λ (h : (128 ≤ n) × (n < 16384)).
          let f : a ∷ b ∷ c ∷ [] ≡ (128 + n % 128) ∷ (n / 128) ∷ [] = e ∙ encode-2 n h.0 h.1 in let z : ◌≡◌ {A = ℕ} 0 1 = cc in omega arith)
          (λ (h : 16384 ≤ n).
          let f : a ∷ b ∷ c ∷ [] ≡ (128 + n % 128) ∷ (128 + n / 128 % 128) ∷ (n / 128 / 128) ∷ [] = e ∙ encode-3 n h (omega arith) in
          let g : c ≡ n / 128 / 128 = cc in
          ⊎_elim (λ (k : c ≡ 0). omega arith) (λ (k : 3 < c). omega arith) o))
          (three-sizes n)))
          (lt-or largest_length n)

-- ---- what is read, path by path: a, b and c are the bytes at the place

module _ (l : List ℕ) (at : ℕ) where
  pub decode-end : length l ≤ at → decode l at ≡ None
  unfolding decode
  decode-end h = rw (front-end 3 l at h) (refuse-none at)

  pub decode-1 : (a : ℕ) → at < length l → a ≡ get_or l at 0 → a < 128 → decode l at ≡ Some (a, at + 1)
  unfolding decode
  decode-1 a h e k = rw (front-last 2 l at h (rw e at k), ← e) (accept-1 at a k)

  module _ (a : ℕ) (h : at < length l) (e : a ≡ get_or l at 0) (k : 128 ≤ a) where
    front-a : front 3 (drop at l) ≡ a ∷ front 2 (drop (at + 1) l)
    front-a = rw e (front-more 2 l at h (rw e at k))

    pub decode-end-1 : length l ≤ at + 1 → decode l at ≡ None
    unfolding decode
    decode-end-1 g = rw (front-a, front-end 2 l (at + 1) g) (refuse-1 at a k)

    pub decode-2 : (b : ℕ) → at + 1 < length l → b ≡ get_or l (at + 1) 0 → b < 128 → decode l at ≡ accept (a ∷ b ∷ []) at
    unfolding decode
    decode-2 b g f m = rw (front-a, front-last 1 l (at + 1) g (rw f at m), ← f)

    module _ (b : ℕ) (g : at + 1 < length l) (f : b ≡ get_or l (at + 1) 0) (m : 128 ≤ b) where
      pub decode-end-2 : length l ≤ at + 2 → decode l at ≡ None
      unfolding decode
      decode-end-2 x =
          let two : at + 1 + 1 ≡ at + 2 = omega arith in
          rw (front-a, front-more 1 l (at + 1) g (rw f at m), two, front-end 1 l (at + 2) x, ← f) (refuse-2 at a b k (inr m))

      pub decode-3 : (c : ℕ) → at + 2 < length l → c ≡ get_or l (at + 2) 0 → decode l at ≡ accept (a ∷ b ∷ c ∷ []) at
      unfolding decode front
      decode-3 c x y =
          let two : at + 1 + 1 ≡ at + 2 = omega arith in
          rw (front-a, front-more 1 l (at + 1) g (rw f at m), two, ← f)
          (⊎_elim
          (λ (z : get_or l (at + 2) 0 < 128). rw (front-last 0 l (at + 2) x z, ← y))
          (λ (z : 128 ≤ get_or l (at + 2) 0). rw (front-more 0 l (at + 2) x z, ← y))
          (lt-or (get_or l (at + 2) 0) 128))

-- ---- the laws

-- what is accepted is the shortest form of its number

front_cut : (k : ℕ) (bs : List ℕ) → take (length (front k bs)) bs ≡ front k bs
unfolding front
front_cut zero bs = refl
front_cut (suc k) [] = refl
front_cut (suc k) (b ∷ bs) =
    by-test (ltb b 128) (λ t. rw (t, front)) (λ t. rw (t, front) (ap (λ (r : List ℕ). b ∷ r) (front_cut k bs)))

accept-sound : (bs : List ℕ) (at n next : ℕ) → accept bs at ≡ Some (n, next) → (n ≤ largest_length) × (bs ≡ encode n) × (next ≡ at + length bs)
unfolding accept
accept-sound bs at n next h =
    by-test (same bs (encode (value bs)))
    (λ (t : same bs (encode (value bs)) ≡ true).
    by-test (leb (value bs) largest_length)
    (λ (u : leb (value bs) largest_length ≡ true).
    let p : (value bs ≡ n) × (at + length bs ≡ next) = some_pair_parts (value bs) n (at + length bs) next (rw (t, u, accept) at h) in
    let f : bs ≡ encode (value bs) = same_true bs (encode (value bs)) t in
    (omega (arith, leb-true (value bs) largest_length u, p.0), rw p.0 at f, sym p.1))
    (λ (u : leb (value bs) largest_length ≡ false). absurd (none-some (n, next) (rw (t, u, accept) at h))))
    (λ (t : same bs (encode (value bs)) ≡ false). absurd (none-some (n, next) (rw (t, accept) at h)))

pub decode-sound : (l : List ℕ) (at n next : ℕ) → decode l at ≡ Some (n, next) → EncodedAt l at n next
unfolding decode
decode-sound l at n next h =
    let bs : List ℕ = front 3 (drop at l) in
    let a : (n ≤ largest_length) × (bs ≡ encode n) × (next ≡ at + length bs) = accept-sound bs at n next h in
    let f : take (length bs) (drop at l) ≡ bs = front_cut 3 (drop at l) in
    record { small = a.0; form = rw a.1 at f; after = rw (← a.1) a.2 }

-- the shortest form of a length is accepted

module _ (l : List ℕ) (at : ℕ) (bs : List ℕ) (e : cut l at (length bs) ≡ bs) where
  cut-byte : (i : ℕ) → i < length bs → get_or bs i 0 ≡ get_or l (at + i) 0
  cut-byte i h = ap (λ (r : List ℕ). get_or r i 0) (sym e) ∙ get_or-cut l at (length bs) i h

module _ (l : List ℕ) (at n : ℕ) where
  complete-1 : n < 128 → cut l at 1 ≡ n ∷ [] → decode l at ≡ Some (n, at + 1)
  complete-1 h e =
      let a : n ≡ get_or l (at + 0) 0 = cut-byte l at (n ∷ []) e 0 (omega arith) in
      decode-1 l at n (omega (arith, cut-room l at (length (n ∷ [])) (omega arith) (ap length e))) (rw add-zero at a) h

  complete-2 : 128 ≤ n → n < 16384 → cut l at 2 ≡ (128 + n % 128) ∷ (n / 128) ∷ [] → decode l at ≡ Some (n, at + 2)
  complete-2 lo hi e =
      let bs : List ℕ = (128 + n % 128) ∷ (n / 128) ∷ [] in
      let room : at + 2 ≤ length l = cut-room l at (length bs) (omega arith) (ap length e) in
      let a : 128 + n % 128 ≡ get_or l (at + 0) 0 = cut-byte l at bs e 0 (omega arith) in
      let b : n / 128 ≡ get_or l (at + 1) 0 = cut-byte l at bs e 1 (omega arith) in
      let same : 128 + n % 128 - 128 + n / 128 * 128 ≡ n = omega arith in
      decode-2 l at (128 + n % 128) (omega arith) (rw add-zero at a) (omega arith) (n / 128) (omega arith) b (omega arith)
      ∙ accept-2 at (128 + n % 128) (n / 128) (omega arith) (omega arith) (omega arith) (omega arith)
      ∙ ap (λ (k : ℕ). Some (k, at + 2)) same

  complete-3 : 16384 ≤ n → n ≤ largest_length → cut l at 3 ≡ (128 + n % 128) ∷ (128 + n / 128 % 128) ∷ (n / 128 / 128) ∷ []
      → decode l at ≡ Some (n, at + 3)
  complete-3 lo hi e =
      let bs : List ℕ = (128 + n % 128) ∷ (128 + n / 128 % 128) ∷ (n / 128 / 128) ∷ [] in
      let room : at + 3 ≤ length l = cut-room l at (length bs) (omega arith) (ap length e) in
      let a : 128 + n % 128 ≡ get_or l (at + 0) 0 = cut-byte l at bs e 0 (omega arith) in
      let b : 128 + n / 128 % 128 ≡ get_or l (at + 1) 0 = cut-byte l at bs e 1 (omega arith) in
      let c : n / 128 / 128 ≡ get_or l (at + 2) 0 = cut-byte l at bs e 2 (omega arith) in
      let same : 128 + n % 128 - 128 + (128 + n / 128 % 128 - 128) * 128 + n / 128 / 128 * 16384 ≡ n = omega arith in
      decode-3 l at (128 + n % 128) (omega arith) (rw add-zero at a) (omega arith) (128 + n / 128 % 128) (omega arith) b (omega arith)
      (n / 128 / 128) (omega arith) c
      ∙ accept-3 at (128 + n % 128) (128 + n / 128 % 128) (n / 128 / 128) (omega arith) (omega arith) (omega arith) (omega arith) (omega arith) (omega arith)
      ∙ ap (λ (k : ℕ). Some (k, at + 3)) same

pub decode-complete : (l : List ℕ) (at n next : ℕ) → EncodedAt l at n next → decode l at ≡ Some (n, next)
decode-complete l at n next s =
    let form : cut l at (length (encode n)) ≡ encode n = s.form in
    ⊎_elim
    (λ (h : n < 128). rw (s.after, encode-1 n h) (complete-1 l at n h (rw (encode-1 n h) at form)))
    (⊎_elim
    (λ (h : (128 ≤ n) × (n < 16384)). rw (s.after, encode-2 n h.0 h.1) (complete-2 l at n h.0 h.1 (rw (encode-2 n h.0 h.1) at form)))
    (λ (h : 16384 ≤ n).
    let e : encode n ≡ (128 + n % 128) ∷ (128 + n / 128 % 128) ∷ (n / 128 / 128) ∷ [] = encode-3 n h (omega (arith, s.small)) in
    rw (s.after, e) (complete-3 l at n h s.small (rw e at form))))
    (three-sizes n)

-- what is written reads back
pub decode-encode : (l : List ℕ) (at n : ℕ) → n ≤ largest_length → at + length (encode n) ≤ length l
    → decode (sets l at (encode n)) at ≡ Some (n, at + length (encode n))
decode-encode l at n h room =
    decode-complete (sets l at (encode n)) at n _ (record { small = h; form = cut-sets-same l at (encode n) room; after = refl })

-- two places that give one number have the same bytes
pub one_form : (l l' : List ℕ) (at at' n next next' : ℕ) → decode l at ≡ Some (n, next) → decode l' at' ≡ Some (n, next')
    → cut l at (next - at) ≡ cut l' at' (next' - at')
one_form l l' at at' n next next' h h' =
    let s : EncodedAt l at n next = decode-sound l at n next h in
    let s' : EncodedAt l' at' n next' = decode-sound l' at' n next' h' in
    let e : next - at ≡ length (encode n) = omega (arith, s.after) in
    let e' : next' - at' ≡ length (encode n) = omega (arith, s'.after) in
    rw (e, e') (s.form ∙ sym s'.form)
