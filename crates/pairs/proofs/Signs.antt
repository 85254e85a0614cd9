-- Any list of asks, sets and grows on an accepted image: the two orders of a pair have opposite delays.
use Prim.Native.Nat.{ℕ, suc, ◌+◌}
use mathlib.Core.List.{List, [], ◌∷◌, ◌++◌, append_assoc}
use mathlib.Core.Path.{◌≡◌, refl, ap, sym, ◌∙◌, subst}
use mathlib.Core.Logic.{◌≢◌}
use mathlib.Core.Option.{Option, none, some}
use native.Mathlib.Omega.{arith}
use native.Mathlib.Nat.{zero-add, add-zero, suc-add}
use lib.ListN.{length}
use lib.IntN.{ℤ, pos, neg_ℤ, ◌+ℤ◌, +ℤ_invr}
use mir.Syntax.{w32}
use mir.Val.{SFits}
use Rattle.lists.specs.Decide.{choose}
use Rattle.lists.specs.Runs.{after_all, on_each}
use Rattle.words.specs.Bytes.{Bytes}
use Rattle.entries.specs.Pairs.{Pair}
use Rattle.chronicle_map.specs.Calls.{grow}
use Rattle.chronicle_map.specs.History.{Map, map_of, map_get}
use Rattle.chronicle_map.specs.Demands.{Accepted}
use Rattle.chronicle_map.proofs.Growing.{KeepsMap, grow-keeps}
use Rattle.pairs.specs.Pairs.{ChannelsFit, channels_fit?, pair_key, delay_record, record_delay, most_negative, RecordFits, record_fits?, in_order}
use Rattle.pairs.specs.Delays.{Asked, from_record, delay, Reply, asked_reply, set_delay, set_number}
use Rattle.pairs.specs.History.{PairCall, asks, sets, grows, numbered, replies, pair_leaves, pair_run, reply, NoSet, SignsKept}
use Rattle.pairs.proofs.Orders.{key-either, sign-either, sign-twice}
use Rattle.pairs.proofs.Answering.{record_yes}
use Rattle.pairs.proofs.Records.{record_back, record_fits, sign_fits, sign-not}
use Rattle.pairs.proofs.Mapped.{from_map, ask-unfit, ask-map, AfterSet, after-set}

-- ---- the reply to a call is the one on the image as the calls before it left it

module _ (block : List ℕ) where
  reply-later : (before cs : List PairCall) (img : List ℕ) (i : ℕ)
      → reply block img (before ++ cs) (length before + i) ≡ reply block (pair_run block img before) cs i
  unfolding on_each after_all
  reply-later [] cs img i = rw (zero-add i)
  reply-later (c ∷ before) cs img i = rw (suc-add (length before) i) (reply-later before cs (pair_leaves block img c) i)

  reply-at : (before : List PairCall) (c : PairCall) (after : List PairCall) (img : List ℕ)
      → reply block img (before ++ c ∷ after) (length before) ≡ replies block (pair_run block img before) c
  unfolding on_each
  reply-at before c after img = ap (reply block img (before ++ c ∷ after)) (sym (add-zero (length before))) ∙ reply-later before (c ∷ after) img 0

  -- of two calls, the second
  reply-second : (before : List PairCall) (c : PairCall) (between : List PairCall) (c' : PairCall) (after : List PairCall) (img : List ℕ)
      → reply block img (before ++ (c ∷ (between ++ c' ∷ after))) (length before + suc (length between))
      ≡ replies block (pair_run block (pair_leaves block (pair_run block img before) c) between) c'
  unfolding on_each
  reply-second before c between c' after img =
      reply-later before (c ∷ (between ++ c' ∷ after)) img (suc (length between))
      ∙ reply-at between c' after (pair_leaves block (pair_run block img before) c)

-- ---- what a list of calls keeps

-- bytes that the check accepts
pub record AcceptedBytes (block img : List ℕ) : Type 0 where
  pub bytes : Bytes img
  pub accepted : Accepted block img

module _ (block : List ℕ) where
  known-after : (img : List ℕ) → AcceptedBytes block img → (a b : ℕ) (d : ℤ) → AfterSet block img a b d (set_delay block img a b d)
  known-after img k a b d = after-set block img k.bytes k.accepted a b d

  known_grown : (img : List ℕ) → AcceptedBytes block img → KeepsMap block img (grow block img).image
  known_grown img k = grow-keeps block img k.bytes k.accepted

  accepted-leaves : (img : List ℕ) → AcceptedBytes block img → (c : PairCall) → AcceptedBytes block (pair_leaves block img c)
  unfolding pair_leaves
  accepted-leaves img k (asks a b) = k
  accepted-leaves img k (sets a b d) = record { bytes = (known-after img k a b d).bytes; accepted = (known-after img k a b d).accepted }
  accepted-leaves img k grows = record { bytes = (known_grown img k).bytes; accepted = (known_grown img k).accepted }

  accepted-run : (calls : List PairCall) (img : List ℕ) → AcceptedBytes block img → AcceptedBytes block (pair_run block img calls)
  unfolding after_all
  accepted-run [] img k = k
  accepted-run (c ∷ cs) img k = accepted-run cs (pair_leaves block img c) (accepted-leaves img k c)

  -- with no set of the pair, its record
  same_record : (a b : ℕ) (calls : List PairCall) (img : List ℕ) → AcceptedBytes block img → NoSet a b calls
      → map_get (map_of block (pair_run block img calls)) (pair_key a b) ≡ map_get (map_of block img) (pair_key a b)
  unfolding after_all pair_leaves
  same_record a b [] img k none-set = refl
  same_record a b (asks c d ∷ cs) img k none-set = same_record a b cs img k none-set
  same_record a b (sets c d x ∷ cs) img k none-set =
      same_record a b cs (set_delay block img c d x).image (accepted-leaves img k (sets c d x)) none-set.1
      ∙ (known-after img k c d x).others (pair_key a b) (λ (e : pair_key a b ≡ pair_key c d). none-set.0 (sym e))
  same_record a b (grows ∷ cs) img k none-set =
      same_record a b cs (grow block img).image (accepted-leaves img k grows) none-set
      ∙ ap (λ (m : Map). map_get m (pair_key a b)) (known_grown img k).same_map

-- ---- what the map has, asked in the two orders

swapped : {a b : ℕ} → ChannelsFit a b → ChannelsFit b a
swapped f = (f.1.0, (f.0, λ e. f.1.1 (sym e)))

module _ (a b : ℕ) (n : a ≢ b) where
  record_zero : (r : List ℕ) (d : Dec (RecordFits r)) → (asked_reply (from_record a b r d)).delay +ℤ (asked_reply (from_record b a r d)).delay ≡ pos 0
  unfolding choose from_record
  record_zero r (no _) = refl
  record_zero r (yes _) = ap (λ (y : ℤ). in_order a b (record_delay r) +ℤ y) (sign-either a b (record_delay r) n) ∙ +ℤ_invr (in_order a b (record_delay r))

  map-zero : (o : Option Pair) → (asked_reply (from_map a b o)).delay +ℤ (asked_reply (from_map b a o)).delay ≡ pos 0
  unfolding from_map
  map-zero none = refl
  map-zero (some p) = record_zero p.value (record_fits? p.value)

-- a delay that was set
set-asked : (a b : ℕ) {d : ℤ} → SFits w32 d → d ≢ most_negative
    → asked_reply (from_record a b (delay_record d) (record_fits? (delay_record d))) ≡ record { number = 0; delay = in_order a b d }
set-asked a b {d} f n =
    ap asked_reply (sym (record_yes a b (delay_record d) (record_fits d f n)))
    ∙ ap (λ (x : ℤ). record { number = 0; delay = in_order a b x }) (record_back d f)

-- ---- an ask on an image that is kept

module _ (block img : List ℕ) (k : AcceptedBytes block img) where
  ask-kept : (a b : ℕ) → ChannelsFit a b → delay block img a b ≡ from_map a b (map_get (map_of block img) (pair_key a b))
  ask-kept = ask-map block img k.bytes k.accepted

  -- answered 0, so the channels fit
  zero-fits : (a b : ℕ) → (asked_reply (delay block img a b)).number ≡ 0 → ChannelsFit a b
  zero-fits a b e =
      elim (channels_fit? a b) [
        | yes f ↦ f
        | no n ↦ absurd
            (let q : 11 ≡ 0 = subst (λ (r : Asked). (asked_reply r).number ≡ 0) (sym (ask-unfit block img k.bytes k.accepted a b n)) e in
            omega arith)
      ]

-- ---- two calls of a pair, with no set of it between

module _ (block img : List ℕ) (kept : AcceptedBytes block img) (a b : ℕ) (before between after : List PairCall) (none-set : NoSet a b between) where
  abbrev img₁ : List ℕ
  img₁ = pair_run block img before

  k₁ : AcceptedBytes block img₁
  k₁ = accepted-run block before img kept

  abbrev asked_twice : List PairCall
  asked_twice = before ++ (asks a b ∷ (between ++ asks b a ∷ after))

  sum-zero : (reply block img asked_twice (length before)).number ≡ 0
      → (reply block img asked_twice (length before)).delay +ℤ (reply block img asked_twice (length before + suc (length between))).delay ≡ pos 0
  unfolding replies pair_leaves
  sum-zero zero₁ =
      let img₂ : List ℕ = pair_run block img₁ between in
      let k₂ : AcceptedBytes block img₂ = accepted-run block between img₁ k₁ in
      let o : Option Pair = map_get (map_of block img₁) (pair_key a b) in
      let e₁ : reply block img asked_twice (length before) ≡ asked_reply (delay block img₁ a b) =
      reply-at block before (asks a b) (between ++ asks b a ∷ after) img in
      let e₂ : reply block img asked_twice (length before + suc (length between)) ≡ asked_reply (delay block img₂ b a) =
      reply-second block before (asks a b) between (asks b a) after img in
      let f : ChannelsFit a b = zero-fits block img₁ k₁ a b (sym (ap (λ (r : Reply). r.number) e₁) ∙ zero₁) in
      let d₁ : delay block img₁ a b ≡ from_map a b o = ask-kept block img₁ k₁ a b f in
      let d₂ : delay block img₂ b a ≡ from_map b a o =
      ask-kept block img₂ k₂ b a (swapped f)
      ∙ ap (λ (key : List ℕ). from_map b a (map_get (map_of block img₂) key)) (key-either a b f.1.1)
      ∙ ap (from_map b a) (same_record block a b between img₁ k₁ none-set) in
      (λ i. ((e₁ ∙ ap asked_reply d₁) i).delay +ℤ ((e₂ ∙ ap asked_reply d₂) i).delay) ∙ map-zero a b f.1.1 o

  -- an ask of the pair after a set, which gives x
  module _ (d : ℤ) (a' b' : ℕ) (x : ℤ)
      (order : ChannelsFit a b → ChannelsFit a' b' × (pair_key a' b' ≡ pair_key a b) × (in_order a' b' (in_order a b d) ≡ x))
      (fits : SFits w32 d) where
    abbrev set-then-asked : List PairCall
    set-then-asked = before ++ (sets a b d ∷ (between ++ asks a' b' ∷ after))

    as_set : (reply block img set-then-asked (length before)).number ≡ 0
        → reply block img set-then-asked (length before + suc (length between)) ≡ record { number = 0; delay = x }
    unfolding replies pair_leaves from_map
    as_set zero₁ =
        let l : AfterSet block img₁ a b d (set_delay block img₁ a b d) = known-after block img₁ k₁ a b d in
        let img₂ : List ℕ = (set_delay block img₁ a b d).image in
        let k₂ : AcceptedBytes block img₂ = accepted-leaves block img₁ k₁ (sets a b d) in
        let img₃ : List ℕ = pair_run block img₂ between in
        let k₃ : AcceptedBytes block img₃ = accepted-run block between img₂ k₂ in
        let e₁ : reply block img set-then-asked (length before) ≡ numbered (set_number (set_delay block img₁ a b d).answer) =
        reply-at block before (sets a b d) (between ++ asks a' b' ∷ after) img in
        let z : set_number (set_delay block img₁ a b d).answer ≡ 0 = sym (ap (λ (r : Reply). r.number) e₁) ∙ zero₁ in
        let s : ChannelsFit a' b' × (pair_key a' b' ≡ pair_key a b) × (in_order a' b' (in_order a b d) ≡ x) = order (l.fits z).0 in
        let n : d ≢ most_negative = (l.fits z).1 in
        reply-second block before (sets a b d) between (asks a' b') after img
        ∙ ap asked_reply
        (ask-kept block img₃ k₃ a' b' s.0
        ∙ ap (λ (key : List ℕ). from_map a' b' (map_get (map_of block img₃) key)) s.1
        ∙ ap (from_map a' b') (same_record block a b between img₂ k₂ none-set ∙ l.own z))
        ∙ set-asked a' b' (sign_fits a b fits n) (sign-not a b fits n) ∙ ap (λ (y : ℤ). record { number = 0; delay = y }) s.2

-- ---- the theorem

pub signs-kept : (block img : List ℕ) → Bytes img → Accepted block img → (calls : List PairCall) → SignsKept block img calls
signs-kept block img bytes accepted calls =
    record {
      accepted = (accepted-run block calls img kept).accepted;
      opposite = λ a b before between after e none-set z₁ z₂.
          let q : calls ≡ before ++ (asks a b ∷ (between ++ asks b a ∷ after)) = e ∙ append_assoc before (asks a b ∷ between) (asks b a ∷ after) in
          rw q (sum-zero block img kept a b before between after none-set (rw q at z₁));
      same_order = λ a b d before between after e fits none-set z₁.
          let q : calls ≡ before ++ (sets a b d ∷ (between ++ asks a b ∷ after)) =
          e ∙ append_assoc before (sets a b d ∷ between) (asks a b ∷ after) in
          rw q (as_set block img kept a b before between after none-set d a b d (λ f. (f, refl, sign-twice a b d)) fits (rw q at z₁));
      other_order = λ a b d before between after e fits none-set z₁.
          let q : calls ≡ before ++ (sets a b d ∷ (between ++ asks b a ∷ after)) =
          e ∙ append_assoc before (sets a b d ∷ between) (asks b a ∷ after) in
          rw q (as_set block img kept a b before between after none-set d b a (neg_ℤ d)
          (λ f. (swapped f, key-either a b f.1.1, sign-either a b (in_order a b d) f.1.1 ∙ ap neg_ℤ (sign-twice a b d))) fits
          (rw q at z₁));
    }
  where
    kept : AcceptedBytes block img
    kept = record { bytes = bytes; accepted = accepted }
