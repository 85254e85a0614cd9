-- Request A14 for the pair calls: asks and sets on two accepted images that read as the same map.
use Prim.Native.Nat.{ℕ}
use mathlib.Core.List.{List, Memᴰ}
use mathlib.Core.Path.{◌≡◌, refl, ap, sym, ◌∙◌, subst}
use mathlib.Core.Logic.{◌≢◌}
use native.Mathlib.Omega.{arith}
use lib.IntN.{ℤ, ℤ_discrete}
use Rattle.edit.specs.declared.Policy.TheVariants.{OnTheSpot}
use Rattle.chronicle_map.specs.Calls.{store, answer_number}
use Rattle.chronicle_map.specs.History.{Call, stores, grows as call_grows, Said, says, leaves}
use Rattle.pairs.specs.Pairs.{ChannelsFit, channels_fit?, pair_key, delay_record, most_negative, in_order}
use Rattle.pairs.specs.Delays.{delay, asked_reply, Setting, from_store, set_delay, set_number}
use Rattle.pairs.specs.History.{PairCall, asks, sets, grows, numbered, replies, pair_leaves}
use Rattle.pairs.proofs.Orders.{key-bytes}
use Rattle.pairs.proofs.Records.{record_bytes_lem}
use Rattle.pairs.proofs.Answering.{set-fits}
use Rattle.pairs.proofs.Mapped.{stored-number, from_map, ask-unfit, ask-map, set-unfit, set-lowest}
use Rattle.same_map.specs.SameAnswers.{ReadAlike, store_calls, pair_calls, SameMapSameDelays}
use Rattle.same_map.proofs.Runs.{OneCall, KeepsAlike, both}
use Rattle.same_map.proofs.Answers.{one-call}

module _ (block : List ℕ) where
  -- what both runs made of a set
  record BothSet (x y : Setting) : Type 0 where
    pub numbers : set_number x.answer ≡ set_number y.answer
    pub alike : ReadAlike block x.image y.image

  both_by : {x x' y y' : Setting} → x ≡ x' → y ≡ y' → BothSet x y → BothSet x' y'
  both_by {x} {x'} {y} {y'} e e' b = subst (BothSet x') e' (subst (λ (s : Setting). BothSet s y) e b)

  module _ (one other : List ℕ) (alike : ReadAlike block one other) (a b : ℕ) where
    same-ask : Dec (ChannelsFit a b) → delay block one a b ≡ delay block other a b
    same-ask (no n) =
        sym (ask-unfit block one alike.one_bytes alike.one_accepted a b n) ∙ ask-unfit block other alike.other_bytes alike.other_accepted a b n
    same-ask (yes f) =
        ask-map block one alike.one_bytes alike.one_accepted a b f ∙ ap (from_map a b) (alike.same_map (pair_key a b))
        ∙ sym (ask-map block other alike.other_bytes alike.other_accepted a b f)

    module _ (d : ℤ) where
      abbrev record_of : List ℕ
      record_of = delay_record (in_order a b d)

      -- the set stores, and so two images that are alike get the same store
      stored : ChannelsFit a b
          → answer_number (store OnTheSpot block one (pair_key a b) record_of).answer ≢ 10
          → answer_number (store OnTheSpot block other (pair_key a b) record_of).answer ≢ 10
          → BothSet (from_store block one (pair_key a b) record_of) (from_store block other (pair_key a b) record_of)
      unfolding says leaves
      stored f no10 no10' =
          let c : Call = stores OnTheSpot (pair_key a b) record_of in
          let call : OneCall (store_calls block) block c one other =
          one-call block c (key-bytes a b f, record_bytes_lem (in_order a b d)) (λ (e : c ≡ call_grows). let n : ◌≡◌ {A = ℕ} 0 1 = cc in omega arith)
          one other alike no10 no10' in
          let number : (img : List ℕ) → set_number (from_store block img (pair_key a b) record_of).answer
          ≡ answer_number (store OnTheSpot block img (pair_key a b) record_of).answer =
          λ img. stored-number (store OnTheSpot block img (pair_key a b) record_of).answer in
          record { numbers = number one ∙ ap (λ (s : Said). s.number) call.said ∙ sym (number other); alike = call.alike }

      same_set : Dec (ChannelsFit a b) → Dec (d ≡ most_negative) → set_number (set_delay block one a b d).answer ≢ 10
          → set_number (set_delay block other a b d).answer ≢ 10 → BothSet (set_delay block one a b d) (set_delay block other a b d)
      same_set (no n) _ no10 no10' =
          both_by (set-unfit block one alike.one_bytes alike.one_accepted a b d n)
          (set-unfit block other alike.other_bytes alike.other_accepted a b d n) (record { numbers = refl; alike = alike })
      same_set (yes f) (yes e) no10 no10' =
          both_by (set-lowest block one alike.one_bytes alike.one_accepted a b d f e)
          (set-lowest block other alike.other_bytes alike.other_accepted a b d f e) (record { numbers = refl; alike = alike })
      same_set (yes f) (no n) no10 no10' =
          let e : from_store block one (pair_key a b) record_of ≡ set_delay block one a b d = set-fits block one a b d f n in
          let e' : from_store block other (pair_key a b) record_of ≡ set_delay block other a b d = set-fits block other a b d f n in
          both_by e e'
          (stored f
          (λ z. subst (λ (x : Setting). set_number x.answer ≢ 10) (sym e) no10 (stored-number (store OnTheSpot block one (pair_key a b) record_of).answer ∙ z))
          (λ z. subst (λ (x : Setting). set_number x.answer ≢ 10) (sym e') no10'
          (stored-number (store OnTheSpot block other (pair_key a b) record_of).answer ∙ z)))

  one-pair-call : (c : PairCall) → c ≢ grows → KeepsAlike (pair_calls block) block c
  unfolding replies pair_leaves
  one-pair-call (asks a b) _ one other alike no10 no10' =
      record { said = ap asked_reply (same-ask one other alike a b (channels_fit? a b)); alike = alike }
  one-pair-call (sets a b d) _ one other alike no10 no10' =
      let x : BothSet (set_delay block one a b d) (set_delay block other a b d) =
      same_set one other alike a b d (channels_fit? a b) (ℤ_discrete d most_negative) no10 no10' in
      record { said = ap numbered x.numbers; alike = x.alike }
  one-pair-call grows g one other alike no10 no10' = absurd (g refl)

-- ---- the corollary

pub same-map-same_delays : SameMapSameDelays
same-map-same_delays block one other alike calls noGrow =
    both (pair_calls block) block calls
    (λ c m. one-pair-call block c (λ (e : c ≡ grows). noGrow (subst (λ (x : PairCall). Memᴰ x calls) e m))) one other alike
