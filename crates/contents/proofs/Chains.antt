-- A chain's answer, from those of its tiers and from whether no key has two slots.
use Rattle.std.specs.Prelude.{Result, Ok, Err}
use Prim.Native.Nat.{ℕ, ◌+◌, ◌≤◌, ◌<◌}
use mathlib.Core.List.Memᴰ
use mathlib.Core.List.{List, [], ◌∷◌, Memᴰ}
use mathlib.Core.Path.{◌≡◌, refl, ap, sym, ◌∙◌, subst}
use mathlib.Core.Logic.{⊎_elim, ◌≢◌}
use mathlib.Core.Bool.{false≢true}
use native.Mathlib.Omega.{arith}
use lib.ListN.{length}
use Rattle.lists.specs.Cases.{lt-or}
use Rattle.lists.specs.Quantify.{Every}
use Rattle.layout.specs.declared.Shape.{Shape}
use Rattle.layout.specs.Frame.{Framed}
use Rattle.chains.specs.Chains.{next_of, chain}
use Rattle.probe.specs.Ring.{dist}
use Rattle.probe.proofs.Ring.{dist-inj}
use Rattle.entries.specs.Keys.{lookup_key, start, slot_key}
use Rattle.entries.specs.Live.{slot_at, full_slots}
use Rattle.entries.proofs.Hashes.{start-lt}
use Rattle.entries.proofs.LiveLists.{in_full_slots}
use Rattle.search.specs.Rules.{keyAt, start_at, TierSlotsFit, KeysOnce}
use Rattle.search.specs.Reach.{Alone}
use Rattle.search.proofs.Finding.{hits-own}
use Rattle.once.specs.Asking.{FittingChain, ReadChain}
use Rattle.once.proofs.Tiers.{tiers-start, tiers-end, tiers-turn}
use Rattle.contents.specs.declared.ContentsError.{ContentsError}
use Rattle.contents.specs.declared.ContentsError.TheVariants.{Chunks, Entries}
use Rattle.contents.specs.Counting.{TiersSay, ChainSays}
use Rattle.contents.proofs.Saying.{says_as}

module _ (z : Shape) (img : List ℕ) (s : ℕ) where
  open z use {settings}
  open settings use {slots}

  -- ---- on the way, where the chain is one tier

  module _ (fr : Framed z (length img)) (t : ℕ) (fits : TierSlotsFit z img s t) (alone : Every (full_slots z img t) (Alone z img t)) where
    -- of two slots with the same key one stands on the other's way
    not-before : (j k : ℕ) → j < slots → k < slots → slot_at z img t j ≢ 0 → slot_at z img t k ≢ 0 → keyAt z img t j ≡ keyAt z img t k
        → dist slots (start_at z img t j) k < dist slots (start_at z img t j) j → ⊥
    not-before j k hj hk fj fk e d =
        let lookup : slot_key settings (slot_at z img t k) ≡ lookup_key settings (keyAt z img t j) =
        sym (fits.slots_fit.full k hk fk).hashed.lookup_agrees ∙ ap (lookup_key settings) (sym e) in
        false≢true (sym (alone j (in_full_slots z img t j hj fj) k hk d) ∙ hits-own z img (keyAt z img t j) t k lookup (sym e))

    one-slot : (j k : ℕ) → j < slots → k < slots → slot_at z img t j ≢ 0 → slot_at z img t k ≢ 0 → keyAt z img t j ≡ keyAt z img t k → j ≡ k
    one-slot j k hj hk fj fk e =
        let lookup : slot_key settings (slot_at z img t k) ≡ slot_key settings (slot_at z img t j) =
        sym (fits.slots_fit.full k hk fk).hashed.lookup_agrees ∙ ap (lookup_key settings) (sym e)
        ∙ (fits.slots_fit.full j hj fj).hashed.lookup_agrees in
        let from : start_at z img t k ≡ start_at z img t j = ap (start settings) lookup in
        let a : ℕ = start_at z img t j in
        let there : dist slots a k < dist slots a j → ⊥ = not-before j k hj hk fj fk e in
        let back : dist slots a j < dist slots a k → ⊥ =
        λ d. not-before k j hk hj fk fj (sym e) (subst (λ (x : ℕ). dist slots x j < dist slots x k) (sym from) d) in
        ⊎_elim
        (λ d. absurd (there d))
        (λ (d : dist slots a j ≤ dist slots a k).
        ⊎_elim (λ x. absurd (back x)) (λ (x : dist slots a k ≤ dist slots a j).
        let same : dist slots a j ≡ dist slots a k = omega arith in dist-inj slots (start-lt fr.valid _) hj hk same)
        (lt-or (dist slots a j) (dist slots a k)))
        (lt-or (dist slots a k) (dist slots a j))

    lone-once : chain z img s ≡ t ∷ [] → KeysOnce z img s
    lone-once e u mu j hj fj v mv k hk fk q =
        let eu : u ≡ t = Memᴰ.eq_of_singleton (subst (Memᴰ u) e mu) in
        let ev : v ≡ t = Memᴰ.eq_of_singleton (subst (Memᴰ v) e mv) in
        let fj' : slot_at z img t j ≢ 0 = subst (λ (x : ℕ). slot_at z img x j ≢ 0) eu fj in
        let fk' : slot_at z img t k ≢ 0 = subst (λ (x : ℕ). slot_at z img x k ≢ 0) ev fk in
        let same : keyAt z img t j ≡ keyAt z img t k =
        ap (λ (x : ℕ). keyAt z img x j) (sym eu) ∙ q ∙ ap (λ (x : ℕ). keyAt z img x k) ev in
        (eu ∙ sym ev, one-slot j k hj hk fj' fk' same)

  module _ (c : FittingChain z img s) where
    -- a chain of one tier
    pub lone-chain : next_of z img (s + 1) ≡ 0 → chain z img s ≡ (s + 1) ∷ []
    lone-chain e = sym (tiers-end z img s c.fits (tiers-turn z img s c.fits (tiers-start z img s) (omega arith) refl) e)

    pub lone-says : next_of z img (s + 1) ≡ 0 → Every (full_slots z img (s + 1)) (Alone z img (s + 1)) → {sum : Result (ℕ × ℕ) ContentsError}
        → TiersSay z img s sum
        → ChainSays z img s sum
    lone-says e alone {sum} p =
        says_as
        (λ f. record {
          tiers_fit = f;
          keys_once = lone-once c.chains.framed (s + 1) (f (s + 1) (rw (lone-chain e) (Memᴰ.head refl))) alone (lone-chain e);
        })
        (λ f. f.tiers_fit) (λ x. x) (λ x. x) refl refl sum p

  -- ---- by the passes, with the equation that the answer of the tiers is taken by

  module _ (sum : Result (ℕ × ℕ) ContentsError) (p : TiersSay z img s sum) where
    pub broken-says : sum ≡ Err Entries → ChainSays z img s (Err Entries)
    broken-says e = let q : TiersSay z img s (Err Entries) = subst (TiersSay z img s) e p in record { so = λ f. q.so f.tiers_fit }

    pub chunks-read : FittingChain z img s → sum ≡ Err Chunks → ReadChain z img s
    chunks-read c e = let q : TiersSay z img s (Err Chunks) = subst (TiersSay z img s) e p in record { fitting = c; slots_fit = q.so.0 }

    pub fit-read : FittingChain z img s → (n m : ℕ) → sum ≡ Ok (n, m) → ReadChain z img s
    fit-read c n m e = let q : TiersSay z img s (Ok (n, m)) = subst (TiersSay z img s) e p in record { fitting = c; slots_fit = q.so.0.0 }

    pub once-says : KeysOnce z img s → (r : Result (ℕ × ℕ) ContentsError) → sum ≡ r → ChainSays z img s r
    once-says k r e =
        says_as (λ f. record { tiers_fit = f; keys_once = k }) (λ f. f.tiers_fit) (λ x. x) (λ x. x) refl refl r (subst (TiersSay z img s) e p)

  pub twice-says : (KeysOnce z img s → ⊥) → ChainSays z img s (Err Entries)
  twice-says n = record { so = λ f. n f.keys_once }
