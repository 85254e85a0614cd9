-- What the writes that take tier t from behind tier p set, and all that they do; ys are the tiers after t.
use Prim.Native.Nat.{ℕ, suc, ◌-◌, ◌^◌, ◌≤◌, ◌<◌}
use mathlib.Core.List.Memᴰ
use mathlib.Core.List.{List, [], ◌∷◌, ◌++◌, map-append, append_assoc}
use mathlib.Core.Path.{◌≡◌, refl, ap, sym, ◌∙◌}
use mathlib.Core.Logic.{⊎_elim, ◌≢◌}
use native.Mathlib.Omega.{arith}
use lib.ListN.{length, get_or}
use Rattle.lists.specs.Quantify.{Every}
use Rattle.links.specs.Links.{Linked}
use Rattle.links.proofs.Splits.{Splits, member-splits}
use Rattle.links.proofs.Runs.{run-after}
use Rattle.links.proofs.Once.{first-apart}
use Rattle.layout.specs.declared.Shape.{Shape}
use Rattle.layout.specs.Tiers.{tiers, IsTier}
use Rattle.layout.specs.declared.Global.{Global}
use Rattle.layout.specs.declared.Global.TheVariants.{FirstFree as firstFree, UsedTiers as usedTiers}
use Rattle.layout.specs.declared.Header.{Header}
use Rattle.layout.specs.declared.Header.TheVariants.{NextTier as nextTier, EntryCount as entry_count, LowestFree as lowestFree}
use Rattle.layout.specs.declared.Counter.{Counter}
use Rattle.layout.specs.declared.Counter.TheVariants.{Next as next, Previous as previous, Segment as segment, Order as order, Low as low, Count as count}
use Rattle.layout.specs.Places.{global_no, header_no, counter_no, Place, global, tier, slot, counter, free, byte, wide, part_wide, In, get, shared_place, next_place, Write, ◌≔◌, puts}
use Rattle.layout.specs.Frame.{Image}
use Rattle.layout.proofs.Places.{Spares, spare, spare-none, spares_both, get-lt, get-puts-other, get-puts-here, image-puts, length-puts, kind, by_kind, global-lt, shared_in, shared-kind, shared-never, shared-tiers, shared-wide}
use Rattle.chains.specs.Chains.{next_of, free_head}
use Rattle.sound.proofs.AgreeTier.{SameTier, SameCounters}
use Rattle.sound.proofs.Elsewhere.{tier-by-places}
use Rattle.unlinking.specs.Unlinking.{one_less, nearer, comes_after, moving}
use Rattle.unlinking.proofs.Sparing.{order-apart, nearer_spares, after_spares, name_spares}
use Rattle.unlinking.proofs.Closing.{closing}
use Rattle.unlinking.proofs.Kept.{Taken, closed, after, im, by-kinds, moving_spares, kept, next-kept, counter-kept}

module _ {z : Shape} {img : List ℕ} {t p : ℕ} {ys : List ℕ} (w : Taken z img t p ys) where
  -- ---- what is set: the two links, the head and the used count

  next-kind : (u k : ℕ) → k ≢ 7 → k ≢ 9 → kind (next_place z u) ≢ k
  next-kind u k k1 k2 e =
      ⊎_elim (λ (d : kind (next_place z u) ≡ 7). omega arith) (λ (d : kind (next_place z u) ≡ 9). omega arith) (shared-kind z nextTier next u)

  next-wide : (u : ℕ) → wide z (next_place z u) ≡ 8
  next-wide u = shared-wide z nextTier next u refl

  small : tiers z ≤ 1024
  small = w.image.framed.tier_count

  prior-set : next_of z (after w) p ≡ next_of z img t
  prior-set =
      let q : Place = next_place z p in
      get-puts-here (im w) [] q (next_of z img t) _ (shared_in z nextTier next p w.prior_tier) (rw (next-wide p) (omega (arith, small, w.next_small)))
      (spare z q (next_place z t) _ _ (shared_in z nextTier next t w.is_tier) (shared-tiers z nextTier next p t w.prior_tier.0 w.is_tier.0 w.apart)
      (spare z q (global firstFree) _ _ tt (by_kind (next-kind p 1 (omega arith) (omega arith)))
      (spare z q (global usedTiers) _ _ tt (by_kind (next-kind p 2 (omega arith) (omega arith))) (spare-none z q))))

  own-set : next_of z (after w) t ≡ free_head z img
  own-set =
      let q : Place = next_place z t in
      get-puts-here (im w) (next_place z p ≔ next_of z img t ∷ []) q (free_head z img) _ (shared_in z nextTier next t w.is_tier)
      (rw (next-wide t) (omega (arith, small, w.head_small)))
      (spare z q (global firstFree) _ _ tt (by_kind (next-kind t 1 (omega arith) (omega arith)))
      (spare z q (global usedTiers) _ _ tt (by_kind (next-kind t 2 (omega arith) (omega arith))) (spare-none z q)))

  head-set : free_head z (after w) ≡ t
  unfolding wide
  head-set =
      let q : Place = global firstFree in
      get-puts-here (im w) (next_place z p ≔ next_of z img t ∷ next_place z t ≔ free_head z img ∷ []) q t _ tt (omega (arith, small, w.is_tier))
      (spare z q (global usedTiers) _ _ tt (by_kind (omega arith)) (spare-none z q))

  used-set : suc (get z (after w) (global usedTiers)) ≡ get z img (global usedTiers)
  used-set =
      let q : Place = global usedTiers in
      let v : ℕ = get z img q in
      let fits : v - 1 < 256 ^ wide z q = omega (arith, get-lt w.image q) in
      let set : get z (after w) q ≡ v - 1 =
      get-puts-here (im w) (next_place z p ≔ next_of z img t ∷ next_place z t ≔ free_head z img ∷ global firstFree ≔ t ∷ []) q (v - 1) _ tt fits
      (spare-none z q) in
      omega (arith, set, w.used_some)

  -- ---- the orders of the tiers after t

  behind : (u : ℕ) (s : Splits u ys) → Every s.after (λ v. u ≢ v)
  behind u s v m e =
      let here : Linked (next_of z img) u (u ∷ s.after) = run-after s.before (rw s.is at w.linked) in
      first-apart here v m (sym e)

  lower-set : Every ys (λ u. suc (get z (after w) (tier u (counter order))) ≡ get z img (tier u (counter order)))
  lower-set u m =
      let q : Place = tier u (counter order) in
      let s : Splits u ys = member-splits m in
      let v : ℕ = get z img q - 1 in
      let names : List Write = comes_after z img p ys in
      let ws : List Write = nearer z img s.after ++ names in
      let is : IsTier z u = w.later_tiers u m in
      let split : closing z img p ys ≡ nearer z img s.before ++ ((q ≔ v) ∷ ws) =
      ap (λ (l : List ℕ). nearer z img l ++ names) s.is
      ∙ ap (λ l. l ++ names) (map-append (one_less z img) s.before (u ∷ s.after))
      ∙ append_assoc (nearer z img s.before) (one_less z img u ∷ nearer z img s.after) names in
      let others : Spares z q ws =
      spares_both z q (nearer z img s.after) names
      (nearer_spares z img q s.after (λ x k. w.later_tiers x (rw s.is (Memᴰ.append_right s.before (Memᴰ.tail k))))
      (λ x k. order-apart (behind u s x k)))
      (after_spares z img q p ys w.later_tiers (λ x k. by_kind (omega arith))) in
      let fits : v < 256 ^ wide z q = omega (arith, get-lt w.image q) in
      let closed-set : get z (closed w) q ≡ v =
      ap (λ l. get z (puts z img l) q) split ∙ get-puts-here w.image (nearer z img s.before) q v ws (is, tt) fits others in
      let moved : get z (after w) q ≡ get z (closed w) q =
      get-puts-other (im w).framed (closed w) (moving z img p t) q (is, tt)
      (moving_spares w q
      (λ e. shared-never z nextTier next p q (omega arith) (omega arith) (sym e))
      (λ e. shared-never z nextTier next t q (omega arith) (omega arith) (sym e))
      (by_kind (omega arith)) (by_kind (omega arith))) in
      omega (arith, moved, closed-set, w.not_first u m)

-- ---- the tier that comes after p now

module _ {z : Shape} {img : List ℕ} {t p : ℕ} where
  name_set : (ys : List ℕ) (w : Taken z img t p ys) → 0 < length ys
      → get z (puts z (puts z img (closing z img p ys)) (moving z img p t)) (tier (get_or ys 0 0) (counter previous)) ≡ p
  unfolding wide part_wide
  name_set [] w h = absurd (omega arith)
  name_set (u ∷ us) w h =
      let q : Place = tier u (counter previous) in
      let is : IsTier z u = w.later_tiers u (Memᴰ.head refl) in
      get-puts-other (im w).framed (closed w) (moving z img p t) q (is, tt)
      (moving_spares w q
      (λ e. shared-never z nextTier next p q (omega arith) (omega arith) (sym e))
      (λ e. shared-never z nextTier next t q (omega arith) (omega arith) (sym e))
      (by_kind (omega arith)) (by_kind (omega arith)))
      ∙ get-puts-here w.image (nearer z img (u ∷ us)) q p [] (is, tt) (omega (arith, w.prior_tier, small w)) (spare-none z q)

-- ---- all of it

-- image img' is img with that done
pub record Unlinks (z : Shape) (img img' : List ℕ) (t p : ℕ) (ys : List ℕ) : Type 0 where
  pub image : Image z img'
  pub long : length img' ≡ length img
  pub next_prior : next_of z img' p ≡ next_of z img t
  pub next_own : next_of z img' t ≡ free_head z img
  pub next_other : (u : ℕ) → IsTier z u → u ≢ p → u ≢ t → next_of z img' u ≡ next_of z img u
  pub head : free_head z img' ≡ t
  pub used : suc (get z img' (global usedTiers)) ≡ get z img (global usedTiers)
  pub order_less : Every ys (λ u. suc (get z img' (tier u (counter order))) ≡ get z img (tier u (counter order)))
  pub order_other : (u : ℕ) → IsTier z u → Every ys (λ v. u ≢ v) → get z img' (tier u (counter order)) ≡ get z img (tier u (counter order))
  pub previous_first : 0 < length ys → get z img' (tier (get_or ys 0 0) (counter previous)) ≡ p
  pub previous_other : (u : ℕ) → IsTier z u → (0 < length ys → u ≢ get_or ys 0 0)
      → get z img' (tier u (counter previous)) ≡ get z img (tier u (counter previous))
  pub segments : (u : ℕ) → IsTier z u → get z img' (tier u (counter segment)) ≡ get z img (tier u (counter segment))
  pub same_tiers : (u : ℕ) → IsTier z u → SameTier z img img' u
  pub counts : (u : ℕ) → IsTier z u → SameCounters z img img' u
  pub globals : (f : Global) → global_no f ≢ 1 → global_no f ≢ 2 → get z img' (global f) ≡ get z img (global f)

module _ {z : Shape} {img : List ℕ} {t p : ℕ} {ys : List ℕ} (w : Taken z img t p ys) where
  kinds_kept : (q : Place) → In z q → (kind q ≢ 1) × (kind q ≢ 2) × (kind q ≢ 7) × (kind q ≢ 9) × (kind q ≢ 10) × (kind q ≢ 13)
      → get z (after w) q ≡ get z img q
  kinds_kept q h k = kept w q h (by-kinds w q k)

  shared_kept : (f : Header) (g : Counter) → (header_no f < 2) × (counter_no g ≢ 0) × (counter_no g ≢ 1) × (counter_no g ≢ 4)
      → (u : ℕ) → IsTier z u → get z (after w) (shared_place z f g u) ≡ get z img (shared_place z f g u)
  shared_kept f g k u iu =
      kinds_kept (shared_place z f g u) (shared_in z f g u iu)
      (⊎_elim (λ e. omega (arith, k.0)) (λ e. omega (arith, k.1, k.2, k.3)) (shared-kind z f g u))

  same-long : length (after w) ≡ length img
  same-long = length-puts z (closed w) (moving z img p t) ∙ length-puts z img (closing z img p ys)

  pub unlinks : Unlinks z img (puts z (puts z img (closing z img p ys)) (moving z img p t)) t p ys
  unlinks =
      record {
        image = image-puts (im w) (moving z img p t);
        long = same-long;
        next_prior = prior-set w;
        next_own = own-set w;
        next_other = next-kept w;
        head = head-set w;
        used = used-set w;
        order_less = lower-set w;
        order_other = λ u iu ne.
            counter-kept w order (omega arith) u iu (λ v m. order-apart (ne v m))
            (after_spares z img _ p ys w.later_tiers (λ v m. by_kind (omega arith)));
        previous_first = name_set ys w;
        previous_other = λ u iu ne.
            counter-kept w previous (omega arith) u iu (λ v m. by_kind (omega arith)) (name_spares z img p u ys w.later_tiers ne);
        segments = λ u iu. kinds_kept (tier u (counter segment)) (iu, tt) (omega arith);
        same_tiers = λ u iu.
            tier-by-places z img (after w) u same-long
            (λ j h. kinds_kept (tier u (slot j)) (iu, h) (omega arith))
            (λ b h. kinds_kept (tier u (free b)) (iu, h) (omega arith))
            (λ i h. kinds_kept (tier u (byte i)) (iu, h) (omega arith));
        counts = λ u iu.
            record {
              count = shared_kept entry_count count (omega arith) u iu;
              low = shared_kept lowestFree low (omega arith) u iu;
            };
        globals = λ f k1 k2. kinds_kept (global f) tt (omega (arith, global-lt f));
      }
