-- How many extra tiers there are, chained and free.
use Prim.Native.Nat.{ℕ, suc, ◌*◌}
use mathlib.Core.List.Memᴰ
use mathlib.Core.List.{List, ◌++◌, Memᴰ}
use mathlib.Core.Path.{◌≡◌}
use mathlib.Core.Logic.{⊎_elim}
use native.Mathlib.Omega.{arith}
use lib.ListN.{length}
use Rattle.lists.specs.Lists.{below}
use Rattle.lists.specs.Quantify.{Every}
use Rattle.lists.proofs.Lists.{span_in}
use Rattle.lists.proofs.Members.{flat_map_in}
use Rattle.lists.proofs.Totals.{length-span-once}
use Rattle.layout.specs.declared.Shape.{Shape}
use Rattle.layout.specs.Tiers.{tiers, IsExtra}
use Rattle.chains.specs.Chains.{free_chain, chained_extra, ChainsFit}
use Rattle.chains.specs.Walk.{extras_of}

module _ (z : Shape) (img : List ℕ) (fits : ChainsFit z img) where
  pub extras_in : Every (chained_extra z img ++ free_chain z img) (IsExtra z)
  unfolding chained_extra
  extras_in t m =
      ⊎_elim
      (λ k.
      let r : (s : ℕ) × Memᴰ s (below z.settings.segments) × Memᴰ t (extras_of z img s) =
      flat_map_in (extras_of z img) (below z.settings.segments) k in
      (fits.segments_fit r.0 (omega (arith, span_in 0 z.settings.segments r.0 r.1))).extras t r.2)
      (λ k. fits.free_fits.extras t k)
      (Memᴰ.append_cases (chained_extra z img) m)

  pub extras-number : length (chained_extra z img ++ free_chain z img) ≡ z.bulks * z.settings.bulkTiers
  unfolding tiers
  extras-number =
      length-span-once (suc z.settings.segments) (z.bulks * z.settings.bulkTiers) (chained_extra z img ++ free_chain z img)
      (λ t m. let x : IsExtra z t = extras_in t m in omega arith) fits.once
