-- The n-th of the live entries: the next one of a cursor that has n to pass over.
use Prim.Native.Nat.{ℕ, suc, ◌+◌, ◌<◌}
use mathlib.Core.List.{List, [], ◌∷◌, ◌++◌}
use mathlib.Core.Path.{◌≡◌, ap, sym, ◌∙◌}
use native.Mathlib.Omega.{arith}
use lib.ListN.{length}
use Rattle.std.specs.Prelude.{Ok, Err}
use Rattle.layout.specs.declared.Shape.{Shape}
use Rattle.entries.specs.declared.Live.{Live}
use Rattle.entries.specs.Live.{live_at, live}
use Rattle.search.specs.Search.{ChainTiers}
use Rattle.image.specs.declared.cursor.LiveCursor.{LiveCursor}
use Rattle.image.specs.List.{pick}
use Rattle.image.specs.Cursor.{start_of, ahead, InChain}
use Rattle.image.specs.Moving.{OnFull, Moves}
use Rattle.image.proofs.Rest.{start_in, start-all, ahead-cons}

pick-passed : (ps es : List Live) (n : ℕ) → pick (ps ++ es) (length ps + n) ≡ pick es n
unfolding pick
pick-passed [] es n = let e : 0 + n ≡ n = omega arith in rw e
pick-passed (p ∷ ps) es n = let e : suc (length ps) + n ≡ suc (length ps + n) = omega arith in rw e (pick-passed ps es n)

module _ (z : Shape) (img : List ℕ) (h : 0 < z.settings.segments) {n : ℕ} {c : LiveCursor} (first : c ≡ start_of z 0 n) where
  pub picks_in : ChainTiers z img → InChain z img c
  picks_in is = rw first (start_in z img 0 n h is)

  module _ {d : LiveCursor} (w : Moves z img c d) where
    same : pick (live z img) n ≡ pick (ahead z img d) d.skip
    same =
        let all : ahead z img c ≡ live z img = rw first (start-all z img h n) in
        let skip : c.skip ≡ n = ap (λ (x : LiveCursor). x.skip) first in
        rw (← all, ← skip, w.split, w.count) (pick-passed w.passed (ahead z img d) d.skip)

    pub picks-after : ahead z img d ≡ [] → Err d.skip ≡ pick (live z img) n
    unfolding pick
    picks-after e = sym (same ∙ rw e)

    pub picks_at : OnFull z img d → {e : Live} → e ≡ live_at z img d.segment d.tier d.slot → Ok e ≡ pick (live z img) n
    unfolding pick
    picks_at f p = ap Ok p ∙ sym (same ∙ rw (ahead-cons z img w.in_chain f, f.skip_is))
