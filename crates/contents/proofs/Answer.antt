-- What the tiers hold, from the answers of the chains and of the free tiers.
use Rattle.std.specs.Prelude.{Result, Ok, Err}
use Prim.Native.Nat.{ℕ}
use mathlib.Core.List.{List}
use mathlib.Core.Path.{◌≡◌, ap₂, sym, ◌∙◌}
use native.Mathlib.Omega.{arith}
use lib.ListN.{length}
use Rattle.lists.proofs.Decides.{choose_no, choose_yes}
use Rattle.layout.specs.declared.Shape.{Shape}
use Rattle.chains.specs.Chains.{chained}
use Rattle.entries.specs.Live.{live}
use Rattle.search.specs.Rules.{EntriesFit, entries_fit?}
use Rattle.chunks.specs.Chunks.{ChunksFit, chunks_fit?, marked_chunks}
use Rattle.contents.specs.declared.ContentsError.{ContentsError}
use Rattle.contents.specs.declared.ContentsError.TheVariants.{Chunks, Entries}
use Rattle.contents.specs.Contents.{contents_of}
use Rattle.contents.specs.Counting.{Says, joined, AllSay, FreeSays}
use Rattle.contents.proofs.Saying.{both_say, says_as}

module _ (z : Shape) (img : List ℕ) where
  -- ---- by what holds

  told : (r : Result (ℕ × ℕ) ContentsError) → Says (EntriesFit z img) (ChunksFit z img) (length (live z img)) (marked_chunks z img) r → r ≡ contents_of z img
  unfolding contents_of
  told (Err Entries) p = sym (choose_no (entries_fit? z img) _ _ p.so)
  told (Err Chunks) p = sym (choose_yes (entries_fit? z img) _ _ p.so.0 ∙ choose_no (chunks_fit? z img) _ _ p.so.1)
  told (Ok (a, b)) p =
      ap₂ (λ (x y : ℕ). Ok (x, y)) p.so.1.0 p.so.1.1 ∙ sym (choose_yes (entries_fit? z img) _ _ p.so.0.0 ∙ choose_yes (chunks_fit? z img) _ _ p.so.0.1)

  -- ---- as the code has it

  pub contents-told : {a b r : Result (ℕ × ℕ) ContentsError} → AllSay z img z.settings.segments a → FreeSays z img b → r ≡ joined a b → r ≡ contents_of z img
  unfolding live marked_chunks chained
  contents-told {a} {b} {r} p q e =
      told r
      (says_as
      (λ f. record { tiers_fit = λ s h. (f.0 s h).tiers_fit; keys_once = λ s h. (f.0 s h).keys_once })
      (λ f. (λ s h. record { tiers_fit = f.tiers_fit s h; keys_once = f.keys_once s h }, tt))
      (λ f. record { tiers_fit = f.0; free_fit = f.1 })
      (λ f. (f.tiers_fit, f.free_fit))
      (omega arith) (omega arith) r (both_say e p q))
