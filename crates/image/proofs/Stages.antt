-- The stages one after the other, as the code asks them.
use Prim.Native.Nat.{ℕ}
use mathlib.Core.List.{List}
use mathlib.Core.Path.{◌≡◌, refl, ap, sym, ◌∙◌}
use native.Mathlib.Omega.{arith}
use lib.ListN.{length}
use Rattle.std.specs.Prelude.{Some, None, Result, Ok, Err}
use Rattle.lists.specs.Decide.{choose}
use Rattle.lists.proofs.Decides.{choose_no, choose_yes}
use Rattle.settings.specs.declared.Settings.{Settings}
use Rattle.settings.specs.Rules.{Valid}
use Rattle.layout.specs.declared.Shape.{Shape}
use Rattle.layout.specs.Frame.{shape_of, frame_fits?, frame_of, Framed}
use Rattle.layout.proofs.Frames.{frame-fits, frame-only, frame-framed, Fitting}
use Rattle.std.proofs.lemmas.Option.{some_pair_parts}
use Rattle.chains.specs.Chains.{chained, free_chain, ChainsFit, chains_fit?, chains_of}
use Rattle.chains.proofs.Answer.{chains-fit, chains-only}
use Rattle.chains.proofs.Tiers.{chain-tiers}
use Rattle.entries.specs.Live.{live}
use Rattle.search.specs.Search.{ChainTiers}
use Rattle.search.specs.Rules.{EntriesFit, entries_fit?}
use Rattle.chunks.specs.Chunks.{ChunksFit, chunks_fit?, marked_chunks}
use Rattle.contents.specs.declared.ContentsError.{ContentsError}
use Rattle.contents.specs.declared.ContentsError.TheVariants.{Chunks, Entries}
use Rattle.contents.specs.Contents.{contents_of}
use Rattle.image.specs.declared.Stage.TheVariants as stage
use Rattle.image.specs.Check.{Examined, stage_of_contents, counts_of, after_chunks, after_entries, after_chains, after_frame}

-- ---- as the code has it: what each call answered

module _ (st : Settings) (img : List ℕ) where
  -- what the stages after the settings give
  abbrev pub target : Examined
  target = after_frame (shape_of st img) img (frame_fits? (shape_of st img) img)

  pub frame_refused : frame_of st img ≡ None → Err stage.Frame ≡ target
  unfolding after_frame
  frame_refused e =
      sym
      (choose_no (frame_fits? (shape_of st img) img) _ _
      (λ f. let g : Some (shape_of st img) ≡ None = sym (frame-fits st img f) ∙ e in let q : ◌≡◌ {A = ℕ} 0 1 = cc in omega arith))

  module _ (v : Valid st) (z : Shape) (e : frame_of st img ≡ Some z) where
    fitting : Fitting st img z
    fitting = frame-only st img z e

    pub framed-here : Framed z (length img)
    framed-here = frame-framed st img z v e

    at-chains : after_chains z img (chains_fit? z img) ≡ target
    unfolding after_frame
    at-chains = let is : z ≡ shape_of st img = fitting.is in rw (← is) (sym (choose_yes (frame_fits? z img) _ _ fitting.fits))

    pub chains-refused : chains_of z img ≡ None → Err stage.Chains ≡ target
    unfolding after_chains
    chains-refused c =
        sym
        (choose_no (chains_fit? z img) _ _
        (λ f.
        let g : Some (length (chained z img), length (free_chain z img)) ≡ None = sym (chains-fit z img f) ∙ c in
        let q : ◌≡◌ {A = ℕ} 0 1 = cc in omega arith))
        ∙ at-chains

    module _ (m n : ℕ) (c : chains_of z img ≡ Some (m, n)) where
      pub chains-here : ChainsFit z img
      chains-here = chains-only z img m n c

      pub tiers-here : ChainTiers z img
      tiers-here = chain-tiers z img chains-here

      at-entries : after_entries z img (entries_fit? z img) ≡ target
      unfolding after_chains
      at-entries = sym (choose_yes (chains_fit? z img) _ _ chains-here) ∙ at-chains

      -- ---- what the tiers hold says what is examined

      abbrev seen : Result (ℕ × ℕ) ContentsError → Examined
      seen (Err e) = Err (stage_of_contents e)
      seen (Ok (a, b)) = Ok (z, record { entries = a; chunks = b; tiers = m; free = n })

      seen-both : (d : Dec (EntriesFit z img)) (e : Dec (ChunksFit z img))
          → seen (choose d (λ _. Err Entries) λ _. choose e (λ _. Err Chunks) λ _. Ok (length (live z img), marked_chunks z img))
          ≡ choose d (λ _. Err stage.Entries) (λ _. after_chunks z img e)
      unfolding choose after_chunks counts_of
      seen-both (no _) e = refl
      seen-both (yes _) (no _) = refl
      seen-both (yes _) (yes _) =
          let q : (length (chained z img) ≡ m) × (length (free_chain z img) ≡ n) = some_pair_parts _ m _ n (sym (chains-fit z img chains-here) ∙ c) in
          λ i. Ok (z, record { entries = length (live z img); chunks = marked_chunks z img; tiers = sym q.0 i; free = sym q.1 i })

      -- with the equation that the answer is taken by
      pub examined : (r : Result (ℕ × ℕ) ContentsError) → r ≡ contents_of z img → (x : Result (ℕ × ℕ) ContentsError) → r ≡ x → seen x ≡ target
      unfolding contents_of after_entries
      examined r is x e = ap seen (sym e ∙ is) ∙ seen-both (entries_fit? z img) (chunks_fit? z img) ∙ at-entries
