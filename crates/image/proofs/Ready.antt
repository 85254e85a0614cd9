-- What the check accepts: exactly the images in which every stage fits.
use Prim.Native.Nat.{ℕ}
use mathlib.Core.List.{List}
use mathlib.Core.Path.{◌≡◌, refl, sym, ◌∙◌, ap, subst}
use native.Mathlib.Omega.{arith}
use lib.ListN.{length}
use Rattle.std.specs.Prelude.{Result, Ok, Err}
use Rattle.lists.specs.Decide.{choose}
use Rattle.lists.proofs.Decides.{choose_yes}
use Rattle.settings.specs.declared.Settings.{Settings}
use Rattle.settings.specs.declared.ParseError.{ParseError}
use Rattle.settings.specs.Rules.{Valid}
use Rattle.settings.specs.Block.{BlockFits, settings_of, parse}
use Rattle.settings.proofs.Laws.{parse-accepts, parse-only, Accepts}
use Rattle.layout.specs.declared.Shape.{Shape}
use Rattle.layout.specs.Frame.{shape_of, FrameFits, frame_fits?, Framed}
use Rattle.layout.proofs.Frames.{frame-fits, frame-framed}
use Rattle.chains.specs.Chains.{ChainsFit, chains_fit?}
use Rattle.chains.proofs.Tiers.{chain-tiers}
use Rattle.search.specs.Search.{ChainTiers}
use Rattle.search.specs.Rules.{EntriesFit, entries_fit?}
use Rattle.chunks.specs.Chunks.{ChunksFit, chunks_fit?}
use Rattle.sound.specs.Sound.{ImageFits}
use Rattle.image.specs.declared.Stage.{Stage}
use Rattle.image.specs.declared.Counts.{Counts}
use Rattle.image.specs.Check.{Examined, counts_of, after_chunks, after_entries, after_chains, after_frame, after_block, examine}

pub refused-ready : {A : Type 0} {k : Stage} {z : Shape} {c : Counts} → ◌≡◌ {A = Examined} (Err k) (Ok (z, c)) → A
refused-ready {A} {k} {z} {c} e = absurd (let q : ◌≡◌ {A = ℕ} 0 1 = cc in omega arith)

-- where one answer is two accepted ones, their parts are the same
pub same-accepted : {z w : Shape} {c d : Counts} → ◌≡◌ {A = Examined} (Ok (z, c)) (Ok (w, d)) → (z ≡ w) × (c ≡ d)
same-accepted {z} {w} {c} {d} e =
    let p : ◌≡◌ {A = Shape × Counts} (z, c) (w, d) = cc in
    (ap (λ (q : Shape × Counts). q.0) p, ap (λ (q : Shape × Counts). q.1) p)

module _ (block img : List ℕ) where
  -- ---- an image in which every stage fits, z being its shape

  pub record Fitting (z : Shape) : Type 0 where
    pub block_fits : BlockFits block
    pub shape : z ≡ shape_of (settings_of block) img
    pub image : ImageFits z img

  -- it is accepted, with its shape and its counts

  pub fitting-ready : (z : Shape) → Fitting z → examine block img ≡ Ok (z, counts_of z img)
  unfolding examine after_block after_frame after_chains after_entries after_chunks shape_of
  fitting-ready z f =
      ap (after_block img) (parse-accepts block f.block_fits (subst (λ (x : Shape). Valid x.settings) f.shape f.image.valid))
      ∙ rw (← f.shape)
      (choose_yes (frame_fits? z img) _ _ f.image.frame
      ∙ choose_yes (chains_fit? z img) _ _ f.image.chains
      ∙ choose_yes (entries_fit? z img) _ _ f.image.entries
      ∙ choose_yes (chunks_fit? z img) _ _ f.image.chunks)

  -- ---- and no other is

  -- where the stages from the frame on accepted z
  module _ (z : Shape) (c : Counts) (x : Shape) (valid : Valid x.settings) where
    from-chunks : FrameFits x img → ChainsFit x img → EntriesFit x img → (d : Dec (ChunksFit x img)) → after_chunks x img d ≡ Ok (z, c)
        → (z ≡ x) × ImageFits x img
    unfolding after_chunks choose
    from-chunks f a b (no _) e = refused-ready e
    from-chunks f a b (yes g) e = (sym (same-accepted e).0, record { valid = valid; frame = f; chains = a; entries = b; chunks = g })

    from_entries : FrameFits x img → ChainsFit x img → (d : Dec (EntriesFit x img)) → after_entries x img d ≡ Ok (z, c) → (z ≡ x) × ImageFits x img
    unfolding after_entries choose
    from_entries f a (no _) e = refused-ready e
    from_entries f a (yes b) e = from-chunks f a b (chunks_fit? x img) e

    from-chains : FrameFits x img → (d : Dec (ChainsFit x img)) → after_chains x img d ≡ Ok (z, c) → (z ≡ x) × ImageFits x img
    unfolding after_chains choose
    from-chains f (no _) e = refused-ready e
    from-chains f (yes a) e = from_entries f a (entries_fit? x img) e

    from-frame : (d : Dec (FrameFits x img)) → after_frame x img d ≡ Ok (z, c) → (z ≡ x) × ImageFits x img
    unfolding after_frame choose
    from-frame (no _) e = refused-ready e
    from-frame (yes f) e = from-chains f (chains_fit? x img) e

  from-parsed : (z : Shape) (c : Counts) (p : Result Settings ParseError) → parse block ≡ p → after_block img p ≡ Ok (z, c) → Fitting z
  unfolding after_block shape_of
  from-parsed z c (Err f) q e = refused-ready e
  from-parsed z c (Ok st) q e =
      let a : Accepts block st = parse-only block st q in
      let f : (z ≡ shape_of st img) × ImageFits (shape_of st img) img = from-frame z c (shape_of st img) a.valid (frame_fits? (shape_of st img) img) e in
      record {
        block_fits = a.block-fits;
        shape = f.0 ∙ ap (λ (x : Settings). shape_of x img) a.is;
        image = subst (λ (x : Shape). ImageFits x img) (sym f.0) f.1;
      }

  module _ (z : Shape) (c : Counts) (e : examine block img ≡ Ok (z, c)) where
    pub ready-fitting : Fitting z
    unfolding examine
    ready-fitting = from-parsed z c (parse block) refl e

    -- the counts are those of the image
    pub ready-counts : c ≡ counts_of z img
    ready-counts = sym (same-accepted (sym (fitting-ready z ready-fitting) ∙ e)).1

    -- what the calls that go on to work with the image ask for

    pub ready-framed : Framed z (length img)
    unfolding shape_of
    ready-framed =
        let f : Fitting z = ready-fitting in
        frame-framed (settings_of block) img z (subst (λ (x : Shape). Valid x.settings) f.shape f.image.valid)
        (rw f.shape (frame-fits (settings_of block) img (rw f.shape at f.image.frame)))

    pub ready-tiers : ChainTiers z img
    ready-tiers s h = chain-tiers z img ready-fitting.image.chains s h
