-- A sound image: bytes of a shape that fit the layout with every rule of refusals 3 to 7.
use Rattle.std.specs.Prelude.{ℕ, ◌≡◌}
use mathlib.Core.List.{List, Memᴰ}
use Rattle.lists.specs.Quantify.{Below, Every}
use Rattle.words.specs.Bytes.{Bytes}
use Rattle.settings.specs.Rules.{Valid}
use Rattle.layout.specs.declared.Shape.{Shape}
use Rattle.layout.specs.Frame.{shape_of, FrameFits}
use Rattle.chains.specs.Chains.{chain, free_chain, ChainsFit}
use Rattle.search.specs.Rules.{EntriesFit}
use Rattle.chunks.specs.Chunks.{MarksFit, CountersFit, FreeTierFits, ChunksFit}

-- the rules of refusals 3 to 7, where C is what is asked of chunks and counters
pub record FitsWith (C : Type 0) (z : Shape) (img : List ℕ) : Type 0 where
  pub valid : Valid z.settings
  pub frame : FrameFits z img
  pub chains : ChainsFit z img
  pub entries : EntriesFit z img
  pub chunks : C

abbrev pub ImageFits : Shape → List ℕ → Type 0
ImageFits z img = FitsWith (ChunksFit z img) z img

-- the rules of refusal 7, but for the two counters of some tiers
pub record ChunksFitBut (z : Shape) (img but : List ℕ) : Type 0 where
  pub marks : Below z.settings.segments (λ s. Every (chain z img s) (MarksFit z img s))
  pub counters : Below z.settings.segments (λ s. Every (chain z img s) (λ t. (Memᴰ t but → ⊥) → CountersFit z img t))
  pub free : Every (free_chain z img) (FreeTierFits z img)

-- bytes whose shape is z, with those rules
pub record SoundWith (C : Type 0) (z : Shape) (img : List ℕ) : Type 0 where
  pub bytes : Bytes img
  pub shape : shape_of z.settings img ≡ z
  pub fits : FitsWith C z img

abbrev pub SoundImage : Shape → List ℕ → Type 0
SoundImage z img = SoundWith (ChunksFit z img) z img

-- while an edit goes on, the tiers that it changed
abbrev pub SoundBut : Shape → List ℕ → List ℕ → Type 0
SoundBut z img but = SoundWith (ChunksFitBut z img but) z img
