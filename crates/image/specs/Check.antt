-- The check: the lowest stage that is broken, or the counts. Each stage is asked over the whole image before the next.
use Rattle.std.specs.Prelude.{ℕ, List, [], ◌∷◌, length, Result, Ok, Err}
use Rattle.lists.specs.Decide.{choose}
use Rattle.settings.specs.declared.Settings.{Settings}
use Rattle.settings.specs.declared.ParseError.{ParseError}
use Rattle.settings.specs.declared.ParseError.TheVariants as fault
use Rattle.settings.specs.Block.{parse}
use Rattle.layout.specs.declared.Shape.{Shape}
use Rattle.layout.specs.Frame.{shape_of, FrameFits, frame_fits?}
use Rattle.chains.specs.Chains.{chained, free_chain, ChainsFit, chains_fit?}
use Rattle.entries.specs.Live.{live}
use Rattle.search.specs.Rules.{EntriesFit, entries_fit?}
use Rattle.chunks.specs.Chunks.{ChunksFit, chunks_fit?, marked_chunks}
use Rattle.contents.specs.declared.ContentsError.{ContentsError}
use Rattle.contents.specs.declared.ContentsError.TheVariants as held
use Rattle.image.specs.declared.Stage.{Stage}
use Rattle.image.specs.declared.Stage.TheVariants.{Block, Field, Frame, Chains, Entries, Chunks, Key, Value, Walk}
use Rattle.image.specs.declared.Counts.{Counts}
use Rattle.image.specs.declared.Outcome.{Outcome}
use Rattle.image.specs.declared.Outcome.TheVariants as outcome
use Rattle.image.specs.declared.Verdict.{Verdict}

-- the numbers of the papers
abbrev pub stage_number : Stage → ℕ
stage_number Block = 2
stage_number Field = 3
stage_number Frame = 4
stage_number Chains = 5
stage_number Entries = 6
stage_number Chunks = 7
stage_number Key = 8
stage_number Value = 9
stage_number Walk = 18

unfoldable pub counts_of : Shape → List ℕ → Counts
counts_of z img =
    record { entries = length (live z img); chunks = marked_chunks z img; tiers = length (chained z img); free = length (free_chain z img) }

-- the shape of an accepted image, and its counts; or the refusal
abbrev pub Examined : Type 0
Examined = Result (Shape × Counts) Stage

-- ---- stage by stage

unfoldable pub after_chunks : (z : Shape) (img : List ℕ) → Dec (ChunksFit z img) → Examined
after_chunks z img d = choose d (λ _. Err Chunks) (λ _. Ok (z, counts_of z img))

unfoldable pub after_entries : (z : Shape) (img : List ℕ) → Dec (EntriesFit z img) → Examined
after_entries z img d = choose d (λ _. Err Entries) (λ _. after_chunks z img (chunks_fit? z img))

unfoldable pub after_chains : (z : Shape) (img : List ℕ) → Dec (ChainsFit z img) → Examined
after_chains z img d = choose d (λ _. Err Chains) (λ _. after_entries z img (entries_fit? z img))

unfoldable pub after_frame : (z : Shape) (img : List ℕ) → Dec (FrameFits z img) → Examined
after_frame z img d = choose d (λ _. Err Frame) (λ _. after_chains z img (chains_fit? z img))

-- a block's refusals among the stages
abbrev pub stage_of : ParseError → Stage
stage_of fault.Block = Block
stage_of fault.Field = Field

-- and those of what the tiers hold
abbrev pub stage_of_contents : ContentsError → Stage
stage_of_contents held.Entries = Entries
stage_of_contents held.Chunks = Chunks

unfoldable pub after_block : List ℕ → Result Settings ParseError → Examined
after_block img (Err e) = Err (stage_of e)
after_block img (Ok st) = after_frame (shape_of st img) img (frame_fits? (shape_of st img) img)

unfoldable pub examine : List ℕ → List ℕ → Examined
examine block img = after_block img (parse block)

-- ---- the check

unfoldable pub verdict_of : Examined → Verdict
verdict_of (Ok (z, c)) = record { outcome = outcome.Accepted c }
verdict_of (Err s) = record { outcome = outcome.Refused s }

unfoldable pub check : List ℕ → List ℕ → Verdict
check block img = verdict_of (examine block img)

-- the paper's number and the four counts
abbrev pub outcome_numbers : Outcome → List ℕ
outcome_numbers (outcome.Accepted c) = 0 ∷ c.entries ∷ c.chunks ∷ c.tiers ∷ c.free ∷ []
outcome_numbers (outcome.Refused s) = stage_number s ∷ 0 ∷ 0 ∷ 0 ∷ 0 ∷ []

abbrev pub verdict_numbers : Verdict → List ℕ
verdict_numbers v = outcome_numbers v.outcome
