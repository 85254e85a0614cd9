use Rattle.entries.specs.Stored.{chunks_for, value_offset}
use Rattle.lists.specs.Lists.{ceil}
use Rattle.leb128.proofs.Encode.{length-encode}
use mathlib.Core.Path.{ap, ◌∙◌}
use Prim.Native.Nat.{ℕ, ◌+◌}
use native.Mathlib.Omega.{arith}
use Rattle.lists.proofs.Numbers.{ceil-one}
use Rattle.entries.proofs.Sizes.{ceil-is}
use Rattle.entries.proofs.chunks_for.Goals as goal

pub returns-then-size-st : goal.returns-then-size-st
unfolding chunks_for value_offset
returns-then-size-st c =
    ceil-one (c.value_offset.result + c.args.v) c.args.st.chunkSize
    (omega (arith, c.value_offset.ensures.0, (length-encode c.args.k c.requires.lengths.key_small).0)) c.if-size-st.true ∙ ap
    (λ (x : ℕ). ceil (x + c.args.v) c.args.st.chunkSize) c.value_offset.ensures.0

pub returns : goal.returns
unfolding chunks_for
returns c =
    c.div_ceil.ensures ∙ ceil-is (c.value_offset.result + c.args.v) c.args.st.chunkSize c.requires.valid.chunkSize.0
    ∙ ap (λ (x : ℕ). ceil (x + c.args.v) c.args.st.chunkSize) c.value_offset.ensures.0
