use mathlib.Core.Path.{refl, sym, ◌∙◌}
use native.Mathlib.Omega.{arith}
use Rattle.std.proofs.lemmas.Option.{MatchOption-at_none, MatchOption-at_some}
use Rattle.settings.specs.Versions.{head_size}
use Rattle.lister.specs.Input.{reading}
use Rattle.lister.proofs.Reading.{needed-short, version-unknown, version-known}
use Rattle.lister.proofs.input.reading.Goals as goal

pub returns-then-read-lt-HEAD_SIZE : goal.returns-then-read-lt-HEAD_SIZE
unfolding reading
returns-then-read-lt-HEAD_SIZE c = c.missing.ensures ∙ sym (needed-short _ head_size _ _ _ c.if-read-lt-HEAD_SIZE.true)

pub returns-in_default : goal.returns-in_default
returns-in_default c =
    version-unknown _ _ c.if-read-lt-HEAD_SIZE.false (MatchOption-at_none _ _ c.in_default.is c.known_fields.ensures) refl

pub returns : goal.returns
returns c =
    let known = MatchOption-at_some _ _ _ c.in-Some.is c.known_fields.ensures in
    c.reading_block.ensures
    ∙ version-known _ _ c.if-read-lt-HEAD_SIZE.false known.0 c.block_size-end.ensures (λ e. omega (arith, known.1))
