use mathlib.Core.Path.{refl, sym, ◌∙◌}
use native.Mathlib.Omega.{arith}
use lib.Seq.{length-take-le}
use Rattle.layout.proofs.Chunks.{chunks-inside}
use Rattle.entries.proofs.Whole.{stored_past, decode-up_to_chunks, stored-key-refused, stored-value-refused, stored-both-read, key-end-small}
use Rattle.entries.proofs.read.stored.Goals as goal

pub returns-then-z-c : goal.returns-then-z-c
returns-then-z-c c = sym (stored_past c.args.z c.args.img.now c.args.t c.args.c c.if-z-c.true)

pub slice_bounds-bytes-end : goal.slice_bounds-bytes-end
slice_bounds-bytes-end c =
    sym (length-take-le c.chunk_at-end.result c.args.img.now
    (omega (arith, c.chunk_at-end.ensures, chunks-inside c.requires.framed c.args.t c.requires.tier_in, c.requires.framed.within)))

pub returns-in_err-k : goal.returns-in_err-k
returns-in_err-k c =
    c.from_residual.ensures ∙ sym (stored-key-refused c.args.z c.args.img.now c.args.t c.args.c
    (decode-up_to_chunks c.args.z c.args.img.now c.args.t c.chunk_at-end.ensures c.chunk_at.ensures ∙ sym
    c.read.ensures ∙ c.in_err-k.was))

pub overflow_add-at : goal.overflow_add-at
overflow_add-at c =
    omega (
      arith,
      key-end-small c.args.z c.args.img.now c.args.t c.args.c c.requires.framed c.requires.tier_in
          (decode-up_to_chunks c.args.z c.args.img.now c.args.t c.chunk_at-end.ensures c.chunk_at.ensures ∙ sym c.read.ensures
          ∙ c.in_ok-k.was),
    )

pub returns-in_err-v : goal.returns-in_err-v
returns-in_err-v c =
    c.from_residual-in_err-v.ensures ∙ sym (stored-value-refused c.args.z c.args.img.now c.args.t c.args.c
    (decode-up_to_chunks c.args.z c.args.img.now c.args.t c.chunk_at-end.ensures c.chunk_at.ensures
    ∙ sym c.read.ensures ∙ c.in_ok-k.was)
    (decode-up_to_chunks c.args.z c.args.img.now c.args.t c.chunk_at-end.ensures refl
    ∙ sym c.read-2.ensures ∙ c.in_err-v.was))

pub returns : goal.returns
returns c =
    sym (stored-both-read c.args.z c.args.img.now c.args.t c.args.c
    (decode-up_to_chunks c.args.z c.args.img.now c.args.t c.chunk_at-end.ensures c.chunk_at.ensures
    ∙ sym c.read.ensures ∙ c.in_ok-k.was)
    (decode-up_to_chunks c.args.z c.args.img.now c.args.t c.chunk_at-end.ensures refl ∙ sym c.read-2.ensures ∙ c.in_ok-v.was))
