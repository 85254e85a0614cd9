use mathlib.Core.Path.{refl, sym, ◌∙◌, subst}
use native.Mathlib.Omega.{arith}
use lib.Seq.{length-take-le}
use Rattle.layout.proofs.Chunks.{chunks-inside}
use Rattle.entries.proofs.Whole.{stored_past, decode-up_to_chunks, stored-key-refused, stored-value-refused, stored-both-read, key-end-small}
use Rattle.walk.proofs.Testing.{broken-unread, reads-measured, measured-reads, reads-key, value-end-small}
use Rattle.walk.specs.Telling.{ReadsSay}
use Rattle.walk.proofs.tested_entry.Goals as goal

pub returns-then-z-c : goal.returns-then-z-c
returns-then-z-c c =
    broken-unread c.args.z c.args.img.now c.args.t c.args.c
    (stored_past c.args.z c.args.img.now c.args.t c.args.c c.if-z-c.true)

pub slice_bounds-bytes-end : goal.slice_bounds-bytes-end
slice_bounds-bytes-end c =
    sym (length-take-le c.chunk_at-end.result c.args.img.now
    (omega (arith, c.chunk_at-end.ensures, chunks-inside c.requires.framed c.args.t c.requires.tier_in, c.requires.framed.within)))

pub returns-in_err-k : goal.returns-in_err-k
returns-in_err-k c =
    let d = decode-up_to_chunks c.args.z c.args.img.now c.args.t c.chunk_at-end.ensures c.chunk_at.ensures
    ∙ sym c.read.ensures ∙ c.in_err-k.was in
    subst (ReadsSay c.args.z c.args.img.now c.args.t c.args.c) (sym c.from_residual.ensures)
    (broken-unread c.args.z c.args.img.now c.args.t c.args.c
    (stored-key-refused c.args.z c.args.img.now c.args.t c.args.c d))

pub returns-then-k-lt1 : goal.returns-then-k-lt1
returns-then-k-lt1 c =
    let d = decode-up_to_chunks c.args.z c.args.img.now c.args.t c.chunk_at-end.ensures c.chunk_at.ensures
    ∙ sym c.read.ensures ∙ c.in_ok-k.was in
    λ r. omega (arith, reads-key c.args.z c.args.img.now c.args.t c.args.c d r)

pub returns-then-k-gt-LONGEST_KEY : goal.returns-then-k-gt-LONGEST_KEY
returns-then-k-gt-LONGEST_KEY c =
    let d = decode-up_to_chunks c.args.z c.args.img.now c.args.t c.chunk_at-end.ensures c.chunk_at.ensures
    ∙ sym c.read.ensures ∙ c.in_ok-k.was in
    λ r. omega (arith, reads-key c.args.z c.args.img.now c.args.t c.args.c d r)

pub overflow_add-at : goal.overflow_add-at
overflow_add-at c =
    let d = decode-up_to_chunks c.args.z c.args.img.now c.args.t c.chunk_at-end.ensures c.chunk_at.ensures
    ∙ sym c.read.ensures ∙ c.in_ok-k.was in
    omega (arith, key-end-small c.args.z c.args.img.now c.args.t c.args.c c.requires.framed c.requires.tier_in d)

pub returns-in_err-v : goal.returns-in_err-v
returns-in_err-v c =
    let d = decode-up_to_chunks c.args.z c.args.img.now c.args.t c.chunk_at-end.ensures c.chunk_at.ensures
    ∙ sym c.read.ensures ∙ c.in_ok-k.was in
    let f = decode-up_to_chunks c.args.z c.args.img.now c.args.t c.chunk_at-end.ensures refl
    ∙ sym c.read-2.ensures ∙ c.in_err-v.was in
    subst (ReadsSay c.args.z c.args.img.now c.args.t c.args.c) (sym c.from_residual-in_err-v.ensures)
    (broken-unread c.args.z c.args.img.now c.args.t c.args.c
    (stored-value-refused c.args.z c.args.img.now c.args.t c.args.c d f))

pub overflow_add-after : goal.overflow_add-after
overflow_add-after c =
    let d = decode-up_to_chunks c.args.z c.args.img.now c.args.t c.chunk_at-end.ensures c.chunk_at.ensures
    ∙ sym c.read.ensures ∙ c.in_ok-k.was in
    let f = decode-up_to_chunks c.args.z c.args.img.now c.args.t c.chunk_at-end.ensures refl
    ∙ sym c.read-2.ensures ∙ c.in_ok-v.was in
    let w = stored-both-read c.args.z c.args.img.now c.args.t c.args.c d f in
    omega (arith, value-end-small c.args.z c.args.img.now c.args.t c.args.c w c.requires.framed c.requires.tier_in)

pub returns-then-end-after : goal.returns-then-end-after
returns-then-end-after c =
    let d = decode-up_to_chunks c.args.z c.args.img.now c.args.t c.chunk_at-end.ensures c.chunk_at.ensures
    ∙ sym c.read.ensures ∙ c.in_ok-k.was in
    let f = decode-up_to_chunks c.args.z c.args.img.now c.args.t c.chunk_at-end.ensures refl
    ∙ sym c.read-2.ensures ∙ c.in_ok-v.was in
    let w = stored-both-read c.args.z c.args.img.now c.args.t c.args.c d f in
    λ r. omega (arith, c.chunk_at-end.ensures, reads-measured c.args.z c.args.img.now c.args.t c.args.c w r)

pub returns : goal.returns
returns c =
    let d = decode-up_to_chunks c.args.z c.args.img.now c.args.t c.chunk_at-end.ensures c.chunk_at.ensures
    ∙ sym c.read.ensures ∙ c.in_ok-k.was in
    let f = decode-up_to_chunks c.args.z c.args.img.now c.args.t c.chunk_at-end.ensures refl
    ∙ sym c.read-2.ensures ∙ c.in_ok-v.was in
    let w = stored-both-read c.args.z c.args.img.now c.args.t c.args.c d f in (
      w,
      measured-reads c.args.z c.args.img.now c.args.t c.args.c w
          (record {
            some_byte = omega (arith, c.if-k-lt1.false);
            key_not_longer = omega arith;
            ends = omega (arith, c.chunk_at-end.ensures);
          }),
    )
