use Prim.Native.Nat.{◌<◌}
use Rattle.std.specs.Prelude.{IsSome}
use mathlib.Core.Path.{refl, sym, ◌∙◌, subst}
use native.Mathlib.Omega.{arith}
use lib.Seq.{length-take-le}
use Rattle.layout.proofs.Chunks.{chunks-inside}
use Rattle.entries.proofs.Whole.{decode-up_to_chunks, whole-sound, whole_chunk, key-read, key-part}
use borrow.Author.Rules.{rules}
use Rattle.entries.proofs.read.key_part.Goals as goal

pub slice_bounds-read-end : goal.slice_bounds-read-end
slice_bounds-read-end c =
    sym (length-take-le c.chunk_at-end.result c.args.img.now
    (omega (arith, c.chunk_at-end.ensures, chunks-inside c.requires.tier.framed c.args.t c.requires.tier.tier_in, c.requires.tier.framed.within)))

pub chunk_at-requires : goal.chunk_at-requires
chunk_at-requires c =
    let sound = whole-sound c.args.z c.args.img.now c.args.t c.args.c c.requires.entry c.requires.whole in
    let inside : c.args.c < c.args.z.settings.chunks = whole_chunk c.args.z c.args.img.now c.args.t c.args.c sound in
    search rules

pub unwrap-k-requires : goal.unwrap-k-requires
unwrap-k-requires c =
    subst IsSome
    (sym (c.read.ensures ∙ sym (decode-up_to_chunks c.args.z c.args.img.now c.args.t c.chunk_at-end.ensures c.chunk_at.ensures)
    ∙ key-read c.args.z c.args.img.now c.args.t c.args.c c.requires.entry c.requires.whole)) refl

pub returns : goal.returns
returns c =
    key-part c.args.z c.args.img.now c.args.t c.args.c c.requires.entry c.requires.whole
    (decode-up_to_chunks c.args.z c.args.img.now c.args.t c.chunk_at-end.ensures c.chunk_at.ensures ∙ sym c.read.ensures ∙ c.unwrap-k.ensures)
