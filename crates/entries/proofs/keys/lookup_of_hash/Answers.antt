use Rattle.entries.proofs.Hashes.{lookup-ones, lookup-part, lookup-bounds-of}
use mathlib.Core.Path.{ap, sym, ◌∙◌}
use Prim.Native.Nat.{ℕ, ◌/◌, ◌%◌, ◌^◌}
use Rattle.entries.proofs.keys.lookup_of_hash.Goals as goal

pub returns-then-part-eq0 : goal.returns-then-part-eq0
returns-then-part-eq0 c =
    lookup-bounds-of c.requires c.args.h c.ones.result
    (c.ones.ensures ∙ sym (lookup-ones c.args.st c.args.h
    (sym
    (c.low_bits-part.ensures.0 ∙ ap (λ (n : ℕ). c.args.h / n % 2 ^ c.args.st.keyBits) (sym c.log2.ensures.0)) ∙
    c.if-part-eq0.true)))

pub returns : goal.returns
returns c =
    lookup-bounds-of c.requires c.args.h c.low_bits-part.result
    (c.low_bits-part.ensures.0 ∙ ap (λ (n : ℕ). c.args.h / n % 2 ^ c.args.st.keyBits) (sym c.log2.ensures.0) ∙ sym
    (lookup-part c.args.st c.args.h
    (λ e. c.if-part-eq0.false
    (c.low_bits-part.ensures.0 ∙ ap (λ (n : ℕ). c.args.h / n % 2 ^ c.args.st.keyBits) (sym c.log2.ensures.0) ∙ e))))
