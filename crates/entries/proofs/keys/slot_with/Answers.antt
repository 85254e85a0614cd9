use Rattle.settings.proofs.Laws.{slot_size-le}
use Rattle.words.proofs.Bits.{or-shl}
use native.Mathlib.Omega.{arith}
use borrow.Author.Rules.{rules}
use Rattle.entries.proofs.keys.slot_with.Goals as goal

pub returns : goal.returns
returns c =
    or-shl c.args.st.keyBits c.args.st.chunkBits c.args.lookup c.args.chunk (search rules) (search rules)
    (omega (arith, (slot_size-le c.args.st c.requires.valid.slotSize).1))
