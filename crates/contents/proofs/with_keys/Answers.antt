use Rattle.contents.proofs.Saying.{error-at}
use Rattle.lists.proofs.Decides.{decided_true, decided-false}
use Rattle.search.specs.Rules.{KeysOnce}
use Rattle.contents.proofs.Chains.{broken-says, chunks-read, fit-read, once-says, twice-says}
use Rattle.contents.proofs.with_keys.Goals as goal

pub keys_fit-requires : goal.keys_fit-requires
keys_fit-requires c =
    record {
      reads = chunks-read c.args.z c.args.img.now c.args.s c.args.sum c.requires.says c.requires.fitting (error-at c.in-Err.is c.in-Chunks.is);
      alone =
          c.requires.alone;
    }

pub later_entries-later-requires : goal.later_entries-later-requires
later_entries-later-requires c = c.requires.fitting

pub keys_fit-requires-in-Ok : goal.keys_fit-requires-in-Ok
keys_fit-requires-in-Ok c =
    record {
      reads = fit-read c.args.z c.args.img.now c.args.s c.args.sum c.requires.says c.requires.fitting c.in-Ok.entries c.in-Ok.marked
          c.in-Ok.is;
      alone = c.requires.alone;
    }

pub returns-in-Entries : goal.returns-in-Entries
returns-in-Entries c = broken-says c.args.z c.args.img.now c.args.s c.args.sum c.requires.says (error-at c.in-Err.is c.in-Entries.is)

pub returns-then-keys_fit : goal.returns-then-keys_fit
returns-then-keys_fit c =
    once-says c.args.z c.args.img.now c.args.s c.args.sum c.requires.says
    (decided_true {P = KeysOnce c.args.z c.args.img.now c.args.s} c.keys_fit.result c.keys_fit.ensures c.if-keys_fit.true) _
    (error-at c.in-Err.is c.in-Chunks.is)

pub returns-else-keys_fit : goal.returns-else-keys_fit
returns-else-keys_fit c =
    twice-says c.args.z c.args.img.now c.args.s (decided-false {P = KeysOnce c.args.z c.args.img.now c.args.s} c.keys_fit.result
    c.keys_fit.ensures c.if-keys_fit.false)

pub returns-then-keys_fit-2 : goal.returns-then-keys_fit-2
returns-then-keys_fit-2 c =
    once-says c.args.z c.args.img.now c.args.s c.args.sum c.requires.says
    (decided_true {P = KeysOnce c.args.z c.args.img.now c.args.s} c.keys_fit-in-Ok.result c.keys_fit-in-Ok.ensures c.if-keys_fit-2.true) _ c.in-Ok.is

pub returns-else-keys_fit-2 : goal.returns-else-keys_fit-2
returns-else-keys_fit-2 c =
    twice-says c.args.z c.args.img.now c.args.s (decided-false {P = KeysOnce c.args.z c.args.img.now c.args.s} c.keys_fit-in-Ok.result
    c.keys_fit-in-Ok.ensures c.if-keys_fit-2.false)
