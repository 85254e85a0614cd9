use Rattle.std.proofs.Common.{ℕ, rules, tests}
use Rattle.std.proofs.lemmas.Iterator.{first_from_Range, serves_from_Range}
use Rattle.once.specs.Refs.{InPass}
use Rattle.once.proofs.Walking.{reads-slot, next-from}
use Rattle.once.proofs.next_in_pass.Goals as goal

pub find-requires : goal.find-requires
find-requires c = record { can = tt; finite = tt; callable = serves_from_Range (λ x q k. search (rules, tests)) (λ x low high. search (rules, reads-slot)) }

pub returns-then-by : goal.returns-then-by
returns-then-by c =
    let takes : ℕ → Type 0 = InPass c.args.z c.args.img.now c.args.by c.args.p c.args.t in
    rw c.unwrap_or.ensures
    (next-from c.args.z c.args.img.now c.args.by c.args.p c.args.t c.args.from c.find.result c.requires.within
    (first_from_Range _ _ _ _ takes (λ i. takes i → ⊥) c.find.ensures.ran (λ x q k. search (rules, tests)) (λ x q k. (search rules, search (rules, tests)))))
