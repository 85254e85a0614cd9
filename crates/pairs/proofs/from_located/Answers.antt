use mathlib.Core.Path.{refl}
use native.Mathlib.Omega.{arith}
use Rattle.pairs.proofs.Answering.{within-found, located-none, located_record}
use Rattle.pairs.proofs.from_located.Goals as goal

pub overflow_add-to : goal.overflow_add-to
overflow_add-to c = omega (arith, within-found c.args.img.now c.args.located c.requires c.in-Found.p c.in-Found.is)

pub slice_bounds-from_record-end : goal.slice_bounds-from_record-end
slice_bounds-from_record-end c = omega (arith, within-found c.args.img.now c.args.located c.requires c.in-Found.p c.in-Found.is)

pub returns-in-Absent : goal.returns-in-Absent
returns-in-Absent c = located-none c.args.img.now c.args.located c.args.a c.args.b c.in-Absent.field-0 c.in-Absent.is

pub returns-in-Found : goal.returns-in-Found
returns-in-Found c =
    located_record c.args.img.now c.args.located c.args.a c.args.b c.in-Found.p c.in-Found.is refl
    c.from_record.ensures
