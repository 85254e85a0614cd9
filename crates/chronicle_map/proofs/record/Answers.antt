use mathlib.Core.Path.{ap, ◌∙◌}
use native.Mathlib.Omega.{arith}
use Rattle.std.specs.Prelude.{Ok}
use Rattle.chronicle_map.proofs.Calling.{record_within, record_found, record_absent, record_refused}
use Rattle.chronicle_map.proofs.record.Goals as goal

pub overflow_add-to : goal.overflow_add-to
overflow_add-to c =
    omega (
      arith,
      record_within c.args.block.now c.args.img.now c.args.key.now c.lookup.result c.lookup.ensures
          (λ i. omega (arith, c.type_inv.img i)) c.in-Ok-Found.p (c.in-Ok-Found.is ∙ ap Ok c.in-Ok-Found.field-0-is),
    )

pub slice_bounds-result-end : goal.slice_bounds-result-end
slice_bounds-result-end c =
    omega (
      arith,
      record_within c.args.block.now c.args.img.now c.args.key.now c.lookup.result c.lookup.ensures
          (λ i. omega (arith, c.type_inv.img i)) c.in-Ok-Found.p (c.in-Ok-Found.is ∙ ap Ok c.in-Ok-Found.field-0-is),
    )

pub returns-in-Ok-Found : goal.returns-in-Ok-Found
returns-in-Ok-Found c =
    record_found c.args.block.now c.args.img c.args.key.now c.lookup.result c.lookup.ensures c.in-Ok-Found.p
    (c.in-Ok-Found.is ∙ ap Ok c.in-Ok-Found.field-0-is)

pub returns-in-Ok-Absent : goal.returns-in-Ok-Absent
returns-in-Ok-Absent c =
    record_absent c.args.block.now c.args.img c.args.key.now c.lookup.result c.lookup.ensures c.in-Ok-Absent.field-0-0
    (c.in-Ok-Absent.is ∙ ap Ok c.in-Ok-Absent.field-0-is)

pub returns-in-Err : goal.returns-in-Err
returns-in-Err c = record_refused c.args.block.now c.args.img c.args.key.now c.lookup.result c.lookup.ensures c.in-Err.field-0 c.in-Err.is
