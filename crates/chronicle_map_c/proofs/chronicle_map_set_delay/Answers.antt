use mathlib.Core.Path.{ap, ◌∙◌}
use mir.Syntax.{w32}
use mir.ValLaws.{to_z-of_z}
use Rattle.pairs.specs.Delays.{set_delay}
use Rattle.chronicle_map_c.proofs.Telling.{delay-set}
use Rattle.chronicle_map_c.proofs.chronicle_map_set_delay.Goals as goal

pub returns : goal.returns
returns c =
    let e = delay-set c.edit_number.ensures
    (c.set_delay.ensures ∙ ap (set_delay c.args.block.now c.args.img.now c.args.a c.args.b) (to_z-of_z w32 c.args.delay c.ranges.delay)) in
    record { number = e.0; image = e.1 }
