use mathlib.Core.Path.{◌∙◌}
use native.Mathlib.Omega.{arith}
use Rattle.growing.proofs.Loops.{framed-extra, emptied}
use Rattle.growing.proofs.empty_tier.Goals as goal

pub put_shared-requires : goal.put_shared-requires
put_shared-requires c = framed-extra c.empty_slots.auto.img c.requires

pub put_counter-requires : goal.put_counter-requires
put_counter-requires c = framed-extra (c.put_shared.auto.img ∙ c.empty_slots.auto.img) c.requires

pub put_shared-requires-2 : goal.put_shared-requires-2
put_shared-requires-2 c = framed-extra (c.put_counter.auto.img ∙ c.put_shared.auto.img ∙ c.empty_slots.auto.img) c.requires

pub put_counter-requires-2 : goal.put_counter-requires-2
put_counter-requires-2 c = framed-extra (c.put_shared-2.auto.img ∙ c.put_counter.auto.img ∙ c.put_shared.auto.img ∙ c.empty_slots.auto.img) c.requires

pub put_counter-requires-3 : goal.put_counter-requires-3
put_counter-requires-3 c =
    framed-extra (c.put_counter-2.auto.img ∙ c.put_shared-2.auto.img ∙ c.put_counter.auto.img
    ∙ c.put_shared.auto.img ∙ c.empty_slots.auto.img) c.requires

pub put_shared-requires-3 : goal.put_shared-requires-3
put_shared-requires-3 c =
    framed-extra (c.put_counter-3.auto.img ∙ c.put_counter-2.auto.img ∙ c.put_shared-2.auto.img ∙ c.put_counter.auto.img
    ∙ c.put_shared.auto.img ∙ c.empty_slots.auto.img) c.requires

pub put_marks-requires : goal.put_marks-requires
put_marks-requires c =
    let fits = framed-extra (c.put_shared-3.auto.img ∙ c.put_counter-3.auto.img ∙ c.put_counter-2.auto.img ∙ c.put_shared-2.auto.img
    ∙ c.put_counter.auto.img ∙ c.put_shared.auto.img ∙ c.empty_slots.auto.img) c.requires in
    (record { framed = fits.0; tier = fits.1; within = omega arith }, omega arith)

pub returns : goal.returns
returns c =
    emptied c.args.z c.args.img.now c.args.t c.args.after c.requires.extra_in
    c.empty_slots.ensures c.put_shared.ensures c.put_counter.ensures c.put_shared-2.ensures
    c.put_counter-2.ensures c.put_counter-3.ensures c.put_shared-3.ensures c.put_marks.ensures
