use mathlib.Core.Path.{sym, ◌∙◌}
use Rattle.sound.proofs.Sound.{sound-image}
use Rattle.growing.proofs.Reshaped.{room-framed}
use Rattle.chronicle_map.proofs.Calling.{grow-full, grow-done}
use Rattle.chronicle_map.proofs.grow_accepted.Goals as goal

pub returns-then-no_bulk : goal.returns-then-no_bulk
returns-then-no_bulk c = grow-full c.args.z c.args.img.now c.no_bulk.ensures c.if-no_bulk.true

pub grow-requires : goal.grow-requires
grow-requires c = room-framed c.args.z (sound-image _ _ c.requires).framed (sym c.no_bulk.ensures ∙ c.if-no_bulk.false)

pub returns : goal.returns
returns c = grow-done c.args.z c.args.img.now c.no_bulk.ensures c.if-no_bulk.false c.grow.ensures
