use mathlib.Core.Path.{ap, ◌∙◌}
use Rattle.chronicle_map.specs.Calls.{lookup_numbers}
use Rattle.chronicle_map_c.proofs.chronicle_map_lookup.Goals as goal

pub returns : goal.returns
returns c = c.tell_place.ensures ∙ ap lookup_numbers c.lookup.ensures
