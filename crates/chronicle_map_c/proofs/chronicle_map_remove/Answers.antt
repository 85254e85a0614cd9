use Rattle.chronicle_map_c.proofs.Telling.{edited}
use Rattle.chronicle_map_c.proofs.chronicle_map_remove.Goals as goal

pub returns : goal.returns
returns c = let e = edited c.edit_number.ensures c.remove.ensures in record { number = e.0; image = e.1 }
