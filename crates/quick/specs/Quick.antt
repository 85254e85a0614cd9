-- The quick lookup: settings, frame and key are tested, and then the walk answers. 2, 3, 4, 8, then 0, 1 or 18.
use Rattle.std.specs.Prelude.{ℕ, List, Result, Ok, Err, Option, ok_or}
use Rattle.lists.specs.Decide.{choose}
use Rattle.settings.specs.declared.Settings.{Settings}
use Rattle.settings.specs.declared.ParseError.{ParseError}
use Rattle.settings.specs.Block.{parse}
use Rattle.layout.specs.declared.Shape.{Shape}
use Rattle.layout.specs.Frame.{frame_of}
use Rattle.entries.specs.Keys.{KeyFits, key_fits?}
use Rattle.walk.specs.declared.Broken.{Broken as WalkBroken}
use Rattle.walk.specs.declared.WalkEnd.{WalkEnd}
use Rattle.walk.specs.declared.WalkEnd.TheVariants as end
use Rattle.walk.specs.Walk.{walk}
use Rattle.image.specs.declared.Stage.{Stage}
use Rattle.image.specs.declared.Stage.TheVariants as stage
use Rattle.image.specs.Check.{stage_of}
use Rattle.chronicle_map.specs.declared.Located.{Located}
use Rattle.chronicle_map.specs.declared.Located.TheVariants as looked

-- ---- settings and frame: the shape of the image, or the lowest of 2, 3 and 4 that applies

abbrev pub Opened : Type 0
Opened = Result Shape Stage

unfoldable pub opened_frame : Option Shape → Opened
opened_frame f = ok_or f stage.Frame

unfoldable pub opened_block : List ℕ → Result Settings ParseError → Opened
opened_block img (Err e) = Err (stage_of e)
opened_block img (Ok st) = opened_frame (frame_of st img)

unfoldable pub opened : List ℕ → List ℕ → Opened
opened block img = opened_block img (parse block)

-- ---- the key, and the walk

-- offset, length, tier and slot as a lookup answers them; 18 where the walk met something broken
unfoldable pub from_walk : Result WalkEnd WalkBroken → Result Located Stage
from_walk (Ok (end.Found t j e)) = Ok (looked.Found (record { offset = e.valueAt; length = e.valueLength; tier = t; slot = j }))
from_walk (Ok (end.Absent t j)) = Ok (looked.Absent (record { tier = t; slot = j }))
from_walk (Err _) = Err stage.Walk

unfoldable pub quick_key : (z : Shape) (img key : List ℕ) → Dec (KeyFits z.settings key) → Result Located Stage
quick_key z img key d = choose d (λ _. Err stage.Key) (λ _. from_walk (walk z img key))

unfoldable pub after_opened : List ℕ → List ℕ → Opened → Result Located Stage
after_opened img key (Err s) = Err s
after_opened img key (Ok z) = quick_key z img key (key_fits? z.settings key)

unfoldable pub quick_lookup : List ℕ → List ℕ → List ℕ → Result Located Stage
quick_lookup block img key = after_opened img key (opened block img)
