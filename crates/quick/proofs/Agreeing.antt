-- On an accepted image the quick lookup answers as the checked one.
use Prim.Native.Nat.{ℕ}
use mathlib.Core.List.{List}
use mathlib.Core.Path.{◌≡◌, refl, ap, sym, ◌∙◌, subst}
use Rattle.std.specs.Prelude.{Ok}
use Rattle.words.specs.Bytes.{Bytes}
use Rattle.layout.specs.declared.Shape.{Shape}
use Rattle.layout.proofs.Frames.{shape-settings}
use Rattle.settings.specs.Rules.{Valid}
use Rattle.entries.specs.Keys.{key_fits?}
use Rattle.search.specs.declared.Found.{Found}
use Rattle.search.specs.declared.Found.TheVariants as found
use Rattle.search.specs.Search.{search}
use Rattle.walk.proofs.Agreeing.{walk_end, walk-search}
use Rattle.edit.specs.Edits.{find}
use Rattle.image.specs.Check.{counts_of}
use Rattle.std.specs.Prelude.{Ok}
use Rattle.chronicle_map.specs.Calls.{from_find, lookup}
use Rattle.chronicle_map.specs.Demands.{shape}
use Rattle.chronicle_map.proofs.Asking.{key-wrong, key_right}
use Rattle.chronicle_map.proofs.Accepting.{Holds, holds-ready, accepted-holds}
use Rattle.chronicle_map.proofs.Calling.{looked-none, looked-found, lookup-refused, lookup-ready}
use Rattle.quick.specs.Quick.{opened, from_walk, quick_lookup}
use Rattle.quick.specs.Claims.{QuickLookups}
use Rattle.quick.proofs.Opening.{fits-opened}
use Rattle.quick.proofs.Answering.{quick_bad-key, quick_walked, quick_answers}

module _ (block img : List ℕ) (h : Holds block img) where
  abbrev z : Shape
  z = shape block img

  pub holds_opened : opened block img ≡ Ok z
  holds_opened =
      fits-opened block img h.block_fits (subst Valid (shape-settings _ img) h.sound.fits.valid) h.sound.fits.frame

  module _ (key : List ℕ) where
    found_as : (r : Found) → search z img key ≡ r → from_walk (walk_end z img r) ≡ Ok (from_find z img key (find z img key))
    unfolding from_walk
    found_as (found.At t j) e = ap Ok (looked-found z img h.sound key (found.At t j) (sym e) t j refl refl)
    found_as (found.Absent t j) e = ap Ok (looked-none z img h.sound key (found.Absent t j) (sym e) t j refl)

    pub quick_agrees : quick_lookup block img key ≡ lookup block img key
    quick_agrees =
        elim (key_fits? z.settings key) [
          | no n ↦ sym (quick_bad-key block img key refl z holds_opened n)
              ∙ lookup-refused block img key refl _ (sym (key-wrong block img key _ refl z (counts_of z img) (holds-ready block img h) n))
          | yes k ↦ sym (quick_walked block img key refl z holds_opened k refl refl)
              ∙ ap from_walk (walk-search z img h.sound key) ∙ found_as (search z img key) refl
              ∙ lookup-ready block img key refl z (counts_of z img) (sym (key_right block img key _ refl z (counts_of z img) (holds-ready block img h) k)) refl
        ]

-- the request's theorem
pub quick_lookups : (block img : List ℕ) → Bytes img → QuickLookups block img
quick_lookups block img b =
    record { answers = quick_answers block img; as_checked = λ a key. quick_agrees block img (accepted-holds block img b a) key }
