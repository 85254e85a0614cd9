-- The worked cases, by computing the definitions.
use Prim.Native.Nat.{ℕ}
use mathlib.Core.List.{List, [], ◌∷◌, ◌++◌, map, map-append}
use mathlib.Core.Path.{◌≡◌, refl, sym, ◌∙◌}
use lib.IntN.{pos, negsuc, pos-ne-negsuc}
use Rattle.words.specs.Numbers.{le}
use Rattle.settings.specs.Worked.{fields_x, block_with}
use Rattle.std.specs.Prelude.{Some, Ok, Err}
use Rattle.pairs.specs.declared.AskError.TheVariants as ask
use Rattle.pairs.specs.Pairs.{record_delay, record_fits?}
use Rattle.pairs.specs.Delays.{Asked, from_record, asked_reply}
use Rattle.pairs.proofs.Answering.{record_yes, wrong-number}
use Rattle.worked.specs.Everything.{everything}
use Rattle.worked.specs.Worked.{block_x, Case, reply_numbers, got, due, earlier}
use Rattle.worked.specs.WorkedHome.{going_home}
use Rattle.worked.specs.WorkedQuick.{quick_sound, quick_damaged, quick_asks, quick_delays, quickly}
use Rattle.worked.specs.WorkedSame.{same_map, cases}

-- two lists whose cases are right make one
joined : (xs ys : List Case) → map got xs ≡ map due xs → map got ys ≡ map due ys → map got (xs ++ ys) ≡ map due (xs ++ ys)
joined xs ys ex ey = map-append got xs ys ∙ (λ i. ex i ++ ey i) ∙ sym (map-append due xs ys)

worked-earlier : map got earlier ≡ map due earlier
unfolding everything fields_x block_with block_x earlier
worked-earlier = refl

worked-home : map got going_home ≡ map due going_home
unfolding everything fields_x block_with block_x going_home
worked-home = refl

-- ---- request A9: of a record of four bytes a law says whether it is a delay, and all else is computed

abbrev sixteen : List ℕ
sixteen = 16 ∷ 0 ∷ 0 ∷ 0 ∷ []

abbrev most : List ℕ
most = 0 ∷ 0 ∷ 0 ∷ 128 ∷ []

abbrev read : ℕ → ℕ → List ℕ → Asked
read a b r = from_record a b r (record_fits? r)

abbrev says : Asked → List ℕ
says x = reply_numbers (asked_reply x)

first-order : Ok (Some (pos 16)) ≡ read 1 2 sixteen
unfolding record_delay le
first-order = record_yes 1 2 sixteen (refl, pos-ne-negsuc 16 2147483647)

other-order : Ok (Some (negsuc 15)) ≡ read 2 1 sixteen
unfolding record_delay le
other-order = record_yes 2 1 sixteen (refl, pos-ne-negsuc 16 2147483647)

no-delay : Err ask.BadDelay ≡ read 1 2 most
unfolding le
no-delay = wrong-number 1 2 most 2147483648 refl refl

worked_quick : map got quickly ≡ map due quickly
unfolding everything fields_x block_with block_x quick_sound quick_damaged quick_asks quick_delays quickly
worked_quick =
    sym (λ i. map due (quick_sound ++ quick_damaged ++ quick_asks)
    ++ (says (first-order i) ∷ says (other-order i) ∷ says (other-order i) ∷ says (no-delay i) ∷ []))

-- ---- request A14

worked_same : map got same_map ≡ map due same_map
unfolding everything fields_x block_with block_x same_map
worked_same = refl

pub worked : map got cases ≡ map due cases
unfolding cases
worked =
    joined (earlier ++ going_home ++ quickly) same_map
    (joined (earlier ++ going_home) quickly (joined earlier going_home worked-earlier worked-home) worked_quick) worked_same
