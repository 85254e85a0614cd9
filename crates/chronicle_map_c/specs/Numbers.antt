-- What each exported function answers, in numbers, and the image on return.
use Rattle.std.specs.Prelude.{ℕ, List, ℤ}
use Rattle.image.specs.Check.{check, verdict_numbers}
use Rattle.image.specs.List.{entry, listed_numbers}
use Rattle.edit.specs.declared.Policy.{Policy}
use Rattle.chronicle_map.specs.Calls.{lookup, lookup_numbers, answer_number, store, remove, grow}
use Rattle.quick.specs.Quick.{quick_lookup}
use Rattle.pairs.specs.Quick.{quick_delay}
use Rattle.pairs.specs.Delays.{delay, Reply, asked_reply, set_delay, set_number}

-- ---- the number that is returned, then those of the out array

abbrev pub check_answer : List ℕ → List ℕ → List ℕ
check_answer block img = verdict_numbers (check block img)

abbrev pub lookup_answer : List ℕ → List ℕ → List ℕ → List ℕ
lookup_answer block img key = lookup_numbers (lookup block img key)

abbrev pub quick_lookup_answer : List ℕ → List ℕ → List ℕ → List ℕ
quick_lookup_answer block img key = lookup_numbers (quick_lookup block img key)

abbrev pub entry_answer : List ℕ → List ℕ → ℕ → List ℕ
entry_answer block img n = listed_numbers (entry block img n)

-- the number that is returned, and the delay that is written
abbrev pub delay_answer : List ℕ → List ℕ → ℕ → ℕ → Reply
delay_answer block img a b = asked_reply (delay block img a b)

abbrev pub quick_delay_answer : List ℕ → List ℕ → ℕ → ℕ → Reply
quick_delay_answer block img a b = asked_reply (quick_delay block img a b)

-- ---- the number that is returned, and every byte of the image on return

abbrev pub store_answer : Policy → List ℕ → List ℕ → List ℕ → List ℕ → ℕ
store_answer policy block img key value = answer_number (store policy block img key value).answer

abbrev pub store_leaves : Policy → List ℕ → List ℕ → List ℕ → List ℕ → List ℕ
store_leaves policy block img key value = (store policy block img key value).image

abbrev pub remove_answer : List ℕ → List ℕ → List ℕ → ℕ
remove_answer block img key = answer_number (remove block img key).answer

abbrev pub remove_leaves : List ℕ → List ℕ → List ℕ → List ℕ
remove_leaves block img key = (remove block img key).image

abbrev pub grow_answer : List ℕ → List ℕ → ℕ
grow_answer block img = answer_number (grow block img).answer

abbrev pub grow_leaves : List ℕ → List ℕ → List ℕ
grow_leaves block img = (grow block img).image

abbrev pub set_delay_answer : List ℕ → List ℕ → ℕ → ℕ → ℤ → ℕ
set_delay_answer block img a b d = set_number (set_delay block img a b d).answer

abbrev pub set_delay_leaves : List ℕ → List ℕ → ℕ → ℕ → ℤ → List ℕ
set_delay_leaves block img a b d = (set_delay block img a b d).image
