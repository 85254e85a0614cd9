-- A number's digits as std and `itoa` write them are its decimals.
use Rattle.std.proofs.Common.{◌≡◌, ℕ, suc, ◌^◌, ◌≤◌, ◌<◌, List, length, sym, subst, arith}
use Rattle.std.proofs.lemmas.Fmt.{AppendsLastDigit, decimal_from_appends, length-decimal-le, length-decimal-le_succ}
use Rattle.std.specs.Fmt.{decimal as std_decimal}
use borrow.Author.Tests.{lt-ltb, le-ltb}
use Rattle.text.specs.Text.{digits, decimal}

digits-append : AppendsLastDigit digits
unfolding digits
digits-append = record {
  one = λ k n h. rw (lt-ltb n 10 h, digits);
  more = λ k n h. rw (le-ltb n 10 h, digits);
}

pub decimal-std : (n : ℕ) → n < 2 ^ 64 → std_decimal n ≡ decimal n
unfolding decimal
decimal-std n h = sym (decimal_from_appends digits digits-append (suc n) n h (omega (arith, length-decimal-le_succ n h)))

pub decimal-short : (n : ℕ) → n < 2 ^ 64 → length (decimal n) ≤ 20
decimal-short n h = subst (λ (s : List ℕ). length s ≤ 20) (decimal-std n h) (length-decimal-le 20 n (omega arith) (omega arith) h)
