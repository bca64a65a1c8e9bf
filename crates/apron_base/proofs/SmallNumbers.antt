-- Numbers of few digits are small.
use Rattle.std.proofs.Common.{◌≡◌, ◌<◌, ◌≤◌, ◌^◌, ℕ, List, [], ◌∷◌, length, true, arith, lit<}
use Rattle.std.specs.Char.{is_ascii_digit}
use Rattle.std.specs.List.{list_all}
use Rattle.std.specs.Prelude.{◌&&◌, nat_le}
use Rattle.std.specs.Str.Parse.{AllDigits, digits_value}
use Rattle.std.proofs.Math.Nat.{pow-le-pow_right}
use Rattle.std.proofs.lemmas.Bool.{and_parts, leb-true}
use Rattle.std.proofs.lemmas.Int.Digits.{digits_value-lt}
use Rattle.std.proofs.lemmas.Str.{digit_value_digit}
use Rattle.apron_base.specs.Digits.{are_digits}

-- a number below a power of ten is below each greater one
pub small_within : (number fewer most : ℕ) → number < 10 ^ fewer → fewer ≤ most → number < 10 ^ most
small_within number fewer most small few =
    let grown : 10 ^ fewer ≤ 10 ^ most = pow-le-pow_right {n = 10} (lit< tt) few in
    omega (arith, small, grown)

all_digits : (text : List ℕ) → list_all is_ascii_digit text ≡ true → AllDigits 10 text
all_digits [] h = tt
all_digits (c ∷ cs) h =
    let both = and_parts (is_ascii_digit c) (list_all is_ascii_digit cs) h in
    let range = and_parts (nat_le 48 c) (nat_le c 57) both.0 in
    let low = leb-true 48 c range.0 in
    let high = leb-true c 57 range.1 in
    let counts = digit_value_digit c (low, high) in
    (omega (arith, counts, high), all_digits cs both.1)

-- this many digits write a number below that power of ten
pub digits_small : (text : List ℕ) (most : ℕ) → are_digits text most ≡ true → digits_value 10 text < 10 ^ most
digits_small text most h =
    let both = and_parts (nat_le 1 (length text) && nat_le (length text) most) (list_all is_ascii_digit text) h in
    let few = and_parts (nat_le 1 (length text)) (nat_le (length text) most) both.0 in
    small_within (digits_value 10 text) (length text) most (digits_value-lt 10 text (all_digits text both.1)) (leb-true (length text) most few.1)
