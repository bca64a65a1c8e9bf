-- Numbers that are written in digits are read back.
use Rattle.std.proofs.Common.{◌≡◌, ℕ, ◌+◌, ◌-◌, ◌*◌, ◌/◌, ◌%◌, ◌≤◌, ◌<◌, cond, true, false, ltb, List, [], ◌∷◌, ◌++◌, length, refl, ap, ◌∙◌, Some, None, arith}
use Rattle.std.specs.Prelude.{◌&&◌, nat_le, slice_index}
use Rattle.std.specs.Char.{digit_value}
use Rattle.std.specs.List.{list_all}
use Rattle.std.proofs.lemmas.Str.{digit_value_digit}
use Rattle.std.proofs.lemmas.Bool.{and_from, le-leb, lt-leb, ltb-true, cond_both}
use Rattle.mvt_grammar.specs.Bytes.{is_capital, is_digit, two_digits}
use Rattle.std.specs.Str.Parse.{digits_value}
use Rattle.mvt_grammar.specs.Canonical.{digit, two_text, number_text}
use Rattle.mvt_grammar.specs.Flights.{is_number}

-- the value of a digit that writes a number
value_of : (n : ℕ) → n ≤ 9 → digit_value (digit n) ≡ n
value_of n h =
    let counts = digit_value_digit (48 + n) (omega arith, omega arith) in
    omega (arith, counts)

digit_is : (n : ℕ) → n ≤ 9 → is_digit (digit n) ≡ true
digit_is n h = and_from (nat_le 48 (48 + n)) (nat_le (48 + n) 57) (le-leb 48 (48 + n) (omega arith)) (le-leb (48 + n) 57 (omega arith))

pub digit-not_capital : (n : ℕ) → n ≤ 9 → is_capital (digit n) ≡ false
digit-not_capital n h = ap (λ t. t && nat_le (48 + n) 90) (lt-leb 65 (48 + n) (omega arith))

pub two_text-digits : (n : ℕ) → n < 100 → list_all is_digit (two_text n) ≡ true
two_text-digits n h = and_from (is_digit (digit (n / 10))) (is_digit (digit (n % 10)) && true) (digit_is (n / 10) (omega arith)) (and_from (is_digit (digit (n % 10))) true (digit_is (n % 10) (omega arith)) refl)

pub two_digits-back : (n : ℕ) → n < 100 → two_digits (two_text n) ≡ Some n
two_digits-back n h =
    let value : 10 * ((48 + n / 10) - 48) + ((48 + n % 10) - 48) ≡ n = omega arith in
    ap (λ t. cond t (Some (10 * ((48 + n / 10) - 48) + ((48 + n % 10) - 48))) None) (two_text-digits n h) ∙ ap Some value

-- what holds of a text that writes a number
pub record Writes (n : ℕ) (text : List ℕ) : Type 0 where
  pub form : is_number text ≡ true
  pub value : digits_value 10 text ≡ n
  pub digits : list_all is_digit text ≡ true
  pub first : is_capital (slice_index text 0) ≡ false
  pub last : is_capital (slice_index text (length text - 1)) ≡ false

digits_one : (a : ℕ) → a ≤ 9 → list_all is_digit (digit a ∷ []) ≡ true
digits_one a h = and_from (is_digit (digit a)) true (digit_is a h) refl

digits_more : (a : ℕ) (text : List ℕ) → a ≤ 9 → list_all is_digit text ≡ true → list_all is_digit (digit a ∷ text) ≡ true
digits_more a text h k = and_from (is_digit (digit a)) (list_all is_digit text) (digit_is a h) k

writes_one : (n : ℕ) → n < 10 → Writes n (digit n ∷ [])
writes_one n h = let a : n ≤ 9 = omega arith in record {
  form = digits_one n a;
  value = rw (value_of n a) (omega arith);
  digits = digits_one n a;
  first = digit-not_capital n a;
  last = digit-not_capital n a;
}

writes_two : (n : ℕ) → n < 100 → Writes n (two_text n)
writes_two n h = record {
  form = two_text-digits n h;
  value = rw (value_of (n / 10) (omega arith), value_of (n % 10) (omega arith)) (omega arith);
  digits = two_text-digits n h;
  first = digit-not_capital (n / 10) (omega arith);
  last = digit-not_capital (n % 10) (omega arith);
}

writes_three : (n : ℕ) → n < 1000 → Writes n (digit (n / 100) ∷ two_text (n % 100))
writes_three n h =
    let first : n / 100 ≤ 9 = omega arith in
    let rest : n % 100 < 100 = omega arith in
    let digits = digits_more (n / 100) (two_text (n % 100)) first (two_text-digits (n % 100) rest) in
    record {
      form = digits;
      value = rw (value_of (n / 100) first, value_of (n % 100 / 10) (omega arith), value_of (n % 100 % 10) (omega arith)) (omega arith);
      digits = digits;
      first = digit-not_capital (n / 100) first;
      last = digit-not_capital (n % 100 % 10) (omega arith);
    }

writes_four : (n : ℕ) → n < 10000 → Writes n (two_text (n / 100) ++ two_text (n % 100))
writes_four n h =
    let front : n / 100 < 100 = omega arith in
    let rest : n % 100 < 100 = omega arith in
    let digits = digits_more (n / 100 / 10) (digit (n / 100 % 10) ∷ two_text (n % 100)) (omega arith) (digits_more (n / 100 % 10) (two_text (n % 100)) (omega arith) (two_text-digits (n % 100) rest)) in
    record {
      form = digits;
      value = rw (value_of (n / 100 / 10) (omega arith), value_of (n / 100 % 10) (omega arith), value_of (n % 100 / 10) (omega arith), value_of (n % 100 % 10) (omega arith)) (omega arith);
      digits = digits;
      first = digit-not_capital (n / 100 / 10) (omega arith);
      last = digit-not_capital (n % 100 % 10) (omega arith);
    }

pub Writes-number_text : (n : ℕ) → n < 10000 → Writes n (number_text n)
Writes-number_text n h =
    let most = two_text (n / 100) ++ two_text (n % 100) in
    let three = digit (n / 100) ∷ two_text (n % 100) in
    let one = digit n ∷ [] in
    cond_both (ltb n 10) one (cond (ltb n 100) (two_text n) (cond (ltb n 1000) three most)) (Writes n) (λ e. writes_one n (ltb-true n 10 e)) (λ _.
    cond_both (ltb n 100) (two_text n) (cond (ltb n 1000) three most) (Writes n) (λ e. writes_two n (ltb-true n 100 e)) (λ _.
    cond_both (ltb n 1000) three most (Writes n) (λ e. writes_three n (ltb-true n 1000 e)) (λ _. writes_four n h)))
