-- Numbers, names and keys that are written are read back.
use Rattle.std.proofs.Common.{◌≡◌, ℕ, ◌<◌, ◌≤◌, ◌^◌, ◌==◌, true, false, cond, List, [], ◌∷◌, length, decimal, refl, arith, Option, None, Some, IfSome, SomeIff}
use Rattle.std.specs.Prelude.{◌&&◌, nat_le}
use Rattle.std.specs.Char.{is_ascii_digit}
use Rattle.std.specs.List.{list_all}
use Rattle.std.specs.Str.Parse.{AllDigits}
use Rattle.std.proofs.lemmas.Bool.{and_from, le-leb}
use Rattle.std.proofs.lemmas.Bool.Decides.{nat_tests}
use Rattle.std.proofs.lemmas.Fmt.{decimal_is_IsNumeral, decimal_nonempty, length-decimal-le}
use Rattle.std.proofs.lemmas.Str.Parse.{digit_from_value}
use Rattle.apron_base.specs.Digits.{are_digits, number_of}
use Rattle.apron_base.specs.Name.{IsName, is_name}
use Rattle.apron_base.proofs.NameTests.{name_decides}
use Rattle.mvt_grammar.specs.Flights.{flight_of}
use Rattle.mvt_grammar.specs.declared.message.Flight.{Flight}
use Rattle.mvt_grammar.proofs.FlightsBack.{flight_of-back}
use Rattle.visit_book.specs.NewVisits.{HasFlight}
use Rattle.visit_book.specs.declared.visits.Key.{Key}
use Rattle.season_files.specs.Records.{if_name, key_named, number_named, small_named}
use Rattle.season_files.specs.Texts.{day_field, flight_field}

pub name-back : (text : List ℕ) → IsName text → if_name text ≡ Some text
name-back text h = rw ((name_decides text).1 h) refl

all_digits : (ds : List ℕ) → AllDigits 10 ds → list_all is_ascii_digit ds ≡ true
all_digits [] h = refl
all_digits (d ∷ ds) h =
    let range = digit_from_value d h.0 in
    let here : is_ascii_digit d ≡ true = grind (arith, nat_tests) in
    and_from (is_ascii_digit d) (list_all is_ascii_digit ds) here (all_digits ds h.1)

pub number-back : (n : ℕ) → n < 10 ^ 9 → number_named (decimal n) ≡ Some n
unfolding number_of
number-back n h =
    let wide : n < 2 ^ 64 = omega arith in
    let numeral = decimal_is_IsNumeral n wide in
    let some : 1 ≤ length (decimal n) = omega (arith, decimal_nonempty n wide) in
    let few : length (decimal n) ≤ 9 = length-decimal-le 9 n (omega arith) h wide in
    let digits : are_digits (decimal n) 9 ≡ true =
    and_from (nat_le 1 (length (decimal n)) && nat_le (length (decimal n)) 9) (list_all is_ascii_digit (decimal n))
    (and_from (nat_le 1 (length (decimal n))) (nat_le (length (decimal n)) 9) (le-leb 1 _ some) (le-leb _ 9 few)) (all_digits (decimal n) numeral.0.1) in
    rw (digits, numeral.1) refl

pub small-back : (most n : ℕ) → n ≤ most → n < 10 ^ 9 → small_named most (decimal n) ≡ Some n
small-back most n h k = rw (number-back n k, le-leb n most h) refl

-- a text that is read as a flight isn't empty
some_text : (text : List ℕ) (flight : Flight) → flight_of text ≡ Some flight → (length text == 0) ≡ false
some_text [] flight h = absurd (cc)
some_text (b ∷ text) flight h = grind (arith, nat_tests)

pub key-back : (key : Option Key) → IfSome key HasFlight → IfSome key (λ key. key.day ≤ 255) → key_named (flight_field key) (day_field key) ≡ Some key
key-back None h k = refl
key-back (Some key) h k =
    let read = flight_of-back key.flight h in
    rw (some_text _ key.flight read, read, small-back 255 key.day k (omega arith)) refl

-- a text that has the property of a name passes the test of one
pub named : (text : List ℕ) (o : Option (List ℕ)) → SomeIff o (IsName text) text → o ≡ if_name text
named text None h =
    elim (is_name text) as (λ b. is_name text ≡ b → None ≡ cond b (Some text) None)
    [ true ↦ λ e. absurd (h ((name_decides text).0 e)) | false ↦ λ e. refl ] refl
named text (Some name) h = rw ((name_decides text).1 h.0, h.1) refl
