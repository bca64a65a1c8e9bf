-- A record of fields without marks is written as it is, with commas and LF.
use Rattle.std.proofs.Common.{◌≡◌, ℕ, ◌<◌, ◌≤◌, ◌^◌, true, false, Bool, List, [], ◌∷◌, ◌++◌, decimal, refl, ap, arith, Option, Some, None}
use Rattle.std.specs.Prelude.{IfSome}
use Rattle.std.specs.List.{join_with_byte, list_all, list_any}
use Rattle.std.specs.Str.Parse.{AllDigits}
use Rattle.std.proofs.lemmas.Bool.{and_parts}
use Rattle.std.proofs.lemmas.Bool.Decides.{nat_tests}
use Rattle.std.proofs.lemmas.Fmt.{decimal_is_IsNumeral}
use Rattle.std.proofs.lemmas.List.{append-nil}
use Rattle.std.proofs.lemmas.Str.Parse.{digit_from_value}
use Rattle.apron_base.specs.Name.{IsName, is_name_byte}
use Rattle.apron_base.proofs.NameTests.{name_bytes_decide}
use Rattle.csv.specs.Writing.{default_writer, fields_text, is_blank, needs_byte, row_text}
use Rattle.mvt_grammar.specs.Canonical.{flight_text}
use Rattle.mvt_grammar.specs.Flights.{is_airline_byte}
use Rattle.mvt_grammar.proofs.FlightsBack.{flight_text-bytes}
use Rattle.visit_book.specs.NewVisits.{HasFlight}
use Rattle.visit_book.specs.declared.visits.Key.{Key}
use Rattle.season_files.specs.Texts.{day_field, flight_field, line}

-- no byte of the field calls for quotes
abbrev pub IsPlain : List ℕ → Type 0
IsPlain field = list_any (needs_byte default_writer) field ≡ false

abbrev pub ArePlain : List (List ℕ) → Type 0
ArePlain [] = Unit {0}
ArePlain (field ∷ rest) = IsPlain field × ArePlain rest

-- a byte from - on, as digits and capitals are
plain_byte : (b : ℕ) → 45 ≤ b → needs_byte default_writer b ≡ false
plain_byte b h = grind (arith, nat_tests)

-- bytes of a form in which all are from - on
plain-by : (form : ℕ → Bool) → ((b : ℕ) → form b ≡ true → 45 ≤ b) → (text : List ℕ) → list_all form text ≡ true → IsPlain text
plain-by form least [] h = refl
plain-by form least (b ∷ text) h =
    let parts = and_parts (form b) (list_all form text) h in
    rw (plain_byte b (least b parts.0), plain-by form least text parts.1) refl

name_byte-least : (b : ℕ) → is_name_byte b ≡ true → 45 ≤ b
name_byte-least b h = grind (arith, nat_tests)

airline_byte-least : (b : ℕ) → is_airline_byte b ≡ true → 45 ≤ b
airline_byte-least b h = grind (arith, nat_tests)

digits-plain : (ds : List ℕ) → AllDigits 10 ds → IsPlain ds
digits-plain [] h = refl
digits-plain (d ∷ ds) h =
    let here = plain_byte d (omega (arith, digit_from_value d h.0)) in
    rw (here, digits-plain ds h.1)

pub decimal-plain : (n : ℕ) → n < 2 ^ 64 → IsPlain (decimal n)
decimal-plain n h = digits-plain (decimal n) (decimal_is_IsNumeral n h).0.1

pub name-plain : (text : List ℕ) → IsName text → IsPlain text
name-plain text h = plain-by is_name_byte name_byte-least text ((name_bytes_decide text).1 h.each)

pub flight-plain : (key : Option Key) → IfSome key HasFlight → IsPlain (flight_field key)
flight-plain None h = refl
flight-plain (Some key) h = plain-by is_airline_byte airline_byte-least (flight_text key.flight) (flight_text-bytes key.flight h)

pub day-plain : (key : Option Key) → IfSome key (λ key. key.day < 2 ^ 64) → IsPlain (day_field key)
day-plain None h = refl
day-plain (Some key) h = decimal-plain key.day h

fields-plain : (field : List ℕ) (rest : List (List ℕ)) → ArePlain rest → field ++ fields_text default_writer rest ≡ join_with_byte 44 (field ∷ rest)
unfolding fields_text
fields-plain field [] h = append-nil field
fields-plain field (next ∷ rest) h = rw h.0 (ap (λ t. field ++ 44 ∷ t) (fields-plain next rest h.1))

-- a record of two fields or more
pub row-plain : (first next : List ℕ) (rest : List (List ℕ)) → ArePlain (first ∷ next ∷ rest) → row_text default_writer (first ∷ next ∷ rest) ≡ line (first ∷ next ∷ rest)
unfolding is_blank
row-plain first next rest h = rw h.0 (ap (λ t. t ++ 10 ∷ []) (fields-plain first (next ∷ rest) h.1))
