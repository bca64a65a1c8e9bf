-- A flight that is written is read back.
use Rattle.std.proofs.Common.{◌≡◌, ℕ, ◌-◌, ◌≤◌, cond, Bool, true, false, List, [], ◌∷◌, ◌++◌, length, take, drop, refl, ap, ◌∙◌, Option, Some, None, inl, inr, arith, append_assoc}
use Rattle.std.specs.Prelude.{◌⊎◌, IfSome, IsTrue, ◌&&◌, ◌==◌, nat_le, slice_index, option_to_list}
use Rattle.std.specs.List.{list_all, list_any}
use Rattle.std.proofs.lemmas.Bool.{and_parts, and_from, or_cases, or_left, or_right, eqb-true, leb-true}
use Rattle.std.proofs.lemmas.List.{append-nil, take_at, drop_at, get_or_append_left, get_or_push, length_push}
use Rattle.mvt_grammar.specs.Bytes.{is_capital, is_digit}
use Rattle.std.specs.Str.Parse.{digits_value}
use Rattle.mvt_grammar.specs.Flights.{is_airline_byte, is_airline, airline_len, is_number, flight_with, flight_after, flight_of}
use Rattle.mvt_grammar.specs.Canonical.{number_text, flight_text}
use Rattle.mvt_grammar.specs.Readable.{IsFlight}
use Rattle.mvt_grammar.specs.declared.message.Flight.{Flight}
use Rattle.mvt_grammar.proofs.Digits.{Writes, Writes-number_text}
use Rattle.mvt_grammar.proofs.Names.{list_all-wider}
use Rattle.mvt_grammar.proofs.Parts.{list_all-both}

abbrev flight_at : List ℕ → ℕ → Option ℕ → Flight
flight_at airline number suffix = record { airline = airline; number = number; suffix = suffix }

with-back : (airline text : List ℕ) (n : ℕ) (suffix : Option ℕ) → is_airline airline ≡ true → Writes n text → flight_with airline text suffix ≡ Some (flight_at airline n suffix)
with-back airline text n suffix a w =
    ap (λ t. cond t (Some (flight_at airline (digits_value 10 text) suffix)) None) (and_from (is_airline airline) (is_number text) a w.form)
    ∙ ap (λ k. Some (flight_at airline k suffix)) w.value

abbrev chosen : List ℕ → List ℕ → ℕ → Bool → Option Flight
chosen airline text last suffixed = cond suffixed (flight_with airline (take (length text - 1) text) (Some last)) (flight_with airline text None)

after-back : (airline text : List ℕ) (n : ℕ) (suffix : Option ℕ) → is_airline airline ≡ true → IfSome suffix (λ b. IsTrue (is_capital b)) → Writes n text → flight_after airline (text ++ option_to_list suffix) ≡ Some (flight_at airline n suffix)
after-back airline text n None a s w =
    ap (flight_after airline) (append-nil text) ∙ ap (chosen airline text (slice_index text (length text - 1))) w.last ∙ with-back airline text n None a w
after-back airline text n (Some b) a s w =
    let whole = text ++ b ∷ [] in
    let count = length_push text b in
    let before : length whole - 1 ≡ length text = omega arith in
    let last : slice_index whole (length whole - 1) ≡ b = ap (slice_index whole) before ∙ get_or_push text b 0 (length text) refl in
    let front : take (length whole - 1) whole ≡ text = ap (λ k. take k whole) before ∙ take_at text (b ∷ []) (length text) refl in
    ap (λ c. chosen airline whole c (is_capital c)) last
    ∙ ap (chosen airline whole b) s
    ∙ ap (λ t. flight_with airline t (Some b)) front
    ∙ with-back airline text n (Some b) a w

airline_parts : (text : List ℕ) → is_airline text ≡ true → ((length text ≡ 3) × (list_all is_capital text ≡ true)) ⊎ ((length text ≡ 2) × (list_all is_airline_byte text ≡ true))
airline_parts text h = elim (or_cases (length text == 3 && list_all is_capital text) (length text == 2 && list_all is_airline_byte text && list_any is_capital text) h) [
  | inl three ↦ let parts = and_parts (length text == 3) (list_all is_capital text) three in inl (eqb-true (length text) 3 parts.0, parts.1)
  | inr two ↦ let parts = and_parts (length text == 2) (list_all is_airline_byte text) (and_parts (length text == 2 && list_all is_airline_byte text) (list_any is_capital text) two).0 in inr (eqb-true (length text) 2 parts.0, parts.1)
]

len_three : (text rest : List ℕ) → length text ≡ 3 → list_all is_capital text ≡ true → airline_len (text ++ rest) ≡ length text
len_three [] rest n h = absurd (omega arith)
len_three (a ∷ []) rest n h = absurd (omega arith)
len_three (a ∷ b ∷ []) rest n h = absurd (omega arith)
len_three (a ∷ b ∷ c ∷ []) rest n h = ap (λ t. cond t 3 2) (and_parts (is_capital c) true (and_parts (is_capital b) (list_all is_capital (c ∷ [])) (and_parts (is_capital a) (list_all is_capital (b ∷ c ∷ [])) h).1).1).0
len_three (a ∷ b ∷ c ∷ d ∷ text) rest n h = absurd (omega arith)

len_two : (text rest : List ℕ) → length text ≡ 2 → is_capital (slice_index rest 0) ≡ false → airline_len (text ++ rest) ≡ length text
len_two [] rest n h = absurd (omega arith)
len_two (a ∷ []) rest n h = absurd (omega arith)
len_two (a ∷ b ∷ []) rest n h = ap (λ t. cond t 3 2) h
len_two (a ∷ b ∷ c ∷ text) rest n h = absurd (omega arith)

airline_len-at : (text rest : List ℕ) → is_airline text ≡ true → is_capital (slice_index rest 0) ≡ false → airline_len (text ++ rest) ≡ length text
airline_len-at text rest h first = elim (airline_parts text h) [
  | inl three ↦ len_three text rest three.0 three.1
  | inr two ↦ len_two text rest two.0 first
]

pub flight_of-back : (flight : Flight) → IsFlight flight → flight_of (flight_text flight) ≡ Some flight
flight_of-back flight h =
    let airline = flight.airline in
    let text = number_text flight.number in
    let more = option_to_list flight.suffix in
    let w = Writes-number_text flight.number h.number in
    let form = and_parts (nat_le 1 (length text) && nat_le (length text) 4) (list_all is_digit text) w.form in
    let some : 1 ≤ length text = leb-true 1 (length text) (and_parts (nat_le 1 (length text)) (nat_le (length text) 4) form.0).0 in
    let first : is_capital (slice_index (text ++ more) 0) ≡ false = ap is_capital (get_or_append_left text more 0 0 (omega arith)) ∙ w.first in
    let len = airline_len-at airline (text ++ more) h.airline first in
    let whole = airline ++ (text ++ more) in
    ap flight_of (append_assoc airline text more)
    ∙ ap (λ n. flight_after (take n whole) (drop n whole)) len
    ∙ ap (λ t. flight_after t (drop (length airline) whole)) (take_at airline (text ++ more) (length airline) refl)
    ∙ ap (flight_after airline) (drop_at airline (text ++ more) (length airline) refl)
    ∙ after-back airline text flight.number flight.suffix h.airline h.suffix w

capital_in : (b : ℕ) → is_capital b ≡ true → is_airline_byte b ≡ true
capital_in b h = or_left (is_capital b) (is_digit b) h

digit_in : (b : ℕ) → is_digit b ≡ true → is_airline_byte b ≡ true
digit_in b h = or_right (is_capital b) (is_digit b) h

airline-bytes : (text : List ℕ) → is_airline text ≡ true → list_all is_airline_byte text ≡ true
airline-bytes text h = elim (airline_parts text h) [
  | inl three ↦ list_all-wider is_capital is_airline_byte capital_in text three.1
  | inr two ↦ two.1
]

suffix-bytes : (suffix : Option ℕ) → IfSome suffix (λ b. IsTrue (is_capital b)) → list_all is_airline_byte (option_to_list suffix) ≡ true
suffix-bytes None h = refl
suffix-bytes (Some b) h = and_from (is_airline_byte b) true (capital_in b h) refl

-- a flight is written in capitals and digits
pub flight_text-bytes : (flight : Flight) → IsFlight flight → list_all is_airline_byte (flight_text flight) ≡ true
flight_text-bytes flight h =
    let number = number_text flight.number in
    let w = Writes-number_text flight.number h.number in
    list_all-both is_airline_byte (flight.airline ++ number) (option_to_list flight.suffix)
    (list_all-both is_airline_byte flight.airline number (airline-bytes flight.airline h.airline) (list_all-wider is_digit is_airline_byte digit_in number w.digits))
    (suffix-bytes flight.suffix h.suffix)
