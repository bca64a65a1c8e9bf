-- Keys are read exactly from their fields.
use Rattle.std.proofs.Common.{◌≡◌, ℕ, ◌<◌, ◌≤◌, Bool, true, false, cond, List, [], ◌∷◌, length, Option, Some, None, refl, sym, ap, subst, ◌∙◌, inl, inr, arith}
use Rattle.std.specs.List.{list_all, list_any}
use Rattle.std.specs.Option.{unwrap_or}
use Rattle.std.specs.Prelude.{◌==◌, ◌&&◌, ◌||◌, IsTrue, IfSome, IsSome, nat_lt, nat_le}
use Rattle.std.specs.Int.{w8, w16}
use Rattle.std.proofs.lemmas.Bool.{and_parts, eqb-true, ltb-true, lt-ltb, leb-true, or_cases, or_right, ne_eqb}
use Rattle.mvt_grammar.specs.Bytes.{is_capital}
use Rattle.mvt_grammar.specs.Flights.{is_airline, is_airline_byte}
use Rattle.apron_rules.specs.declared.parts.AirportParts.{AirportParts}
use Rattle.visit_book.specs.NewVisits.{HasFlight}
use Rattle.visit_book.specs.declared.visits.Key.{Key}
use Rattle.entry_bytes.specs.declared.faults.EntryFault.TheVariants.{BadField}
use Rattle.entry_bytes.specs.Fields.{Field, limited_field, number_field, text_field}
use Rattle.entry_bytes.specs.Keys.{key_fields, optional_key_fields}
use Rattle.entry_bytes.specs.Parsing.{is_suffix_byte, optional_key_of, parse_key, parse_optional_key, suffix_of}
use Rattle.entry_bytes.specs.Readings.{Reading, byte, give, number, such_that, text, ◌>>=◌}
use Rattle.entry_bytes.proofs.Fields.{reads_byte, reads_limited, reads_number, reads_number-in, reads_text, wide16}
use Rattle.entry_bytes.proofs.Spells.{Announces, Announces-or, Anywhere, ReadsOne, ReadsOne-such, Spells, Spells-as, Spells-from, Spells-give, Spells-made, Spells-one, Spells-tagged, Spells-then}

pub length-airline : (text : List ℕ) → IsTrue (is_airline text) → length text ≤ 3
length-airline text h = elim (or_cases (length text == 3 && list_all is_capital text) (length text == 2 && list_all is_airline_byte text && list_any is_capital text) h) [
  | inl three ↦ let n = eqb-true (length text) 3 (and_parts (length text == 3) (list_all is_capital text) three).0 in omega arith
  | inr two ↦ let n = eqb-true (length text) 2 (and_parts (length text == 2) (list_all is_airline_byte text) (and_parts (length text == 2 && list_all is_airline_byte text) (list_any is_capital text) two).0).0 in omega arith
]

airline-short : (text : List ℕ) → IsTrue (is_airline text) → length text < 256
airline-short text h = let few = length-airline text h in omega arith

abbrev pub some_airline : List ℕ
some_airline = 65 ∷ 65 ∷ 65 ∷ []

reads_airline : (airport : AirportParts) → ReadsOne airport (such_that is_airline text) text_field (λ t. IsTrue (is_airline t))
reads_airline airport = ReadsOne-such is_airline text_field (λ t. IsTrue (is_airline t)) (reads_text airport)
    (λ t. record {
      there = λ short fits form test. (test, tt, tt);
      back = λ airline fits form. (airline-short t airline, tt, tt, airline);
      same = refl;
    })
    (some_airline, refl, tt)

reads_flight_number : (airport : AirportParts) → ReadsOne airport (such_that (λ n. nat_lt n 10000) (number w16)) (number_field w16) (λ n. nat_lt n 10000 ≡ true)
reads_flight_number airport = reads_number-in (λ n. nat_lt n 10000) (reads_number airport w16 wide16) (0, refl, wide16.zero)

reads_suffix : (airport : AirportParts) → ReadsOne airport (such_that is_suffix_byte byte) (number_field w8) (λ b. is_suffix_byte b ≡ true)
reads_suffix airport = let small : 0 < 256 = omega arith in reads_number-in is_suffix_byte (reads_byte airport) (0, refl, small)

reads_day : (airport : AirportParts) → ReadsOne airport (such_that (λ day. nat_le day airport.days) byte) (λ day. limited_field w8 day (λ airport. nat_le day airport.days)) (λ day. Unit {0})
reads_day airport = let small : 0 < 256 = omega arith in reads_limited (λ day airport. nat_le day airport.days) (reads_byte airport) small

-- a suffix is a byte in its form, and is read back from it
suffix-is : (suffix : Option ℕ) → IfSome suffix (λ b. IsTrue (is_capital b)) → is_suffix_byte (unwrap_or suffix 0) ≡ true
suffix-is None h = refl
suffix-is (Some b) h = or_right (b == 0) (is_capital b) h

not_zero : (b : ℕ) → IsTrue (is_capital b) → (b == 0) ≡ false
not_zero b h = let low : 65 ≤ b = leb-true 65 b (and_parts (nat_le 65 b) (nat_le b 90) h).0 in ne_eqb b 0 (λ e. omega (arith, e, low))

suffix-back : (suffix : Option ℕ) → IfSome suffix (λ b. IsTrue (is_capital b)) → suffix_of (unwrap_or suffix 0) ≡ suffix
suffix-back None h = refl
suffix-back (Some b) h = ap (λ t. cond t None (Some b)) (not_zero b h)

form_of : (none : Bool) (b : ℕ) → (none || is_capital b) ≡ true → IfSome (cond none None (Some b)) (λ c. IsTrue (is_capital c))
form_of true b h = tt
form_of false b h = h

suffix-form : (b : ℕ) → is_suffix_byte b ≡ true → IfSome (suffix_of b) (λ c. IsTrue (is_capital c))
suffix-form b h = form_of (b == 0) b h

byte_back : (none : Bool) (b : ℕ) → (none ≡ true → b ≡ 0) → unwrap_or (cond none None (Some b)) 0 ≡ b
byte_back true b zero_ = sym (zero_ refl)
byte_back false b zero_ = refl

suffix-byte : (b : ℕ) → unwrap_or (suffix_of b) 0 ≡ b
suffix-byte b = byte_back (b == 0) b (eqb-true b 0)

abbrev key_of : List ℕ → ℕ → Option ℕ → ℕ → Key
key_of airline number suffix day = record { flight = record { airline = airline; number = number; suffix = suffix }; day = day }

same_key : (a a' : List ℕ) (n n' : ℕ) (s s' : Option ℕ) (d d' : ℕ) → a ≡ a' → n ≡ n' → s ≡ s' → d ≡ d' → key_of a n s d ≡ key_of a' n' s' d'
same_key a a' n n' s s' d d' ea en es ed = cc

abbrev OfAirline : List ℕ → Key → Type 0
OfAirline airline key = (key.flight.airline ≡ airline) × HasFlight key

abbrev OfNumber : List ℕ → ℕ → Key → Type 0
OfNumber airline n key = (key.flight.number ≡ n) × OfAirline airline key

abbrev OfSuffix : List ℕ → ℕ → ℕ → Key → Type 0
OfSuffix airline n s key = (unwrap_or key.flight.suffix 0 ≡ s) × OfNumber airline n key

pub key-spells : (airport : AirportParts) → Spells Anywhere airport (parse_key airport) key_fields HasFlight
unfolding parse_key
key-spells airport = Spells-as key_fields HasFlight
    (Spells-then (λ key. key.flight.airline) HasFlight (Spells-one (reads_airline airport))
    (λ airline a. Spells-then (λ key. key.flight.number) (OfAirline airline) (Spells-one (reads_flight_number airport))
    (λ n b. Spells-then (λ key. unwrap_or key.flight.suffix 0) (OfNumber airline n) (Spells-one (reads_suffix airport))
    (λ s c. Spells-then (λ key. key.day) (OfSuffix airline n s) (Spells-one (reads_day airport))
    (λ d e. Spells-give (key_of airline n (suffix_of s) d) (λ key. (key.day ≡ d) × OfSuffix airline n s key)
    (refl, (suffix-byte s, (refl, (refl, record { airline = a; number = ltb-true n 10000 b; suffix = suffix-form s c }))))
    (λ key h. same_key key.flight.airline airline key.flight.number n key.flight.suffix (suffix_of s) key.day d h.1.1.1.0 h.1.1.0 (sym (suffix-back key.flight.suffix h.1.1.1.1.suffix) ∙ ap suffix_of h.1.0) h.0))
    (λ key h. tt))
    (λ key h. suffix-is key.flight.suffix h.1.1.suffix))
    (λ key h. lt-ltb key.flight.number 10000 h.1.number))
    (λ key h. h.airline))
    (λ key h. h) (λ key h. h) (λ key h. refl)

-- ---- optional keys

abbrev tag_of : Option Key → ℕ
tag_of None = 0
tag_of (Some key) = 1

abbrev back_of : Option Key → List Field
back_of None = []
back_of (Some key) = key_fields key

abbrev pub HaveFlights : Option Key → Type 0
HaveFlights key = IfSome key HasFlight

abbrev HasTag : ℕ → Option Key → Type 0
HasTag tag key = (tag_of key ≡ tag) × HaveFlights key

only_none : (key : Option Key) → HasTag 0 key → key ≡ None
only_none None h = refl
only_none (Some key) h = absurd (omega (arith, h.0))

no_fields : (key : Option Key) → HasTag 0 key → back_of key ≡ []
no_fields None h = refl
no_fields (Some key) h = absurd (omega (arith, h.0))

none-spells : (airport : AirportParts) → Spells Anywhere airport (give None) back_of (HasTag 0)
none-spells airport = Spells-as back_of (HasTag 0) (Spells-give None (HasTag 0) (refl, tt) only_none) (λ key h. h) (λ key h. h) no_fields

only_some : (key : Option Key) → HasTag 1 key → (k : Key) × HasFlight k × (key ≡ Some k)
only_some None h = absurd (omega (arith, h.0))
only_some (Some key) h = (key, h.1, refl)

some-spells : (airport : AirportParts) → Spells Anywhere airport (parse_key airport >>= λ key. give (Some key)) back_of (HasTag 1)
some-spells airport = Spells-made Some back_of (HasTag 1) (key-spells airport) (λ k h. (refl, h)) only_some (λ k. refl)

at_tag : (airport : AirportParts) (tag : ℕ) → Announces airport (optional_key_of airport tag) back_of (HasTag tag)
at_tag airport tag =
    let second : Reading (Option Key) = parse_key airport >>= λ key. give (Some key) in
    Announces-or (cond (tag == 1) (Some second) None)
    (λ e. subst (λ t. Spells Anywhere airport (give None) back_of (HasTag t)) (sym (eqb-true tag 0 e)) (none-spells airport))
    (Announces-or None
    (λ e. subst (λ t. Spells Anywhere airport second back_of (HasTag t)) (sym (eqb-true tag 1 e)) (some-spells airport))
    tt)

has_field : (airport : AirportParts) (key : Option Key) → HaveFlights key → IsSome (optional_key_of airport (tag_of key))
has_field airport None h = refl
has_field airport (Some key) h = refl

same_fields : (key : Option Key) → optional_key_fields key ≡ number_field w8 (tag_of key) ∷ back_of key
same_fields None = refl
same_fields (Some key) = refl

pub optional_key-spells : (airport : AirportParts) → Spells Anywhere airport (parse_optional_key airport) optional_key_fields HaveFlights
unfolding parse_optional_key
optional_key-spells airport =
    let small : 0 < 256 = omega arith in
    Spells-as optional_key_fields HaveFlights
    (Spells-from Anywhere (λ at h. refl) (Spells-tagged airport BadField (optional_key_of airport) tag_of back_of HaveFlights (reads_byte airport) (at_tag airport) (has_field airport) (None, (tt, (small, tt)))))
    (λ key h. h) (λ key h. h) (λ key h. same_fields key)
