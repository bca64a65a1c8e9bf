-- The places of live visits as keys are put, and the first place of a flight.
use Rattle.std.proofs.Common.{◌≡◌, ◌≢◌, ◌<◌, ◌+◌, ◌==◌, ◌&&◌, ◌∙◌, ◌⊎◌, inl, inr, ℕ, zero, suc, Bool, true, false, cond, List, [], ◌∷◌, ◌++◌, get_or, length, length-set, arith, ap, refl, subst, sym, None}
use Rattle.std.specs.Prelude.{Option, Some, is_some, nat_eq, slice_get, slice_set}
use Rattle.std.specs.BTreeMap.{is_at}
use Rattle.std.specs.BTreeSet.{BTreeSet, contains}
use Rattle.std.specs.Cmp.{nat_eq_equiv, unsigned_ties}
use Rattle.std.specs.Cmp.Lexicographic.{bytes_decides, nat_list_eq_equiv, slice_cmp, texts_ties}
use Rattle.std.specs.Option.{option_cmp, option_eq, option_map_or}
use Rattle.std.specs.Ordering.{is_eq, nat_cmp, ordering_then}
use Rattle.std.specs.Str.{bytes_eq}
use Rattle.std.specs.declared.cmp.Ordering.{Ordering}
use Rattle.std.specs.declared.cmp.Ordering.TheVariants.{Less, Equal, Greater}
use Rattle.std.proofs.lemmas.Bool.{cases_eq}
use Rattle.std.proofs.lemmas.Bool.Decides.{nat_tests}
use Rattle.std.proofs.lemmas.List.{length_push, set-get_or}
use Rattle.std.proofs.lemmas.Option.{get_or_from_slice_get, slice_get_within}
use Rattle.visit_book.specs.declared.visits.Key.{Key}
use Rattle.visit_book.specs.Flights.{is_by}
use Rattle.plan_core.specs.declared.flights.FlightDay.{FlightDay}
use Rattle.plan_core.specs.declared.flights.FlightPlace.{FlightPlace}
use Rattle.plan_core.specs.FlightPlaces.{AreFlightPlaces, KeepsKey, compare_days, compare_places, flies_on_day, flight_day, flight_place, has_place, is_same_day}

-- an order of two parts tells apart what one of them tells apart
pub both_equal : (first second : Ordering) → is_eq (ordering_then first second) ≡ (is_eq first && is_eq second)
both_equal Less second = refl
both_equal Equal second = refl
both_equal Greater second = refl

same_or_not : (a b : Option ℕ) → is_eq (option_cmp nat_cmp a b) ≡ option_eq nat_eq a b
same_or_not None None = refl
same_or_not None (Some y) = refl
same_or_not (Some x) None = refl
same_or_not (Some x) (Some y) = sym (unsigned_ties x y)

pub order_of_days : (flight other : FlightDay) → is_eq (compare_days flight other) ≡ is_same_day flight other
order_of_days flight other =
    let airline : is_eq (slice_cmp nat_cmp flight.airline other.airline) ≡ bytes_eq flight.airline other.airline = sym (texts_ties flight.airline other.airline) in
    let number : is_eq (nat_cmp flight.number other.number) ≡ (flight.number == other.number) = sym (unsigned_ties flight.number other.number) in
    let suffix : is_eq (option_cmp nat_cmp flight.suffix other.suffix) ≡ option_eq nat_eq flight.suffix other.suffix = same_or_not flight.suffix other.suffix in
    let day : is_eq (nat_cmp flight.day other.day) ≡ (flight.day == other.day) = sym (unsigned_ties flight.day other.day) in
    let third = both_equal (option_cmp nat_cmp flight.suffix other.suffix) (nat_cmp flight.day other.day) ∙ (λ i. suffix i && day i) in
    let second = both_equal (nat_cmp flight.number other.number) (ordering_then (option_cmp nat_cmp flight.suffix other.suffix) (nat_cmp flight.day other.day))
    ∙ (λ i. number i && third i) in
    both_equal (slice_cmp nat_cmp flight.airline other.airline)
    (ordering_then (nat_cmp flight.number other.number) (ordering_then (option_cmp nat_cmp flight.suffix other.suffix) (nat_cmp flight.day other.day)))
    ∙ (λ i. airline i && second i)

order_of_places : (place other : FlightPlace) → is_at (compare_places place) other ≡ (is_same_day place.flight other.flight && (place.place == other.place))
order_of_places place other =
    let flight : is_eq (compare_days place.flight other.flight) ≡ is_same_day place.flight other.flight = order_of_days place.flight other.flight in
    let number : is_eq (nat_cmp place.place other.place) ≡ (place.place == other.place) = sym (unsigned_ties place.place other.place) in
    both_equal (compare_days place.flight other.flight) (nat_cmp place.place other.place) ∙ (λ i. flight i && number i)

both_true : (a b : Bool) → (a && b) ≡ true → (a ≡ true) × (b ≡ true)
both_true true true h = (refl, refl)
both_true true false h = absurd (cc)
both_true false b h = absurd (cc)

same_number : (a b : ℕ) → (a == b) ≡ true → a ≡ b
same_number a b h = grind (arith, nat_tests)

same_option : (a b : Option ℕ) → option_eq nat_eq a b ≡ true → a ≡ b
same_option None None h = refl
same_option None (Some y) h = absurd (cc)
same_option (Some x) None h = absurd (cc)
same_option (Some x) (Some y) h = ap (λ (z : ℕ). Some z) (same_number x y h)

made_of : (a b : List ℕ) (m n : ℕ) (s t : Option ℕ) (d e : ℕ) → a ≡ b → m ≡ n → s ≡ t → d ≡ e
    → ◌≡◌ {A = FlightDay} (record { airline = a; number = m; suffix = s; day = d }) (record { airline = b; number = n; suffix = t; day = e })
made_of a b m n s t d e p q r u = cc

pub day_is : (flight other : FlightDay) → is_same_day flight other ≡ true → flight ≡ other
day_is flight other is =
    let first = both_true (bytes_eq flight.airline other.airline) _ is in
    let second = both_true (flight.number == other.number) _ first.1 in
    let third = both_true (option_eq nat_eq flight.suffix other.suffix) (flight.day == other.day) second.1 in
    made_of _ _ _ _ _ _ _ _ ((bytes_decides flight.airline other.airline).0 first.0) (same_number flight.number other.number second.0)
    (same_option flight.suffix other.suffix third.0) (same_number flight.day other.day third.1)

option_itself : (a : Option ℕ) → option_eq nat_eq a a ≡ true
option_itself None = refl
option_itself (Some x) = nat_eq_equiv.refl x

pub day_itself : (flight : FlightDay) → is_same_day flight flight ≡ true
day_itself flight =
    rw (nat_list_eq_equiv.refl flight.airline, nat_eq_equiv.refl flight.number, option_itself flight.suffix, nat_eq_equiv.refl flight.day) refl

pub placed_of : (f g : FlightDay) (m n : ℕ) → f ≡ g → m ≡ n → ◌≡◌ {A = FlightPlace} (record { flight = f; place = m }) (record { flight = g; place = n })
placed_of f g m n p q = cc

place_is : (place other : FlightPlace) → is_at (compare_places place) other ≡ true → place ≡ other
place_is place other at =
    let parts = both_true (is_same_day place.flight other.flight) (place.place == other.place) (sym (order_of_places place other) ∙ at) in
    placed_of _ _ _ _ (day_is place.flight other.flight parts.0) (same_number place.place other.place parts.1)

place_itself : (place : FlightPlace) → is_at (compare_places place) place ≡ true
place_itself place = order_of_places place place ∙ (λ i. day_itself place.flight i && nat_eq_equiv.refl place.place i)

-- a place of the key at it
at_same : (place other : FlightPlace) → place.flight ≡ other.flight → place.place ≡ other.place → is_at (compare_places place) other ≡ true
at_same place other flight number = subst (λ (p : FlightPlace). is_at (compare_places place) p ≡ true) (placed_of _ _ _ _ flight number) (place_itself place)

grouped : (a b c d : Bool) → (a && (b && (c && d))) ≡ (((a && b) && c) && d)
grouped true true c d = refl
grouped true false c d = refl
grouped false b c d = refl

-- whether a key is of the flight and the day of another
pub is_by_day : (key : Key) (found : Option Key) → flies_on_day (flight_day key) found ≡ is_by key found
is_by_day key None = refl
is_by_day key (Some found) =
    grouped (bytes_eq found.flight.airline key.flight.airline) (found.flight.number == key.flight.number)
    (option_eq nat_eq found.flight.suffix key.flight.suffix) (found.day == key.day)

-- the key at a place, which is of its flight
record KeyAt (keys : List (Option Key)) (place : FlightPlace) : Type 0 where
  key : Key
  at : slice_get keys place.place ≡ Some (Some key)
  day : flight_day key ≡ place.flight

found_of : (found : Option (Option Key)) (flight : FlightDay) → option_map_or (flies_on_day flight) found false ≡ true
    → (key : Key) × (found ≡ Some (Some key)) × (flight_day key ≡ flight)
found_of None flight h = absurd (cc)
found_of (Some None) flight h = absurd (cc)
found_of (Some (Some key)) flight h = (key, refl, day_is (flight_day key) flight h)

key_at : (keys : List (Option Key)) (place : FlightPlace) → has_place keys place ≡ true → KeyAt keys place
key_at keys place has = let found = found_of (slice_get keys place.place) place.flight has in record { key = found.0; at = found.1; day = found.2 }

has_key : (keys : List (Option Key)) (place : FlightPlace) (key : Key) → slice_get keys place.place ≡ Some (Some key) → flight_day key ≡ place.flight
    → has_place keys place ≡ true
has_key keys place key at day =
    ap (λ found. option_map_or (flies_on_day place.flight) found false) at
    ∙ subst (λ (flight : FlightDay). is_same_day (flight_day key) flight ≡ true) day (day_itself (flight_day key))

earlier_of : {X : Type 0} (xs ys : List X) (place : ℕ) → place < length xs → slice_get (xs ++ ys) place ≡ slice_get xs place
earlier_of [] ys place below = absurd (omega arith)
earlier_of (x ∷ xs) ys zero below = refl
earlier_of (x ∷ xs) ys (suc place) below = earlier_of xs ys place (omega arith)

other_of : {X : Type 0} (xs : List X) (i place : ℕ) (y : X) → place ≢ i → slice_get (slice_set xs i y) place ≡ slice_get xs place
other_of [] i place y apart = refl
other_of (x ∷ xs) zero zero y apart = absurd (apart refl)
other_of (x ∷ xs) zero (suc place) y apart = refl
other_of (x ∷ xs) (suc i) zero y apart = refl
other_of (x ∷ xs) (suc i) (suc place) y apart = other_of xs i place y (λ e. apart (omega (arith, e)))

there_of : {X : Type 0} (xs : List X) (i : ℕ) (y : X) → i < length xs → slice_get (slice_set xs i y) i ≡ Some y
there_of [] i y within = absurd (omega arith)
there_of (x ∷ xs) zero y within = refl
there_of (x ∷ xs) (suc i) y within = there_of xs i y (omega arith)

same_key : (found : Option (Option Key)) (key other : Key) → found ≡ Some (Some key) → found ≡ Some (Some other) → key ≡ other
same_key found key other is was = cc

not_none : (found : Option (Option Key)) (key : Key) → found ≡ Some (Some key) → found ≡ Some None → ⊥
not_none found key is was = cc

-- the places after one more key comes last that is not in the set
pub places_push : (live : BTreeSet FlightPlace) (indexed : ℕ) (keys : List (Option Key)) (key : Option Key) → AreFlightPlaces live indexed keys
    → AreFlightPlaces live indexed (keys ++ key ∷ [])
places_push live indexed keys key h = record {
  few = omega (arith, h.few, length_push keys key);
  only = λ place has.
      let old = key_at keys place (h.only place has) in
      let within : place.place < length keys = slice_get_within keys place.place (Some old.key) old.at in
      has_key (keys ++ key ∷ []) place old.key (earlier_of keys (key ∷ []) place.place within ∙ old.at) old.day;
  all = λ place below has.
      let within : place.place < length keys = omega (arith, h.few, below) in
      h.all place below (sym (ap (λ found. option_map_or (flies_on_day place.flight) found false) (earlier_of keys (key ∷ []) place.place within)) ∙ has);
}

below_or_at : (place count : ℕ) → place < count + 1 → (place < count) ⊎ (place ≡ count)
below_or_at place count below = grind arith

-- the set with the place of one more key
pub places_more : (live new : BTreeSet FlightPlace) (i : ℕ) (keys : List (Option Key)) (key : Key) → AreFlightPlaces live i keys → i < length keys
    → slice_get keys i ≡ Some (Some key)
    → ((place : FlightPlace) → contains compare_places new place ≡ cond (is_at (compare_places (flight_place key i)) place) true (contains compare_places live place))
    → AreFlightPlaces new (i + 1) keys
places_more live new i keys key h within at puts = record {
  few = omega arith;
  only = λ place has. put (is_at (compare_places (flight_place key i)) place) place refl (sym (puts place) ∙ has);
  all = λ place below has.
      puts place ∙ elim (below_or_at place.place i below) [
        | inl earlier ↦ ap (cond (is_at (compare_places (flight_place key i)) place) true) (h.all place earlier has) ∙ either (is_at (compare_places (flight_place key i)) place)
        | inr last ↦ (let there = key_at keys place has in
            let same : there.key ≡ key = same_key (slice_get keys i) there.key key (ap (slice_get keys) (sym last) ∙ there.at) at in
            ap (λ b. cond b true (contains compare_places live place))
            (at_same (flight_place key i) place (ap flight_day (sym same) ∙ there.day) (sym last)))
      ];
}
  where
    either : (b : Bool) → cond b true true ≡ true
    either true = refl
    either false = refl

    put : (b : Bool) (place : FlightPlace) → is_at (compare_places (flight_place key i)) place ≡ b → cond b true (contains compare_places live place) ≡ true
        → has_place keys place ≡ true
    put true place is has = subst (λ (p : FlightPlace). has_place keys p ≡ true) (place_is (flight_place key i) place is) (has_key keys (flight_place key i) key at refl)
    put false place is has = h.only place has

-- one more key, of no live visit, has no place
pub places_none : (live : BTreeSet FlightPlace) (i : ℕ) (keys : List (Option Key)) → AreFlightPlaces live i keys → i < length keys
    → slice_get keys i ≡ Some None → AreFlightPlaces live (i + 1) keys
places_none live i keys h within at = record {
  few = omega arith;
  only = h.only;
  all = λ place below has. elim (below_or_at place.place i below) [
    | inl earlier ↦ h.all place earlier has
    | inr last ↦ (let there = key_at keys place has in absurd (not_none (slice_get keys i) there.key (ap (slice_get keys) (sym last) ∙ there.at) at))
  ];
}

-- the keys after one is set
module _ (live : BTreeSet FlightPlace) (indexed i : ℕ) (keys : List (Option Key)) (h : AreFlightPlaces live indexed keys) (within : i < length keys) where
  elsewhere : (key : Option Key) (place : FlightPlace) → place.place ≢ i → has_place (slice_set keys i key) place ≡ has_place keys place
  elsewhere key place apart = ap (λ found. option_map_or (flies_on_day place.flight) found false) (other_of keys i place.place key apart)

  here : (key : Option Key) (place : FlightPlace) → place.place ≡ i → slice_get (slice_set keys i key) place.place ≡ Some key
  here key place at = ap (slice_get (slice_set keys i key)) at ∙ there_of keys i key within

  -- to none, if there was a key: its place is taken out of the set
  pub places_clear : (new : BTreeSet FlightPlace) (old : Key) → slice_get keys i ≡ Some (Some old)
      → ((place : FlightPlace) → contains compare_places new place ≡ cond (is_at (compare_places (flight_place old i)) place) false (contains compare_places live place))
      → AreFlightPlaces new indexed (slice_set keys i None)
  places_clear new old was takes = record {
    few = omega (arith, h.few, length-set keys i None);
    only = λ place has. left (is_at (compare_places (flight_place old i)) place) place refl (sym (takes place) ∙ has);
    all = λ place below has.
        elim (cases_eq place.place i) [
          | inl at ↦ (let there = key_at (slice_set keys i None) place has in
              absurd (not_none (slice_get (slice_set keys i None) place.place) there.key there.at (here None place at)))
          | inr apart ↦ takes place ∙ (ap (λ b. cond b false (contains compare_places live place)) (not_at place apart)
              ∙ h.all place below (sym (elsewhere None place apart) ∙ has))
        ];
  }
    where
      not_at : (place : FlightPlace) → place.place ≢ i → is_at (compare_places (flight_place old i)) place ≡ false
      not_at place apart = test (is_at (compare_places (flight_place old i)) place) refl
        where
          test : (b : Bool) → is_at (compare_places (flight_place old i)) place ≡ b → b ≡ false
          test true is = absurd (apart (ap (λ (p : FlightPlace). p.place) (sym (place_is (flight_place old i) place is))))
          test false is = refl

      left : (b : Bool) (place : FlightPlace) → is_at (compare_places (flight_place old i)) place ≡ b → cond b false (contains compare_places live place) ≡ true
          → has_place (slice_set keys i None) place ≡ true
      left true place is has = absurd (cc)
      left false place is has =
          let there = key_at keys place (h.only place has) in
          elim (cases_eq place.place i) [
            | inl at ↦ (let same : old ≡ there.key = same_key (slice_get keys i) old there.key was (ap (slice_get keys) (sym at) ∙ there.at) in
                let found : is_at (compare_places (flight_place old i)) place ≡ true = at_same (flight_place old i) place (ap flight_day same ∙ there.day) (sym at) in
                absurd (cc (sym found ∙ is)))
            | inr apart ↦ elsewhere None place apart ∙ h.only place has
          ]

  -- to the key that was there
  pub places_same : (old : Key) (key : Option Key) → KeepsKey keys i key → is_some key ≡ true → slice_get keys i ≡ Some (Some old)
      → AreFlightPlaces live indexed (slice_set keys i key)
  places_same old None same some at = absurd (cc)
  places_same old (Some key) same some at =
      let is : old ≡ key = same old key at refl in
      let there : get_or keys i None ≡ Some key = get_or_from_slice_get keys i (Some old) None at ∙ ap (λ k. Some k) is in
      subst (AreFlightPlaces live indexed) (sym (ap (slice_set keys i) (sym there) ∙ set-get_or keys i None)) h
