-- The first place of a flight: in the set of places, and among keys.
use Rattle.std.proofs.Common.{◌≡◌, ◌≤◌, ◌<◌, ◌+◌, ◌-◌, ◌∙◌, ℕ, zero, suc, Bool, true, false, cond, List, [], ◌∷◌, length, length-drop, drop, get_or, arith, ap, refl, subst, sym, None}
use Rattle.std.specs.Prelude.{Option, Some, IsTrue, nat_lt, position}
use Rattle.std.specs.BTreeMap.Range.{IsInRange, IsLeBy}
use Rattle.std.specs.BTreeSet.{BTreeSet, IsKeyRangeOf, contains}
use Rattle.std.specs.Cmp.{IsTotalOrder, nat_cmp_total, on_total, then_total, tied_itself}
use Rattle.std.specs.Cmp.Lexicographic.{nat_list_cmp_total, options_total}
use Rattle.std.specs.List.{position_or_len}
use Rattle.std.specs.Option.{option_map, option_map_or}
use Rattle.std.specs.Ordering.{is_eq, is_gt, nat_cmp, ordering_reverse, ordering_then}
use Rattle.std.specs.declared.cmp.Ordering.{Ordering}
use Rattle.std.specs.declared.cmp.Ordering.TheVariants.{Less, Equal, Greater}
use Rattle.std.specs.declared.ops.Bound.TheVariants.{Included, Excluded}
use Rattle.std.proofs.lemmas.Bool.Decides.{nat_tests}
use Rattle.std.proofs.lemmas.List.Sums.{position_or_len_is}
use Rattle.std.proofs.lemmas.Option.{slice_get-get_or}
use Rattle.visit_book.specs.declared.visits.Key.{Key}
use Rattle.visit_book.specs.Flights.{is_by}
use Rattle.plan_core.specs.declared.flights.FlightDay.{FlightDay}
use Rattle.plan_core.specs.declared.flights.FlightPlace.{FlightPlace}
use Rattle.plan_core.specs.FlightPlaces.{AreFlightPlaces, HasNoPlace, IsFirstPlace, compare_days, compare_places, flies_on_day, flight_day, flight_place, has_live, has_place}
use Rattle.plan_core.proofs.LivePlaces.{day_is, is_by_day, order_of_days, placed_of}

days_total : IsTotalOrder compare_days
days_total =
    then_total (on_total (λ (day : FlightDay). day.airline) nat_list_cmp_total)
    (then_total (on_total (λ (day : FlightDay). day.number) nat_cmp_total)
    (then_total (on_total (λ (day : FlightDay). day.suffix) (options_total nat_cmp_total)) (on_total (λ (day : FlightDay). day.day) nat_cmp_total)))

-- a place of a flight
abbrev at_flight : FlightDay → ℕ → FlightPlace
at_flight flight place = record { flight = flight; place = place }

up_to : (a b : ℕ) → a ≤ b → is_gt (nat_cmp a b) ≡ false
up_to a b h = grind (arith, nat_tests)

up_to_is : (a b : ℕ) → is_gt (nat_cmp a b) ≡ false → a ≤ b
up_to_is a b h = grind (arith, nat_tests)

below : (a b : ℕ) → a < b → nat_cmp a b ≡ Less
below a b h = grind (arith, nat_tests)

below_is : (a b : ℕ) → nat_cmp a b ≡ Less → a < b
below_is a b h = grind (arith, nat_tests)

-- what lies between two places of a flight is a place of it
between : (flight : FlightDay) (end : ℕ) (place : FlightPlace) → is_gt (compare_places (at_flight flight 0) place) ≡ false
    → compare_places place (at_flight flight end) ≡ Less → (flight ≡ place.flight) × (place.place < end)
between flight end place from to = by (compare_days flight place.flight) (compare_days place.flight flight) refl (days_total.antisymm place.flight flight) from to
  where
    by : (r s : Ordering) → compare_days flight place.flight ≡ r → s ≡ ordering_reverse (compare_days flight place.flight)
        → is_gt (ordering_then r (nat_cmp 0 place.place)) ≡ false → ordering_then s (nat_cmp place.place end) ≡ Less → (flight ≡ place.flight) × (place.place < end)
    by Less s is turned from to =
        let greater : s ≡ Greater = turned ∙ ap ordering_reverse is in
        let never : Greater ≡ Less = ap (λ r. ordering_then r (nat_cmp place.place end)) (sym greater) ∙ to in absurd (cc)
    by Equal s is turned from to =
        let equal : s ≡ Equal = turned ∙ ap ordering_reverse is in
        let less : nat_cmp place.place end ≡ Less = ap (λ r. ordering_then r (nat_cmp place.place end)) (sym equal) ∙ to in
        (day_is flight place.flight (sym (order_of_days flight place.flight) ∙ ap is_eq is), below_is place.place end less)
    by Greater s is turned from to = absurd (cc)

-- the places of a flight below an end lie between
inside : (flight : FlightDay) (place end : ℕ) → place < end
    → IsInRange compare_places (Included (at_flight flight 0)) (Excluded (at_flight flight end)) (at_flight flight place)
inside flight place end h =
    let same : compare_days flight flight ≡ Equal = tied_itself days_total flight in (
      ap (λ r. is_gt (ordering_then r (nat_cmp 0 place))) same ∙ up_to 0 place (omega arith),
      ap (λ r. ordering_then r (nat_cmp place end)) same ∙ below place end h,
    )

pub starts : (key : Key) (end : ℕ) → is_gt (compare_places (flight_place key 0) (flight_place key end)) ≡ false
starts key end = ap (λ r. is_gt (ordering_then r (nat_cmp 0 end))) (tied_itself days_total (flight_day key)) ∙ up_to 0 end (omega arith)

placed : (flight : FlightDay) (place : FlightPlace) → flight ≡ place.flight → place ≡ at_flight flight place.place
placed flight place same = placed_of place.flight flight place.place place.place (sym same) refl

-- the first place between is the first of the flight
pub first_is : (live : BTreeSet FlightPlace) (key : Key) (end : ℕ) (range rest : List FlightPlace) (first : FlightPlace)
    → IsKeyRangeOf compare_places (Included (flight_place key 0)) (Excluded (flight_place key end)) live range → range ≡ first ∷ rest
    → IsFirstPlace live key end first.place
first_is live key end range rest first h is =
    let flight : FlightDay = flight_day key in
    let ranged = subst (IsKeyRangeOf compare_places (Included (at_flight flight 0)) (Excluded (at_flight flight end)) live) is h in
    let bounds = between flight end first ranged.1.0.0 ranged.1.0.1 in
    let same : first ≡ at_flight flight first.place = placed flight first bounds.0 in
    record {
      below = bounds.1;
      has = subst (λ (place : FlightPlace). contains compare_places live place ≡ true) same ranged.1.1;
      least = λ place has. least_by place has bounds.1 (nat_lt place end) refl ranged.2 same;
    }
  where
    least_by : (place : ℕ) → has_live live key place ≡ true → first.place < end → (b : Bool) → nat_lt place end ≡ b
        → ((q : FlightPlace) → IsInRange compare_places (Included (flight_place key 0)) (Excluded (flight_place key end)) q → IsTrue (contains compare_places live q)
        → IsLeBy compare_places first q) → first ≡ flight_place key first.place → first.place ≤ place
    least_by place has to true earlier all same =
        let up : is_gt (compare_places first (flight_place key place)) ≡ false = all (flight_place key place) (inside (flight_day key) place end (grind (arith, nat_tests))) has in
        let level : is_gt (ordering_then (compare_days (flight_day key) (flight_day key)) (nat_cmp first.place place)) ≡ false =
        subst (λ (p : FlightPlace). is_gt (compare_places p (flight_place key place)) ≡ false) same up in
        up_to_is first.place place (ap (λ r. is_gt (ordering_then r (nat_cmp first.place place))) (sym (tied_itself days_total (flight_day key))) ∙ level)
    least_by place has to false later all same = let past : end ≤ place = grind (arith, nat_tests) in omega arith

-- if nothing lies between, the flight has no place there
pub none_is : (live : BTreeSet FlightPlace) (key : Key) (end : ℕ) (range : List FlightPlace)
    → IsKeyRangeOf compare_places (Included (flight_place key 0)) (Excluded (flight_place key end)) live range → range ≡ []
    → HasNoPlace live key end
none_is live key end range h is place within = h.5 is (flight_place key place) (inside (flight_day key) place end within)

-- a key of the flight is at a place if its test passes there
key_there : (keys : List (Option Key)) (key : Key) (place : ℕ) → place < length keys
    → is_by key (get_or keys place None) ≡ has_place keys (flight_place key place)
key_there keys key place within =
    sym (is_by_day key (get_or keys place None))
    ∙ ap (λ found. option_map_or (flies_on_day (flight_day key)) found false) (sym (slice_get-get_or keys place None within))

position_by : (n m : ℕ) → n < m → cond (nat_lt n m) (Some n) None ≡ Some n
position_by n m h = grind (arith, nat_tests)

-- the first place of the flight in the set is the first among the keys
pub place_found : (live : BTreeSet FlightPlace) (indexed : ℕ) (keys : List (Option Key)) (key : Key) (place : ℕ) → AreFlightPlaces live indexed keys
    → IsFirstPlace live key indexed place → position (is_by key) keys ≡ Some place
place_found live indexed keys key place h first =
    let below : place < indexed = first.below in
    let few : indexed ≤ length keys = h.few in
    let is : position_or_len (is_by key) keys ≡ place =
    position_or_len_is (is_by key) keys place None (omega arith) (λ k earlier. missing k earlier (is_by key (get_or keys k None)) refl)
    (λ within. key_there keys key place within ∙ h.only (flight_place key place) first.has) in
    rw is (position_by place (length keys) (omega arith))
  where
    missing : (k : ℕ) → k < place → (b : Bool) → is_by key (get_or keys k None) ≡ b → b ≡ false
    missing k earlier false is = refl
    missing k earlier true is =
        let below : place < indexed = first.below in
        let few : indexed ≤ length keys = h.few in
        let has = h.all (flight_place key k) (omega arith) (sym (key_there keys key k (omega arith)) ∙ is) in
        let least : place ≤ k = first.least k has in
        absurd (omega arith)

-- the first of the later ones, if none of the first ones passes
skipped : {X : Type 0} (test : X → Bool) (n : ℕ) (xs : List X) (d : X) → n ≤ length xs → ((k : ℕ) → k < n → test (get_or xs k d) ≡ false)
    → position_or_len test xs ≡ n + position_or_len test (drop n xs)
skipped test zero xs d few none = omega arith
skipped test (suc n) [] d few none = absurd (omega arith)
skipped test (suc n) (x ∷ xs) d few none =
    let first : test x ≡ false = none 0 (omega arith) in
    let rest : position_or_len test xs ≡ n + position_or_len test (drop n xs) = skipped test n xs d (omega arith) (λ k below. none (suc k) (omega arith)) in
    rw first (omega (arith, rest))

later_by : (n k size : ℕ) → cond (nat_lt (n + k) size) (Some (n + k)) None ≡ option_map (λ (place : ℕ). n + place) (cond (nat_lt k (size - n)) (Some k) None)
later_by n k size = test (nat_lt k (size - n)) refl
  where
    test : (b : Bool) → nat_lt k (size - n) ≡ b → cond (nat_lt (n + k) size) (Some (n + k)) None ≡ option_map (λ (place : ℕ). n + place) (cond b (Some k) None)
    test true is = grind (arith, nat_tests)
    test false is = grind (arith, nat_tests)

pub place_later : (live : BTreeSet FlightPlace) (indexed : ℕ) (keys : List (Option Key)) (key : Key) → AreFlightPlaces live indexed keys
    → HasNoPlace live key indexed
    → position (is_by key) keys ≡ option_map (λ (place : ℕ). indexed + place) (position (is_by key) (drop indexed keys))
place_later live indexed keys key h none =
    let few : indexed ≤ length keys = h.few in
    let is : position_or_len (is_by key) keys ≡ indexed + position_or_len (is_by key) (drop indexed keys) =
    skipped (is_by key) indexed keys None few (λ k earlier. missing k earlier (is_by key (get_or keys k None)) refl) in
    rw (is, length-drop indexed keys) (later_by indexed (position_or_len (is_by key) (drop indexed keys)) (length keys))
  where
    missing : (k : ℕ) → k < indexed → (b : Bool) → is_by key (get_or keys k None) ≡ b → b ≡ false
    missing k earlier false is = refl
    missing k earlier true is =
        let few : indexed ≤ length keys = h.few in
        let has = h.all (flight_place key k) earlier (sym (key_there keys key k (omega arith)) ∙ is) in
        absurd (cc (sym has ∙ none k earlier))
