-- Where the live visits of each flight are in a list of visits.
use Rattle.std.specs.Prelude.{◌≡◌, ◌≤◌, ◌<◌, ◌==◌, ◌&&◌, ◌++◌, ◌∷◌, [], ℕ, Bool, true, false, List, Option, Some, length, nat_eq, nat_lt, slice_get, slice_set, if◌then◌else◌}
use Rattle.std.specs.BTreeSet.{BTreeSet, contains}
use Rattle.std.specs.Cmp.Lexicographic.{slice_cmp}
use Rattle.std.specs.Option.{option_cmp, option_eq, option_map_or}
use Rattle.std.specs.Ordering.{nat_cmp, ordering_then}
use Rattle.std.specs.Str.{bytes_eq}
use Rattle.std.specs.declared.cmp.Ordering.{Ordering}
use Rattle.visit_book.specs.declared.visits.Key.{Key}
use Rattle.plan_core.specs.declared.flights.FlightDay.{FlightDay}
use Rattle.plan_core.specs.declared.flights.FlightPlace.{FlightPlace}

-- the keys of the live visits in the places of all visits, and how many can be added without
-- taking memory
pub record KeysHeld : Type 0 where
  pub keys : List (Option Key)
  pub room : ℕ

-- the keys with this one at its place, or last
abbrev pub put_key : List (Option Key) → ℕ → Option Key → List (Option Key)
put_key keys place key =
    if nat_lt place (length keys) then slice_set keys place key else keys ++ key ∷ []

-- there is no key at this place, or no new one, or they are the same
abbrev pub KeepsKey : List (Option Key) → ℕ → Option Key → Type 0
KeepsKey keys place key =
    (old new : Key) → slice_get keys place ≡ Some (Some old) → key ≡ Some new → old ≡ new

-- the flight and the day of a key
abbrev pub flight_day : Key → FlightDay
flight_day key = record {
  airline = key.flight.airline;
  number = key.flight.number;
  suffix = key.flight.suffix;
  day = key.day;
}

-- the flights and the days are the same
abbrev pub is_same_day : FlightDay → FlightDay → Bool
is_same_day flight other =
    bytes_eq flight.airline other.airline
    && (flight.number == other.number
    && (option_eq nat_eq flight.suffix other.suffix && flight.day == other.day))

-- the order of flights and days
abbrev pub compare_days : FlightDay → FlightDay → Ordering
compare_days flight other =
    ordering_then (slice_cmp nat_cmp flight.airline other.airline)
    (ordering_then (nat_cmp flight.number other.number)
    (ordering_then (option_cmp nat_cmp flight.suffix other.suffix)
    (nat_cmp flight.day other.day)))

-- the order of places: by the flight and the day first
abbrev pub compare_places : FlightPlace → FlightPlace → Ordering
compare_places place other =
    ordering_then (compare_days place.flight other.flight) (nat_cmp place.place other.place)

-- a place of the key's flight
abbrev pub flight_place : Key → ℕ → FlightPlace
flight_place key place = record { flight = flight_day key; place = place }

-- the set has this place of the key's flight
abbrev pub has_live : BTreeSet FlightPlace → Key → ℕ → Bool
has_live live key place = contains compare_places live (flight_place key place)

-- there is a key, of this flight and day
abbrev pub flies_on_day : FlightDay → Option Key → Bool
flies_on_day flight found = option_map_or (λ key. is_same_day (flight_day key) flight) found false

-- the key at this place is of its flight and day
abbrev pub has_place : List (Option Key) → FlightPlace → Bool
has_place keys place = option_map_or (flies_on_day place.flight) (slice_get keys place.place) false

-- the set has only places of the keys, and all of those among this many first ones
pub record AreFlightPlaces (live : BTreeSet FlightPlace) (indexed : ℕ)
    (keys : List (Option Key)) : Type 0 where
  pub few : indexed ≤ length keys
  pub only : (place : FlightPlace)
      → contains compare_places live place ≡ true
      → has_place keys place ≡ true
  pub all : (place : FlightPlace)
      → place.place < indexed
      → has_place keys place ≡ true
      → contains compare_places live place ≡ true

-- the place is the first of the key's flight in the set, and below this end
pub record IsFirstPlace (live : BTreeSet FlightPlace) (key : Key) (end first : ℕ) : Type 0 where
  pub below : first < end
  pub has : has_live live key first ≡ true
  pub least : (place : ℕ) → has_live live key place ≡ true → first ≤ place

-- the set has no place of the key's flight below this end
abbrev pub HasNoPlace : BTreeSet FlightPlace → Key → ℕ → Type 0
HasNoPlace live key end = (place : ℕ) → place < end → has_live live key place ≡ false
