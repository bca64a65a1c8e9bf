-- Visits by the flights that they come and leave by.
use Rattle.std.specs.Prelude.{◌&&◌, ◌==◌, ℕ, Bool, false, List, Option, find, nat_eq}
use Rattle.std.specs.Option.{option_eq, option_map_or}
use Rattle.std.specs.Str.{bytes_eq}
use Rattle.mvt_grammar.specs.declared.message.Flight.{Flight}
use Rattle.visit_book.specs.declared.visits.Key.{Key}
use Rattle.visit_book.specs.declared.visits.Visit.{Visit}
use Rattle.visit_book.specs.Ends.{is_live}

-- the airline, the number and the suffix are the same
abbrev pub is_same_flight : Flight → Flight → Bool
is_same_flight flight other =
    bytes_eq flight.airline other.airline
    && flight.number == other.number
    && option_eq nat_eq flight.suffix other.suffix

-- the key is of this flight and this day
abbrev pub is_key_of : Flight → ℕ → Key → Bool
is_key_of flight day key = is_same_flight key.flight flight && key.day == day

-- there is a key, of the same flight and day as this one
abbrev pub is_by : Key → Option Key → Bool
is_by key found = option_map_or (is_key_of key.flight key.day) found false

-- the first live visit that comes by this flight
abbrev pub live_arriving : List Visit → Key → Option Visit
live_arriving visits key = find (λ visit. is_live visit && is_by key visit.arr) visits

-- the first live visit that leaves by this flight
abbrev pub live_departing : List Visit → Key → Option Visit
live_departing visits key = find (λ visit. is_live visit && is_by key visit.dep) visits
