-- The records of a season file: the visit that the nine fields of a record give.
use Rattle.std.specs.Prelude.{ℕ, ◌==◌, nat_le, List, [], ◌∷◌, length, Option, Some, None, if◌then◌else◌}
use Rattle.std.specs.Option.{option_map}
use Rattle.apron_base.specs.Digits.{number_of}
use Rattle.apron_base.specs.Name.{is_name}
use Rattle.apron_base.specs.OptionChain.{◌>>=◌}
use Rattle.apron_base.specs.declared.numbers.TypeNo.{TypeNo}
use Rattle.apron_rules.specs.Names.{place_of, type_names}
use Rattle.apron_rules.specs.declared.parts.AirportParts.{AirportParts}
use Rattle.mvt_grammar.specs.Flights.{flight_of}
use Rattle.visit_book.specs.NewVisits.{is_in_time}
use Rattle.visit_book.specs.WellFormed.{greatest_class}
use Rattle.visit_book.specs.declared.visits.Key.{Key}
use Rattle.visit_book.specs.declared.visits.NewVisit.{NewVisit}

-- the text, if it is a name
abbrev pub if_name : List ℕ → Option (List ℕ)
if_name text = if is_name text then Some text else None

-- the number of the type that a text names
abbrev pub type_named : AirportParts → List ℕ → Option TypeNo
type_named airport text = do
  name ← if_name text
  option_map (λ place. record { 0 = place }) (place_of name (type_names airport))

-- the number of 1 to 9 digits
abbrev pub number_named : List ℕ → Option ℕ
number_named text = number_of text 9

-- the number of 1 to 9 digits, if it isn't above this one
abbrev pub small_named : ℕ → List ℕ → Option ℕ
small_named most text = number_named text >>= (λ n. if nat_le n most then Some n else None)

-- the key of a flight and a day from 0 to 255
abbrev pub key_with : List ℕ → List ℕ → Option Key
key_with flight day = do
  flight ← flight_of flight
  day ← small_named 255 day
  Some (record { flight = flight; day = day })

-- no key if both are empty, or the key of a flight and a day
abbrev pub key_named : List ℕ → List ℕ → Option (Option Key)
key_named flight day =
    if length flight == 0 then (if length day == 0 then Some None else None)
    else option_map Some (key_with flight day)

-- the visit, if its times are valid at the airport
abbrev pub if_in_time : AirportParts → NewVisit → Option NewVisit
if_in_time airport new = if is_in_time airport new then Some new else None

-- the visit that a record of nine fields gives at the airport: a name, a type of the airport, a
-- class, the minutes on and off block, and the flights that it comes and leaves by, each with its
-- day or both empty
unfoldable pub visit_of_fields : AirportParts → List (List ℕ) → Option NewVisit
visit_of_fields airport (name ∷ kind ∷ class ∷ on ∷ off ∷ arr ∷ arrday ∷ dep ∷ depday ∷ []) = do
  name ← if_name name
  kind ← type_named airport kind
  class ← small_named greatest_class class
  on ← number_named on
  off ← number_named off
  arr ← key_named arr arrday
  dep ← key_named dep depday
  if_in_time airport
      (record { name = name; kind = kind; class = class; on = on; off = off; arr = arr; dep = dep })
visit_of_fields airport _ = None
