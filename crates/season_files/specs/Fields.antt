-- A record as it is read, field by field at its place; it gives the same visit.
use Rattle.std.specs.Prelude.{ℕ, ◌+◌, ◌&&◌, ◌==◌, Bool, false, List, length, codes, Option, Some, None, if◌then◌else◌}
use Rattle.std.specs.Str.{bytes_eq}
use Rattle.apron_base.specs.OptionChain.{◌>>=◌}
use Rattle.apron_base.specs.declared.numbers.TypeNo.{TypeNo}
use Rattle.apron_rules.specs.declared.parts.AirportParts.{AirportParts}
use Rattle.csv.specs.Records.{field_at}
use Rattle.visit_book.specs.WellFormed.{greatest_class}
use Rattle.visit_book.specs.declared.visits.Key.{Key}
use Rattle.visit_book.specs.declared.visits.NewVisit.{NewVisit}
use Rattle.season_files.specs.Records.{if_in_time, if_name, key_named, number_named, small_named, type_named}

-- the field exists and is this word
abbrev pub field_is : List ℕ → Option (List ℕ) → Bool
field_is word None = false
field_is word (Some field) = bytes_eq field word

-- the field of this place is this word
abbrev pub is_field : List (List ℕ) → ℕ → List ℕ → Bool
is_field fields i word = field_is word (field_at fields i)

-- the columns of what every visit has
abbrev pub heads_visit : List (List ℕ) → Bool
heads_visit fields =
    is_field fields 0 (codes "name")
    && (is_field fields 1 (codes "type")
    && (is_field fields 2 (codes "class")
    && (is_field fields 3 (codes "on") && is_field fields 4 (codes "off"))))

-- the columns of the flights
abbrev pub heads_flights : List (List ℕ) → Bool
heads_flights fields =
    is_field fields 5 (codes "arr")
    && (is_field fields 6 (codes "arrday")
    && (is_field fields 7 (codes "dep") && is_field fields 8 (codes "depday")))

-- the first record: name, type, class, on, off, arr, arrday, dep, depday
unfoldable pub is_header : List (List ℕ) → Bool
is_header fields = (length fields == 9) && (heads_visit fields && heads_flights fields)

-- the name in the field of this place
abbrev pub name_in : List (List ℕ) → ℕ → Option (List ℕ)
name_in fields i = field_at fields i >>= if_name

-- the type that the field of this place names
abbrev pub type_in : AirportParts → List (List ℕ) → ℕ → Option TypeNo
type_in airport fields i = field_at fields i >>= type_named airport

-- the class in the field of this place
abbrev pub class_in : List (List ℕ) → ℕ → Option ℕ
class_in fields i = field_at fields i >>= small_named greatest_class

-- the number in the field of this place
abbrev pub number_in : List (List ℕ) → ℕ → Option ℕ
number_in fields i = field_at fields i >>= number_named

-- the key of the two fields from this place on
unfoldable pub key_in : List (List ℕ) → ℕ → Option (Option Key)
key_in fields i = do
  flight ← field_at fields i
  day ← field_at fields (i + 1)
  key_named flight day

-- the visit of nine fields
unfoldable pub visit_in : AirportParts → List (List ℕ) → Option NewVisit
visit_in airport fields = do
  name ← name_in fields 0
  kind ← type_in airport fields 1
  class ← class_in fields 2
  on ← number_in fields 3
  off ← number_in fields 4
  arr ← key_in fields 5
  dep ← key_in fields 7
  if_in_time airport
      (record { name = name; kind = kind; class = class; on = on; off = off; arr = arr; dep = dep })

-- the visit of a record, if it has nine fields
abbrev pub visit_of_record : AirportParts → List (List ℕ) → Option NewVisit
visit_of_record airport fields = if length fields == 9 then visit_in airport fields else None
