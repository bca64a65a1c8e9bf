-- The text of a season file.
use Rattle.std.specs.Prelude.{ℕ, not, Bool, true, false, List, [], ◌∷◌, ◌++◌, codes, decimal, map, Option}
use Rattle.std.specs.List.{filter, flat_map, join_with_byte}
use Rattle.std.specs.Option.{option_map_or}
use Rattle.apron_base.specs.declared.numbers.TypeNo.{TypeNo}
use Rattle.apron_rules.specs.Rules.{type_at}
use Rattle.apron_rules.specs.declared.parts.AirportParts.{AirportParts}
use Rattle.mvt_grammar.specs.Canonical.{flight_text}
use Rattle.visit_book.specs.NewVisits.{new_of}
use Rattle.visit_book.specs.declared.visits.End.{End}
use Rattle.visit_book.specs.declared.visits.End.TheVariants.{Cancelled}
use Rattle.visit_book.specs.declared.visits.Key.{Key}
use Rattle.visit_book.specs.declared.visits.NewVisit.{NewVisit}
use Rattle.visit_book.specs.declared.visits.Visit.{Visit}

-- fields with a comma between two, and LF
abbrev pub line : List (List ℕ) → List ℕ
line fields = join_with_byte 44 fields ++ 10 ∷ []

-- the columns
abbrev pub columns : List (List ℕ)
columns =
    codes "name" ∷ codes "type" ∷ codes "class" ∷ codes "on" ∷ codes "off"
    ∷ codes "arr" ∷ codes "arrday" ∷ codes "dep" ∷ codes "depday" ∷ []

-- the name of a type, empty if there is none
abbrev pub name_of_type : AirportParts → TypeNo → List ℕ
name_of_type airport kind = option_map_or (λ row. row.name) (type_at airport kind) []

-- the flight of a key, its number without leading zeros; empty if there is no key
abbrev pub flight_field : Option Key → List ℕ
flight_field key = option_map_or (λ key. flight_text key.flight) key []

-- the day of a key; empty if there is no key
abbrev pub day_field : Option Key → List ℕ
day_field key = option_map_or (λ key. decimal key.day) key []

-- the fields of a visit, in order of the columns
abbrev pub visit_fields : AirportParts → NewVisit → List (List ℕ)
visit_fields airport new =
    new.name ∷ name_of_type airport new.kind ∷ decimal new.class ∷ decimal new.on ∷ decimal new.off
    ∷ flight_field new.arr ∷ day_field new.arr ∷ flight_field new.dep ∷ day_field new.dep ∷ []

-- the line of a visit
unfoldable pub visit_line : AirportParts → NewVisit → List ℕ
visit_line airport new = line (visit_fields airport new)

-- the header, and a line for each visit
unfoldable pub season_text : AirportParts → List NewVisit → List ℕ
season_text airport visits = line columns ++ flat_map (visit_line airport) visits

-- the visit ended cancelled
abbrev pub is_cancelled_end : End → Bool
is_cancelled_end Cancelled = true
is_cancelled_end end = false

-- the visit isn't cancelled
abbrev pub is_uncancelled : Visit → Bool
is_uncancelled visit = not (is_cancelled_end visit.end)

-- the data that the uncancelled visits were added with, in their order
abbrev pub season_of : List Visit → List NewVisit
season_of visits = map new_of (filter is_uncancelled visits)
