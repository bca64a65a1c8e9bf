-- The names of an airport.
use Rattle.std.specs.Prelude.{ℕ, Bool, false, ◌&&◌, ◌==◌, nat_le, List, [], ◌∷◌, ◌++◌, length, map, Option, None, Some, is_some, position, if◌then◌else◌}
use Rattle.std.specs.List.{list_all}
use Rattle.std.specs.Str.{bytes_eq}
use Rattle.apron_rules.specs.declared.parts.AirportParts.{AirportParts}

-- the names of the frontages in their order
abbrev pub frontage_names : AirportParts → List (List ℕ)
frontage_names parts = map (λ frontage. frontage.name) parts.frontages

-- the names of the stands in their order
abbrev pub stand_names : AirportParts → List (List ℕ)
stand_names parts = map (λ row. row.name) parts.stands

-- the names of the types in their order
abbrev pub type_names : AirportParts → List (List ℕ)
type_names parts = map (λ row. row.name) parts.types

-- the place of a name in a list of names
abbrev pub place_of : List ℕ → List (List ℕ) → Option ℕ
place_of name names = position (bytes_eq name) names

-- the name is among the names
abbrev pub is_known : List ℕ → List (List ℕ) → Bool
is_known name names = is_some (place_of name names)

-- the first of the rest that is among the names before it
unfoldable pub repeated_after : List (List ℕ) → List (List ℕ) → Option (List ℕ)
repeated_after before [] = None
repeated_after before (name ∷ rest) =
    if is_known name before then Some name else repeated_after (before ++ name ∷ []) rest

-- the first name that repeats an earlier one
abbrev pub first_repeated : List (List ℕ) → Option (List ℕ)
first_repeated names = repeated_after [] names

-- the name is this one
abbrev pub is_named : Option (List ℕ) → List ℕ → Bool
is_named None name = false
is_named (Some whole) name = bytes_eq whole name

-- three capitals
abbrev pub is_station : List ℕ → Bool
is_station text = (length text == 3) && list_all (λ b. nat_le 65 b && nat_le b 90) text
