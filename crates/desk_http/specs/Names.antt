-- The types and stands that bodies name.
use Rattle.std.specs.Prelude.{ℕ, List, Option}
use Rattle.std.specs.Option.{option_map, option_and_then}
use Rattle.apron_base.specs.declared.numbers.StandNo.{StandNo}
use Rattle.apron_base.specs.declared.numbers.TypeNo.{TypeNo}
use Rattle.apron_rules.specs.Names.{place_of, stand_names, type_names}
use Rattle.apron_rules.specs.declared.parts.AirportParts.{AirportParts}
use Rattle.desk_bodies.specs.Commits.{if_name}

-- the place among names of the name that the text is, if it is one
abbrev pub place_named : List (List ℕ) → List ℕ → Option ℕ
place_named names text = option_and_then (λ name. place_of name names) (if_name text)

-- the stand of this name
abbrev pub stand_named : AirportParts → List ℕ → Option StandNo
stand_named airport text =
    option_map (λ place. record { 0 = place }) (place_named (stand_names airport) text)

-- the type of this name
abbrev pub type_named : AirportParts → List ℕ → Option TypeNo
type_named airport text =
    option_map (λ place. record { 0 = place }) (place_named (type_names airport) text)
