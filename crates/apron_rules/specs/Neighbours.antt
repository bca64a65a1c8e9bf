-- Which stands can exclude each other at all.
use Rattle.std.specs.Prelude.{ℕ, zero, suc, Bool, List, [], ◌∷◌, ◌++◌, filter, is_some, length}
use Rattle.std.specs.List.{list_any}
use Rattle.apron_base.specs.declared.numbers.StandNo.{StandNo}
use Rattle.apron_base.specs.declared.numbers.TypeNo.{TypeNo}
use Rattle.apron_rules.specs.declared.parts.AirportParts.{AirportParts}
use Rattle.apron_rules.specs.declared.rules.Wing.TheVariants.{Full}
use Rattle.apron_rules.specs.Rules.{breaks_with_wings}

-- the first n stands, in rising order
abbrev pub first_stands : ℕ → List StandNo
first_stands zero = []
first_stands (suc n) = first_stands n ++ record { 0 = n } ∷ []

-- the first n types
abbrev pub first_types : ℕ → List TypeNo
first_types zero = []
first_types (suc n) = first_types n ++ record { 0 = n } ∷ []

-- with type t on the first stand, some type of the table on the second has a rule, with the wing
-- tips of both unfolded
abbrev pub breaks_with : AirportParts → StandNo → StandNo → TypeNo → Bool
breaks_with airport s s2 t =
    list_any (λ t2. is_some (breaks_with_wings airport s t Full s2 t2 Full))
    (first_types (length airport.types))

-- some two types of the table have a rule on the two stands, with wing tips unfolded, whether they
-- fit there or not
abbrev pub is_neighbour : AirportParts → StandNo → StandNo → Bool
is_neighbour airport s s2 = list_any (breaks_with airport s s2) (first_types (length airport.types))

-- the neighbours of a stand, in rising order
abbrev pub neighbours_of : AirportParts → StandNo → List StandNo
neighbours_of airport s = filter (is_neighbour airport s) (first_stands (length airport.stands))
