-- Where parts are.
use Rattle.std.specs.Prelude.{◌<◌, Bool, true, false, length, Option, None, Some, IfSome}
use Rattle.apron_base.specs.declared.numbers.StandNo.{StandNo}
use Rattle.apron_rules.specs.declared.parts.AirportParts.{AirportParts}
use Rattle.visit_book.specs.declared.visits.Place.{Place}
use Rattle.visit_book.specs.declared.visits.Place.TheVariants.{Unplaced, Planned, Actual}

-- the stand of a place, if it is one
abbrev pub stand_of : Place → Option StandNo
stand_of (Unplaced bump) = None
stand_of (Planned stand) = Some stand
stand_of (Actual stand) = Some stand

-- the place is no stand, or a stand of the airport
abbrev pub IsPlaceOf : AirportParts → Place → Type 0
IsPlaceOf airport place = IfSome (stand_of place) (λ stand. stand.0 < length airport.stands)

-- an aircraft is or was there in fact
abbrev pub is_actual : Place → Bool
is_actual (Actual stand) = true
is_actual place = false
