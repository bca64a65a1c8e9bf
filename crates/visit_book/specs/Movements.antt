-- What happens to a visit in fact. Minutes count from 00:00 UTC of the first day.
use Rattle.std.specs.Prelude.{◌+◌, ◌-◌, ◌++◌, ◌∷◌, [], ◌&&◌, ℕ, Bool, true, false, not, List, Option, None, Some, filter, map, max, nat_le, nat_lt, if◌then◌else◌}
use Rattle.std.specs.Option.{option_map_or}
use Rattle.apron_base.specs.declared.numbers.StandNo.{StandNo}
use Rattle.apron_rules.specs.declared.parts.AirportParts.{AirportParts}
use Rattle.apron_rules.specs.Rules.{least_of}
use Rattle.visit_book.specs.declared.visits.End.TheVariants.{Gone}
use Rattle.visit_book.specs.declared.visits.Part.{Part}
use Rattle.visit_book.specs.declared.visits.Place.{Place}
use Rattle.visit_book.specs.declared.visits.Place.TheVariants.{Planned, Actual}
use Rattle.visit_book.specs.declared.visits.Visit.{Visit}
use Rattle.visit_book.specs.Changes.{before_part, from_part, has_actual_behind, pushed_from, with_parts}
use Rattle.visit_book.specs.PartFields.{part_at}

-- the same place, with its stand held in fact
abbrev pub in_fact : Place → Place
in_fact (Planned stand) = Actual stand
in_fact place = place

-- the part, on its stand in fact if it has one
abbrev pub made_actual : Part → Part
made_actual part = record part { place = in_fact part.place }

-- the last of these parts ends at this minute
abbrev pub last_ended : ℕ → List Part → List Part
last_ended at [] = []
last_ended at (part ∷ []) = record part { to = at } ∷ []
last_ended at (part ∷ (next ∷ parts)) = part ∷ last_ended at (next ∷ parts)

-- the part, planned on this stand if one is given
abbrev pub on_given : Option StandNo → Part → Part
on_given None part = part
on_given (Some stand) part = record part { place = Planned stand }

-- the first of these parts is on block, on the given stand if there is one
abbrev pub first_on_block : Option StandNo → List Part → List Part
first_on_block given [] = []
first_on_block given (part ∷ parts) = made_actual (on_given given part) ∷ parts

-- the part before the one of this number, if there is one, starts at least one minute plus the tow
-- minutes before this minute
abbrev pub has_time_to_tow : ℕ → ℕ → ℕ → List Part → Bool
has_time_to_tow tow number at parts =
    option_map_or (λ part. nat_le (part.from + 1 + tow) at) (part_at parts (number - 1)) true

-- the visit on block at this minute with the part of this number: the part before it ends the tow
-- minutes earlier, the parts up to it are on their stands in fact, and the later ones are delayed
-- as far as needed
abbrev pub visit_after_arrival : AirportParts → ℕ → ℕ → Option StandNo → Visit → Visit
visit_after_arrival airport number at given visit = record visit {
  parts = map made_actual (last_ended (at - airport.tow) (before_part number visit.parts))
      ++ pushed_from airport.tow (least_of airport visit.kind) at
      (first_on_block given (from_part number visit.parts));
  on_block = true;
}

-- the visit on block at this minute with the part of this number, if that is possible: no later
-- part is actual, and there is time to tow
abbrev pub arrive_of : AirportParts → ℕ → ℕ → Option StandNo → Visit → Option Visit
arrive_of airport number at given visit =
    if not (has_actual_behind number visit) && has_time_to_tow airport.tow number at visit.parts
    then Some (visit_after_arrival airport number at given visit)
    else None

-- the last of these parts ends at this minute, or as much later as needed to have the least minutes
abbrev pub last_expected : ℕ → ℕ → List Part → List Part
last_expected least at [] = []
last_expected least at (part ∷ []) = record part { to = max at (part.from + least) } ∷ []
last_expected least at (part ∷ (next ∷ parts)) = part ∷ last_expected least at (next ∷ parts)

-- the visit, expected off block at this minute
abbrev pub estimate_off_of : AirportParts → ℕ → Visit → Visit
estimate_off_of airport at visit =
    with_parts visit (last_expected (least_of airport visit.kind) at visit.parts)

-- the part starts before this minute
abbrev pub starts_before : ℕ → Part → Bool
starts_before at part = nat_lt part.from at

-- the visit gone at this minute: the parts that start before it are on their stands in fact, and
-- the last of them ends at it
abbrev pub visit_after_departure : ℕ → Visit → Visit
visit_after_departure at visit = record visit {
  parts = map made_actual (last_ended at (filter (starts_before at) visit.parts));
  on_block = true;
  end = Gone;
}

-- the first of these parts starts before this minute
abbrev pub first_starts_before : ℕ → List Part → Bool
first_starts_before at [] = false
first_starts_before at (part ∷ parts) = starts_before at part

-- the visit gone at this minute, if that is possible: its first part starts before it
abbrev pub depart_of : ℕ → Visit → Option Visit
depart_of at visit =
    if first_starts_before at visit.parts then Some (visit_after_departure at visit) else None
