-- Changes of the parts of one visit. Minutes count from 00:00 UTC of the first day.
use Rattle.std.specs.Prelude.{◌≤◌, ◌+◌, ◌-◌, ◌++◌, ◌∷◌, [], ◌&&◌, ℕ, Bool, List, Option, None, Some, IfSome, length, take, drop, max, nat_le, nat_lt, if◌then◌else◌}
use Rattle.std.specs.List.{list_any}
use Rattle.std.specs.Option.{option_map, option_and_then}
use Rattle.apron_rules.specs.declared.parts.AirportParts.{AirportParts}
use Rattle.apron_rules.specs.Rules.{least_of}
use Rattle.visit_book.specs.declared.visits.Part.{Part}
use Rattle.visit_book.specs.declared.visits.Place.TheVariants.{Unplaced}
use Rattle.visit_book.specs.declared.visits.Visit.{Visit}
use Rattle.visit_book.specs.PartFields.{most_parts, part_at}
use Rattle.visit_book.specs.Places.{is_actual}

-- the visit with these parts
abbrev pub with_parts : Visit → List Part → Visit
with_parts visit parts = record visit { parts = parts }

-- the part starts at this minute, and ends at least the least minutes later
abbrev pub part_from : ℕ → ℕ → Part → Part
part_from least from part = record part { from = from; to = max part.to (from + least) }

-- the first part starts at this minute at the earliest, and each later one at least the tow minutes
-- after the one before ends
abbrev pub pushed_behind : ℕ → ℕ → ℕ → List Part → List Part
pushed_behind tow least earliest [] = []
pushed_behind tow least earliest (part ∷ parts) =
    let first = part_from least (max earliest part.from) part in
    first ∷ pushed_behind tow least (first.to + tow) parts

-- the first part starts at this minute, and the others are delayed after it
abbrev pub pushed_from : ℕ → ℕ → ℕ → List Part → List Part
pushed_from tow least from [] = []
pushed_from tow least from (part ∷ parts) =
    let first = part_from least from part in
    first ∷ pushed_behind tow least (first.to + tow) parts

-- the parts before the one of this number, counted from 1
abbrev pub before_part : ℕ → List Part → List Part
before_part number parts = take (number - 1) parts

-- the part of this number, counted from 1, and those after it
abbrev pub from_part : ℕ → List Part → List Part
from_part number parts = drop (number - 1) parts

-- the part of this number starts at this minute, and the later ones are delayed as far as needed
abbrev pub push_of : AirportParts → ℕ → ℕ → Visit → Visit
push_of airport number from visit =
    with_parts visit
    (before_part number visit.parts
    ++ pushed_from airport.tow (least_of airport visit.kind) from (from_part number visit.parts))

-- the part can be cut at this minute: both pieces have at least the least minutes, with the tow
-- minutes between them
abbrev pub is_long_enough : ℕ → ℕ → ℕ → Part → Bool
is_long_enough tow least at part = nat_le (part.from + least) at
    && nat_le (at + tow + least) part.to

-- there is room for one more part than these
abbrev pub has_few : List Part → Bool
has_few parts = nat_lt (length parts) most_parts

-- the first part ends at this minute, and an unplaced one follows it
abbrev pub cut_first : ℕ → ℕ → List Part → List Part
cut_first tow at [] = []
cut_first tow at (part ∷ parts) =
    record part { to = at } ∷ record { from = at + tow; to = part.to; place = Unplaced None }
    ∷ parts

-- the visit with the part of this number cut at this minute, if that is possible
abbrev pub cut_of : AirportParts → ℕ → ℕ → Visit → Option Visit
cut_of airport number at visit = option_and_then (λ part.
    if has_few visit.parts && is_long_enough airport.tow (least_of airport visit.kind) at part
    then Some (with_parts visit
    (before_part number visit.parts ++ cut_first airport.tow at (from_part number visit.parts)))
    else None) (part_at visit.parts number)

-- the first part on its stand up to the end of the second, which is removed
abbrev pub join_first : List Part → List Part
join_first [] = []
join_first (part ∷ []) = part ∷ []
join_first (part ∷ (next ∷ parts)) = record part { to = next.to } ∷ parts

-- the visit with the part of this number and the next one joined into one part, if there is a next
-- one
abbrev pub join_of : ℕ → Visit → Option Visit
join_of number visit =
    option_map (λ next. with_parts visit
    (before_part number visit.parts ++ join_first (from_part number visit.parts)))
    (part_at visit.parts (number + 1))

-- a part after the one of this number is actual
abbrev pub has_actual_behind : ℕ → Visit → Bool
has_actual_behind number visit = list_any (λ part. is_actual part.place) (drop number visit.parts)

-- the part of this number may start at this minute: the part before it, if there is one, ends at
-- least the tow minutes earlier
abbrev pub IsTowedBy : AirportParts → ℕ → ℕ → Visit → Type 0
IsTowedBy airport number from visit =
    IfSome (part_at visit.parts (number - 1)) (λ part. part.to + airport.tow ≤ from)
