-- Visits with a type and stands of the airport, whose parts follow one another.
use Rattle.std.specs.Prelude.{◌≡◌, ◌≤◌, ◌<◌, ◌+◌, ◌*◌, ℕ, false, List, [], ◌∷◌, length, All, None}
use Rattle.apron_base.specs.declared.numbers.TypeNo.{TypeNo}
use Rattle.apron_rules.specs.declared.parts.AirportParts.{AirportParts}
use Rattle.apron_rules.specs.Rules.{least_of}
use Rattle.visit_book.specs.declared.visits.Visit.{Visit}
use Rattle.visit_book.specs.declared.visits.Part.{Part}
use Rattle.visit_book.specs.declared.visits.End.TheVariants.{Cancelled}
use Rattle.visit_book.specs.PartFields.{most_parts}
use Rattle.visit_book.specs.Places.{IsPlaceOf, is_actual, stand_of}

-- the greatest class of a visit
abbrev pub greatest_class : ℕ
greatest_class = 9

-- each part ends after it starts; the first starts at this minute or later, and each other one at
-- least the tow minutes after the one before ends
abbrev pub IsSpaced : ℕ → ℕ → List Part → Type 0
IsSpaced tow start [] = Unit {0}
IsSpaced tow start (part ∷ parts) =
    (start ≤ part.from) × (part.from < part.to) × IsSpaced tow (part.to + tow) parts

-- the minute after the plan's last
abbrev pub plan_end : AirportParts → ℕ
plan_end airport = 1440 * airport.days

-- the minute after the plan's last, plus the least minutes of three parts of the type with two tows
-- between
abbrev pub latest_end : AirportParts → TypeNo → ℕ
latest_end airport kind = plan_end airport + 3 * least_of airport kind + 2 * airport.tow

-- a part that is shorter than the least minutes of the type ends before the plan does
abbrev pub IsEarlyIfShort : AirportParts → TypeNo → Part → Type 0
IsEarlyIfShort airport kind part = part.to < part.from + least_of airport kind
    → part.to < plan_end airport

-- a type and stands of the airport; a class; one to three parts that follow one another; none ends
-- later after the plan than three parts of the type's least minutes with two tows take; none is
-- short at the plan's end; none is actual before the visit is on block; and none is on a stand once
-- the visit is cancelled
pub record IsWellFormed (airport : AirportParts) (visit : Visit) : Type 0 where
  pub kind : visit.kind.0 < length airport.types
  pub class : visit.class ≤ greatest_class
  pub some : 1 ≤ length visit.parts
  pub few : length visit.parts ≤ most_parts
  pub spaced : IsSpaced airport.tow 0 visit.parts
  pub ends : All (λ part. part.to ≤ latest_end airport visit.kind) visit.parts
  pub short : All (IsEarlyIfShort airport visit.kind) visit.parts
  pub places : All (λ part. IsPlaceOf airport part.place) visit.parts
  pub facts : visit.on_block ≡ false → All (λ part. is_actual part.place ≡ false) visit.parts
  pub cancelled : visit.end ≡ Cancelled → All (λ part. stand_of part.place ≡ None) visit.parts
