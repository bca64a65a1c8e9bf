-- What settling makes of visits: each planned part that does not stay loses its stand to the best
-- part that stays and clashes with it.
use Rattle.std.specs.Prelude.{◌+◌, ◌∷◌, [], ℕ, List, Option, None, Some, filter_map, fold, map, if◌then◌else◌}
use Rattle.apron_base.specs.declared.numbers.StandNo.{StandNo}
use Rattle.apron_rules.specs.declared.parts.AirportParts.{AirportParts}
use Rattle.visit_book.specs.declared.visits.Part.{Part}
use Rattle.visit_book.specs.declared.visits.Place.{Place}
use Rattle.visit_book.specs.declared.visits.Place.TheVariants.{Unplaced, Planned, Actual}
use Rattle.visit_book.specs.declared.visits.Visit.{Visit}
use Rattle.visit_book.specs.Slots.{slot_on}
use Rattle.bump_core.specs.declared.ranks.Ranked.{Ranked}
use Rattle.bump_core.specs.declared.ranks.Conflict.{Conflict}
use Rattle.bump_core.specs.Ranks.{all_parts_on, blocks_before, conflict, kept_of, ranked_part}

-- the one whose blocker is better
abbrev pub with_better : Option Conflict → Conflict → Option Conflict
with_better None found = Some found
with_better (Some best) found =
    if blocks_before found.blocker best.blocker then Some found else Some best

-- the one with the best blocker
abbrev pub best : List Conflict → Option Conflict
best conflicts = fold with_better None conflicts

-- what blocks a part, among the parts that are kept
abbrev pub conflicts : AirportParts → List Ranked → Ranked → List Conflict
conflicts airport kept part = filter_map (λ other. conflict airport other part) kept

-- the place of a part that had this stand: what blocks it takes the stand, and the record says so
-- with the entry's number
abbrev pub place_after : ℕ → StandNo → Option Conflict → Place
place_after entry stand None = Planned stand
place_after entry stand (Some found) =
    Unplaced (Some (record {
      stand = stand;
      entry = entry;
      blocker = found.blocker.slot.part;
      minute = found.minute;
      rule = found.rule;
    }))

-- the place of a part of the visit: only a planned one loses its stand, to the best kept part that
-- blocks it
abbrev pub settled_place : AirportParts → ℕ → List Ranked → Visit → ℕ → Part → Place → Place
settled_place airport entry kept visit number part (Unplaced bump) = Unplaced bump
settled_place airport entry kept visit number part (Actual stand) = Actual stand
settled_place airport entry kept visit number part (Planned stand) =
    place_after entry stand
    (best (conflicts airport kept (ranked_part visit (slot_on airport visit number part stand))))

-- the parts of the visit, the first of which has this number
abbrev pub settled_parts : AirportParts → ℕ → List Ranked → Visit → ℕ → List Part → List Part
settled_parts airport entry kept visit number [] = []
settled_parts airport entry kept visit number (part ∷ parts) =
    record part { place = settled_place airport entry kept visit number part part.place } ∷
    settled_parts airport entry kept visit (number + 1) parts

-- the visit, settled by this entry against the parts that are kept
abbrev pub settled_visit : AirportParts → ℕ → List Ranked → Visit → Visit
settled_visit airport entry kept visit = record visit {
  parts = settled_parts airport entry kept visit 1 visit.parts;
}

-- the visits, settled by this entry
abbrev pub settle : AirportParts → ℕ → List Visit → List Visit
settle airport entry visits =
    map (settled_visit airport entry (kept_of airport (all_parts_on airport visits))) visits
