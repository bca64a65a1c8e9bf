-- The lists from which settling near a changed visit is decided.
use Rattle.std.specs.Prelude.{◌+◌, ◌==◌, ◌∷◌, [], ℕ, Bool, not, ◌&&◌, ◌||◌, List, Option, None, Some, filter, filter_map, map, option_and_then, option_map, if◌then◌else◌}
use Rattle.std.specs.List.{flat_map, list_any}
use Rattle.apron_base.specs.declared.numbers.PartId.{PartId}
use Rattle.apron_base.specs.declared.numbers.VisitNo.{VisitNo}
use Rattle.apron_rules.specs.declared.parts.AirportParts.{AirportParts}
use Rattle.apron_rules.specs.declared.rules.Clash.{Clash}
use Rattle.clash_check.specs.Meetings.{meeting}
use Rattle.visit_book.specs.declared.visits.Part.{Part}
use Rattle.visit_book.specs.declared.visits.Place.{Place}
use Rattle.visit_book.specs.declared.visits.Place.TheVariants.{Unplaced, Planned, Actual}
use Rattle.visit_book.specs.declared.visits.Visit.{Visit}
use Rattle.visit_book.specs.Numbers.{has_number, visit_at}
use Rattle.visit_book.specs.PartFields.{part_at}
use Rattle.visit_book.specs.Slots.{slot_of}
use Rattle.bump_core.specs.declared.ranks.Conflict.{Conflict}
use Rattle.bump_core.specs.declared.ranks.KeptClash.{KeptClash}
use Rattle.bump_core.specs.declared.ranks.Ranked.{Ranked}
use Rattle.bump_core.specs.Ranks.{all_parts_on, may_block, parts_on, ranked_part}
use Rattle.bump_core.specs.Settle.{best, place_after}

-- it is the same part
abbrev pub is_same_part : PartId → PartId → Bool
is_same_part part other = part.visit.0 == other.visit.0 && part.part == other.part

-- the part of this number of the visit, if it is on a stand
abbrev pub part_on : AirportParts → Visit → ℕ → Option Ranked
part_on airport visit number =
    option_map (ranked_part visit)
    (option_and_then (slot_of airport visit number) (part_at visit.parts number))

-- the part of these numbers, if it is on a stand
abbrev pub part_called : AirportParts → List Visit → PartId → Option Ranked
part_called airport visits id =
    option_and_then (λ visit. part_on airport visit id.part) (visit_at visits id.visit)

-- the clash of an own part with another, if they clash
unfoldable pub kept_clash : AirportParts → Ranked → Ranked → Option KeptClash
kept_clash airport own other =
    option_map (λ at. record { own = own; other = other; minute = at.minute; rule = at.rule })
    (meeting airport own.slot other.slot)

-- the same, from the clash of their slots
abbrev pub kept_clash_at : AirportParts → List Visit → Ranked → Clash → Option KeptClash
kept_clash_at airport visits own clash =
    option_map
    (λ other. record { own = own; other = other; minute = clash.minute; rule = clash.rule })
    (part_called airport visits clash.b)

-- the clashes of an own part with these
abbrev pub kept_clashes_of_part : AirportParts → List Ranked → Ranked → List KeptClash
kept_clashes_of_part airport parts own = filter_map (kept_clash airport own) parts

-- the clashes of own parts with these, part by part
abbrev pub kept_clashes_of_parts : AirportParts → List Ranked → List Ranked → List KeptClash
kept_clashes_of_parts airport owns parts = flat_map (kept_clashes_of_part airport parts) owns

-- the other part blocks the own one
abbrev pub by_other : KeptClash → Option Conflict
by_other kept_clash =
    if may_block kept_clash.other kept_clash.own
    then Some (record {
      blocker = kept_clash.other;
      blocked = kept_clash.own;
      minute = kept_clash.minute;
      rule = kept_clash.rule;
    })
    else None

-- the own part blocks the other one
abbrev pub by_own : KeptClash → Option Conflict
by_own kept_clash =
    if may_block kept_clash.own kept_clash.other
    then Some (record {
      blocker = kept_clash.own;
      blocked = kept_clash.other;
      minute = kept_clash.minute;
      rule = kept_clash.rule;
    })
    else None

-- the own part is actual and blocks this one
abbrev pub takes : Ranked → KeptClash → Bool
takes other kept_clash =
    kept_clash.own.slot.actual
    && (may_block kept_clash.own kept_clash.other
    && is_same_part other.slot.part kept_clash.other.slot.part)

-- an actual own part blocks it
abbrev pub is_taken : List KeptClash → Ranked → Bool
is_taken mets other = list_any (takes other) mets

-- what blocks own parts, of those that no actual own part blocks
abbrev pub against_own : List KeptClash → List Conflict
against_own mets =
    filter_map by_other (filter (λ kept_clash. not (is_taken mets kept_clash.other)) mets)

-- it is the part that is blocked
abbrev pub is_of : PartId → Conflict → Bool
is_of id blocking = is_same_part id blocking.blocked.slot.part

-- one of these blocks the part
abbrev pub is_blocked : List Conflict → PartId → Bool
is_blocked blockings id = list_any (is_of id) blockings

-- what own parts block, of those that nothing blocks
abbrev pub against_others : List KeptClash → List Conflict → List Conflict
against_others mets blockings =
    filter_map by_own
    (filter (λ kept_clash. not (is_blocked blockings kept_clash.own.slot.part)) mets)

-- the place of a part by what blocks it
abbrev pub place_by : ℕ → List Conflict → PartId → Place → Place
place_by entry blockings id (Unplaced bump) = Unplaced bump
place_by entry blockings id (Actual stand) = Actual stand
place_by entry blockings id (Planned stand) =
    place_after entry stand (best (filter (is_of id) blockings))

-- a part by what blocks it
abbrev pub part_by : ℕ → List Conflict → PartId → Part → Part
part_by entry blockings id part = record part { place = place_by entry blockings id part.place }

-- the parts of the visit, the first of which has this number, by what blocks them
abbrev pub parts_by : ℕ → List Conflict → VisitNo → ℕ → List Part → List Part
parts_by entry blockings visit number [] = []
parts_by entry blockings visit number (part ∷ parts) =
    part_by entry blockings (record { visit = visit; part = number }) part
    ∷ parts_by entry blockings visit (number + 1) parts

-- the visit by what blocks its parts
abbrev pub visit_by : ℕ → List Conflict → Visit → Visit
visit_by entry blockings visit = record visit {
  parts = parts_by entry blockings visit.number 1 visit.parts;
}

-- the blocked part is of the visit of this number
abbrev pub is_in : ℕ → Conflict → Bool
is_in number blocking = blocking.blocked.slot.part.visit.0 == number

-- the visit of this number changes: a part of it is blocked, or it is the changed one
abbrev pub is_touched : List Conflict → VisitNo → ℕ → Bool
is_touched blockings changed number = list_any (is_in number) blockings || changed.0 == number

-- the visits that change
abbrev pub touched_visits : List Conflict → VisitNo → List Visit → List Visit
touched_visits blockings changed visits =
    filter (λ visit. is_touched blockings changed visit.number.0) visits

-- a visit as it will be: the changed one, or another by what blocks its parts
abbrev pub after_by : ℕ → Visit → List Conflict → Visit → Visit
after_by entry new blockings visit =
    if has_number new.number visit then new else visit_by entry blockings visit

-- the visits that change, as they will be
abbrev pub changes_by : ℕ → Visit → List Conflict → List Visit → List Visit
changes_by entry new blockings visits =
    map (after_by entry new blockings) (touched_visits blockings new.number visits)

-- the clashes of the parts of a changed visit with parts of the visits
abbrev pub kept_clashes : AirportParts → List Visit → Visit → List KeptClash
kept_clashes airport visits changed =
    kept_clashes_of_parts airport (parts_on airport changed) (all_parts_on airport visits)

-- what blocks the parts of the changed visit
abbrev pub own_conflicts : AirportParts → List Visit → Visit → List Conflict
own_conflicts airport visits changed = against_own (kept_clashes airport visits changed)

-- what the parts of the changed visit block
abbrev pub other_conflicts : AirportParts → List Visit → Visit → List Conflict
other_conflicts airport visits changed =
    against_others (kept_clashes airport visits changed) (own_conflicts airport visits changed)

-- the visits that an entry changes, as they will be, if it changes this one
abbrev pub changes_near : AirportParts → ℕ → List Visit → Visit → List Visit
changes_near airport entry visits changed =
    changes_by entry (visit_by entry (own_conflicts airport visits changed) changed)
    (other_conflicts airport visits changed) visits
