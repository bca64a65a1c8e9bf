-- Settling near one changed visit, if the visits were sound before it changed.
use Rattle.std.specs.Prelude.{ℕ, Bool, is_some, not, List, filter, map, if◌then◌else◌}
use Rattle.apron_rules.specs.declared.parts.AirportParts.{AirportParts}
use Rattle.apron_base.specs.declared.slot.Slot.{Slot}
use Rattle.clash_check.specs.Meetings.{meeting}
use Rattle.visit_book.specs.declared.visits.Visit.{Visit}
use Rattle.visit_book.specs.Numbers.{has_number}
use Rattle.bump_core.specs.declared.ranks.Ranked.{Ranked}
use Rattle.bump_core.specs.Ranks.{all_parts_on, blocks, is_free, parts_on}
use Rattle.bump_core.specs.Settle.{settled_visit}

-- the slots clash at some minute
abbrev pub meets : AirportParts → Slot → Slot → Bool
meets airport slot other = is_some (meeting airport slot other)

-- the visits except the one whose place this one takes
abbrev pub others : List Visit → Visit → List Visit
others visits changed = filter (λ visit. not (has_number changed.number visit)) visits

-- the actual parts of the visit
abbrev pub actual_parts : AirportParts → Visit → List Ranked
actual_parts airport visit = filter (λ part. part.slot.actual) (parts_on airport visit)

-- what the actual parts of the changed visit leave of the parts of the others
abbrev pub left_by : AirportParts → List Visit → Visit → List Ranked
left_by airport visits changed =
    filter (is_free (blocks airport) (actual_parts airport changed))
    (all_parts_on airport (others visits changed))

-- first the changed visit is settled against what its actual parts leave of the others
abbrev pub changed_near : AirportParts → ℕ → List Visit → Visit → Visit
changed_near airport entry visits changed =
    settled_visit airport entry (left_by airport visits changed) changed

-- then each other visit is settled against what is left of the changed one
abbrev pub visit_near : AirportParts → ℕ → Visit → Visit → Visit
visit_near airport entry new visit =
    if has_number new.number visit then new
    else settled_visit airport entry (parts_on airport new) visit

-- the visits with the changed one put in, settled near it
abbrev pub settled_near : AirportParts → ℕ → List Visit → Visit → List Visit
settled_near airport entry visits changed =
    map (visit_near airport entry (changed_near airport entry visits changed)) visits
