-- How many steps it takes to look for clashes.
use Rattle.std.specs.Prelude.{ℕ, zero, suc, ◌+◌, max, min, List, length, sum_by}
use Rattle.apron_base.specs.declared.slot.Slot.{Slot}
use Rattle.apron_rules.specs.declared.parts.AirportParts.{AirportParts}
use Rattle.apron_rules.specs.Neighbours.{neighbours_of}
use Rattle.stand_index.specs.Slots.{StandSlots, at_stand}
use Rattle.stand_index.specs.Steps.{most_steps}

-- the most steps of one look at each neighbour of the slot's stand
abbrev pub steps_near : AirportParts → List StandSlots → Slot → ℕ
steps_near airport index slot =
    sum_by (λ stand. most_steps (at_stand index stand) slot.from slot.end)
    (neighbours_of airport slot.stand)

-- the same for the slot's minutes from the first to below the second
abbrev pub steps_within : AirportParts → List StandSlots → Slot → ℕ → ℕ → ℕ
steps_within airport index slot from end =
    sum_by (λ stand. most_steps (at_stand index stand) (max from slot.from) (min end slot.end))
    (neighbours_of airport slot.stand)

-- how many pairs there are among this many
abbrev pub pairs_among : ℕ → ℕ
pairs_among zero = 0
pairs_among (suc before) = pairs_among before + before

-- the most steps for changed slots: for each, a look at each neighbour stand, and one step for each
-- pair of them
abbrev pub steps_of : AirportParts → List StandSlots → List Slot → ℕ
steps_of airport index changed =
    sum_by (steps_near airport index) changed + pairs_among (length changed)
