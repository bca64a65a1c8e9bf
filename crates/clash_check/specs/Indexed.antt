-- The slots of an index, taken together.
use Rattle.std.specs.Prelude.{List, ◌++◌}
use Rattle.std.specs.List.{flat_map}
use Rattle.apron_base.specs.declared.slot.Slot.{Slot}
use Rattle.stand_index.specs.Slots.{StandSlots}

-- the slots of a stand, the planned ones first
abbrev pub slots_at : StandSlots → List Slot
slots_at slots = slots.planned ++ slots.actual

-- the slots of all stands
abbrev pub all_slots : List StandSlots → List Slot
all_slots index = flat_map slots_at index
