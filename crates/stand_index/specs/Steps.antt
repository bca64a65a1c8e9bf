-- How many steps a look into an index takes.
use Rattle.std.specs.Prelude.{ℕ, zero, suc, ◌+◌, ◌-◌, List, length, if◌then◌else◌}
use Rattle.std.specs.Int.{w64, leading_zeros}
use Rattle.apron_base.specs.declared.slot.Slot.{Slot}
use Rattle.stand_index.specs.Blocks.{block, count_blocks, is_reached}
use Rattle.stand_index.specs.Slots.{StandSlots, hits_of}

-- how many bits a count has
abbrev pub count_bits : ℕ
count_bits = 64

-- the number of binary digits, 0 for 0
abbrev pub binary_digits : ℕ → ℕ
binary_digits number = count_bits - leading_zeros w64 number

-- the steps of a look at a block: one for each of its slots if it is reached, and otherwise one
abbrev pub block_steps : ℕ → ℕ → List Slot → ℕ
block_steps from end slots = if is_reached from end slots then length slots else 1

-- the steps of a look at this many blocks of the slots
abbrev pub blocks_steps : ℕ → ℕ → List Slot → ℕ → ℕ
blocks_steps from end slots zero = 0
blocks_steps from end slots (suc before) =
    blocks_steps from end slots before + block_steps from end (block slots before)

-- the most steps of one look: as many as the number of planned slots has binary digits, one more,
-- one for each hit, one for each block of actual slots that is not reached, and one for each slot
-- of those that are
unfoldable pub most_steps : StandSlots → ℕ → ℕ → ℕ
most_steps slots from end =
    binary_digits (length slots.planned) + 1 + length (hits_of slots from end)
    + blocks_steps from end slots.actual (count_blocks slots.actual)
