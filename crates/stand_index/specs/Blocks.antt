-- Slots in blocks of 64, which a look passes over.
use Rattle.std.specs.Prelude.{◌≡◌, ◌<◌, ◌≤◌, ◌+◌, ◌*◌, ◌/◌, ◌&&◌, ℕ, Bool, nat_lt, List, length, take, drop, slice_index}
use Rattle.std.specs.List.{list_any}
use Rattle.apron_base.specs.declared.slot.Slot.{Slot}
use Rattle.stand_index.specs.Slots.{IsByStart}

-- the slots of the block of this number, counted from 0; the last block may have fewer than 64
unfoldable pub block : List Slot → ℕ → List Slot
block slots number = take 64 (drop (number * 64) slots)

-- how many blocks the slots make
abbrev pub count_blocks : List Slot → ℕ
count_blocks slots = (length slots + 63) / 64

-- a slot starts before the minute
abbrev pub slot_starts_before : ℕ → Slot → Bool
slot_starts_before minute slot = nat_lt slot.from minute

-- a slot ends after the minute
abbrev pub ends_after : ℕ → Slot → Bool
ends_after minute slot = nat_lt minute slot.end

-- a slot of the block starts before end, and one ends after from
abbrev pub is_reached : ℕ → ℕ → List Slot → Bool
is_reached from end slots = list_any (slot_starts_before end) slots
    && list_any (ends_after from) slots

-- the last of the slots ends at this minute, which is 0 if there is none
abbrev pub IsLastEnd : List Slot → ℕ → Type 0
IsLastEnd slots last = (minute : ℕ) → list_any (ends_after minute) slots ≡ nat_lt minute last

-- the first blocks of the slots end at these minutes
abbrev pub AreLastEnds : List Slot → List ℕ → Type 0
AreLastEnds slots ends =
    (number : ℕ) → number < length ends → IsLastEnd (block slots number) (slice_index ends number)

-- the slots are in order of their start, and their blocks end at these minutes
pub record AreInBlocks (slots : List Slot) (ends : List ℕ) : Type 0 where
  pub order : IsByStart slots
  pub whole : length slots ≤ length ends * 64
  pub last : length ends * 64 < length slots + 64
  pub each : AreLastEnds slots ends
