use Rattle.std.proofs.Common.{◌≤◌, ◌<◌, ◌+◌, ◌-◌, ◌^◌, ℕ, length}
use Rattle.std.specs.List.{AllWithin}
use Rattle.stand_index.specs.Steps.{binary_digits}
use Rattle.stand_index.proofs.search.count_ended.Given as goal

abbrev pub invariant-loop-low : goal.invariant-loop-low
invariant-loop-low g l = record {
  order : l.low ≤ l.high;
  inside : l.high ≤ length l.slots.slots;
  before : AllWithin (λ slot. slot.end ≤ l.minute) l.slots.slots 0 l.low;
  after : AllWithin (λ slot. l.minute < slot.end) l.slots.slots l.high (length l.slots.slots);
  steps : (digits : ℕ) × (l.steps + digits ≤ l.fn.steps + binary_digits (length l.slots.slots)) × (l.high < l.low + 2 ^ digits);
}

abbrev pub decreases-loop-low : goal.decreases-loop-low
decreases-loop-low g l = l.high - l.low
