-- The minutes at which a clash of two slots can begin.
use Rattle.std.specs.Prelude.{◌≡◌, ◌-◌, max, min, ℕ}
use Rattle.apron_base.specs.declared.slot.Slot.{Slot}
use Rattle.apron_rules.specs.declared.clash.Starts.{Starts}
use Rattle.apron_rules.specs.declared.parts.AirportParts.{AirportParts}
use Rattle.apron_rules.specs.Rules.{buffer_of, fold_of}

-- the minute from which the wing tips of the slot's aircraft are unfolded until it leaves
abbrev pub unfolds : AirportParts → Slot → ℕ
unfolds airport slot = slot.end - buffer_of airport slot.stand - fold_of airport slot.kind

-- the first minute from this one on at which both slots have begun; then the minutes from which one
-- of the two aircraft, and from which both, have unfolded their wing tips to leave
pub record AreStarts (airport : AirportParts) (slot other : Slot) (from : ℕ)
    (starts : Starts) : Type 0 where
  pub shared : starts.shared ≡ max from (max slot.from other.from)
  pub unfolded : starts.unfolded
      ≡ min (max starts.shared (unfolds airport slot)) (max starts.shared (unfolds airport other))
  pub both_unfolded : starts.both_unfolded
      ≡ max (max starts.shared (unfolds airport slot)) (max starts.shared (unfolds airport other))
