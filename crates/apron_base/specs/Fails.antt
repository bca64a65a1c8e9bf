-- Calls that fail on command.
use Rattle.std.specs.Prelude.{◌==◌, ℕ, Bool, true, false, List}
use Rattle.std.specs.List.{list_any}
use Rattle.apron_base.specs.Counts.{one_more}

-- the numbers of the calls that are to fail, how many calls there were, and how many failed
pub record FailsHeld : Type 0 where
  pub numbers : List ℕ
  pub calls : ℕ
  pub faults : ℕ

-- no call was made yet
abbrev pub fails_from : List ℕ → FailsHeld
fails_from numbers = record { numbers = numbers; calls = 0; faults = 0 }

-- the next call is among those that are to fail
abbrev pub is_to_fail : FailsHeld → Bool
is_to_fail held = list_any (λ number. number == held.calls) held.numbers

-- the same after a call
abbrev pub fails_after_call : FailsHeld → FailsHeld
fails_after_call held = record held { calls = one_more held.calls }

-- the same after a fault
abbrev pub after_fault : FailsHeld → FailsHeld
after_fault held = record held { faults = one_more held.faults }

-- the same after a call that failed or not
abbrev pub fails_after_count : Bool → FailsHeld → FailsHeld
fails_after_count false held = fails_after_call held
fails_after_count true held = after_fault (fails_after_call held)
