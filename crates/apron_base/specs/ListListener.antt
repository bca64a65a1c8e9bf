-- What contracts see of the listener in memory.
use Rattle.std.specs.Prelude.{◌≤◌, ◌<◌, ◌+◌, ◌||◌, nat_eq, ℕ, Bool, List, length, Some, Vec, vec_capacity, vec_len}
use Rattle.apron_base.specs.Counts.{last_count}
use Rattle.apron_base.specs.Fails.{FailsHeld, is_to_fail}
use Rattle.apron_base.specs.Listener.{ListenerState}
use Rattle.apron_base.specs.declared.listener.Finished.{Finished}

-- the connections to come, the finished ones, how many were accepted, and the calls that fail
pub record ListenerHeld (In Out : Type 0) : Type 0 where
  pub to_come : List (In × Out)
  pub finished : List (Finished In Out)
  pub accepted : ℕ
  pub fails : FailsHeld

-- what is known of such a listener
abbrev pub list_listener_state : {In Out : Type 0} → ListenerHeld In Out → ListenerState In Out
list_listener_state listener = record {
  to_come = Some listener.to_come;
  finished = Some listener.finished;
  accepted = listener.accepted;
  ended = length listener.finished;
  faults = listener.fails.faults;
}

-- the next call is among those that are to fail, or there is no connection to come
abbrev pub refuses_accept : {In Out : Type 0} → ListenerHeld In Out → Bool
refuses_accept listener = is_to_fail listener.fails || nat_eq (length listener.to_come) 0

-- each accepted connection and each one to come has a place among the finished ones, and a count
-- can hold the number of all
pub record HasPlaces {In Out A : Type 0} (to_come : List (In × Out))
    (finished : Vec (Finished In Out) A) (accepted : ℕ) : Type 0 where
  pub ended : vec_len finished ≤ accepted
  pub places : accepted + length to_come ≤ vec_capacity finished
  pub few : accepted + length to_come < last_count
