-- What is known of a listener, and what calls change of it.
use Rattle.std.specs.Prelude.{◌≡◌, ◌+◌, ◌<◌, ◌≤◌, ℕ, true, false, List, ◌∷◌, Option, Result, MatchResult}
use Rattle.std.specs.Option.{option_map}
use Rattle.apron_base.specs.Counts.{Counts, last_count}
use Rattle.apron_base.specs.Keeper.{with_last}
use Rattle.apron_base.specs.declared.listener.Finished.{Finished}

-- the connections to come and the finished ones, if they are exposed; how many were accepted and
-- how many were finished; and how often a call has failed
pub record ListenerState (In Out : Type 0) : Type 0 where
  pub to_come : Option (List (In × Out))
  pub finished : Option (List (Finished In Out))
  pub accepted : ℕ
  pub ended : ℕ
  pub faults : ℕ

-- the first of the connections to come was accepted, and no more had been finished than accepted
pub record TakesFirst {In Out : Type 0} (before after : ListenerState In Out)
    (first : In × Out) : Type 0 where
  pub few : before.accepted < last_count
  pub fewer : before.ended ≤ before.accepted
  pub to_come : before.to_come ≡ option_map (λ others. first ∷ others) after.to_come
  pub accepted : after.accepted ≡ before.accepted + 1
  pub finished : after.finished ≡ before.finished
  pub ended : after.ended ≡ before.ended
  pub faults : Counts false before.faults after.faults

-- no connection was accepted, since a call failed
pub record TakesNone {In Out : Type 0} (before after : ListenerState In Out) : Type 0 where
  pub to_come : after.to_come ≡ before.to_come
  pub accepted : after.accepted ≡ before.accepted
  pub finished : after.finished ≡ before.finished
  pub ended : after.ended ≡ before.ended
  pub faults : Counts true before.faults after.faults

-- a connection was accepted, or the call failed
abbrev pub Accepts : {In Out E : Type 0} → ListenerState In Out → ListenerState In Out
    → Result (In × Out) E → Type 0
Accepts before after result =
    MatchResult result (TakesFirst before after) (λ _. TakesNone before after)

-- a connection is last among the finished ones
pub record Finishes {In Out : Type 0} (before after : ListenerState In Out)
    (last : Finished In Out) : Type 0 where
  pub finished : after.finished ≡ option_map (with_last last) before.finished
  pub ended : after.ended ≡ before.ended + 1
  pub to_come : after.to_come ≡ before.to_come
  pub accepted : after.accepted ≡ before.accepted
  pub faults : Counts false before.faults after.faults
