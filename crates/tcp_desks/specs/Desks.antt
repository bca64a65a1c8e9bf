-- What contracts see of a listener over TCP.
use Rattle.std.specs.Prelude.{ℕ, None}
use Rattle.apron_base.specs.Listener.{ListenerState}

-- how many connections were accepted, how many were finished, and how often a call failed
pub record DesksState : Type 0 where
  pub accepted : ℕ
  pub ended : ℕ
  pub faults : ℕ

-- what is known of such a listener: it exposes no connection
abbrev pub tcp_listener_state : {In Out : Type 0} → DesksState → ListenerState In Out
tcp_listener_state desks = record {
  to_come = None;
  finished = None;
  accepted = desks.accepted;
  ended = desks.ended;
  faults = desks.faults;
}

-- a listener at which nothing was accepted yet
abbrev pub new_desks : DesksState
new_desks = record { accepted = 0; ended = 0; faults = 0 }
