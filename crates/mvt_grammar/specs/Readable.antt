-- Which messages can be read from a text.
use Rattle.std.specs.Prelude.{ℕ, ◌<◌, ◌≤◌, List, Option, IfSome, IsTrue}
use Rattle.mvt_grammar.specs.Bytes.{is_capital, is_station}
use Rattle.mvt_grammar.specs.Flights.{is_airline}
use Rattle.mvt_grammar.specs.Reading.{is_registration}
use Rattle.mvt_grammar.specs.declared.message.Clock.{Clock}
use Rattle.mvt_grammar.specs.declared.message.Flight.{Flight}
use Rattle.mvt_grammar.specs.declared.message.Mvt.{Mvt}

abbrev pub IsDayOfMonth : ℕ → Type 0
IsDayOfMonth day = (1 ≤ day) × (day ≤ 31)

-- a minute of a day, with the day of a month or without
pub record IsClock (clock : Clock) : Type 0 where
  pub day : IfSome clock.day IsDayOfMonth
  pub minute : clock.minute < 1440

pub record IsFlight (flight : Flight) : Type 0 where
  pub airline : IsTrue (is_airline flight.airline)
  pub number : flight.number < 10000
  pub suffix : IfSome flight.suffix (λ b. IsTrue (is_capital b))

-- one time or two
pub record AreTimes (times : Clock × Option Clock) : Type 0 where
  pub first : IsClock times.0
  pub second : IfSome times.1 IsClock

-- a time, and a station of three capitals
pub record IsEstimate (estimate : Clock × List ℕ) : Type 0 where
  pub clock : IsClock estimate.0
  pub station : IsTrue (is_station estimate.1)

-- a message that some text is read as
pub record IsReadable (message : Mvt) : Type 0 where
  pub flight : IsFlight message.flight
  pub day : IsDayOfMonth message.day
  pub registration : IsTrue (is_registration message.registration)
  pub station : IsTrue (is_station message.station)
  pub ad : IfSome message.ad AreTimes
  pub aa : IfSome message.aa AreTimes
  pub ea : IfSome message.ea IsEstimate
  pub ed : IfSome message.ed IsClock
