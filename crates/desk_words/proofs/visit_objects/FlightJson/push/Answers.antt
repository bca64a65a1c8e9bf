use Rattle.std.proofs.Common.{append_assoc}
use Rattle.desk_words.proofs.Flights.{flight_quoted}
use Rattle.desk_words.proofs.visit_objects.FlightJson.push.Goals as goal

pub returns : goal.returns
returns g c = record {
  text = rw (
    c.in_ok-push-2.ensures.items,
    c.in_ok-push_flight.ensures.text,
    c.in_ok-push.ensures.items,
    flight_quoted c.args.self.now c.requires.can,
  ) (simp append_assoc);
}
