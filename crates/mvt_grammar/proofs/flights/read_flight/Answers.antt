use Rattle.std.proofs.Common.{◌≡◌, arith}
use Rattle.std.proofs.lemmas.Grind.{common_steps}
use Rattle.mvt_grammar.specs.Flights.{flight_of}
use Rattle.mvt_grammar.proofs.Ranges.{IfSome-flight}
use Rattle.mvt_grammar.proofs.flights.read_flight.Goals as goal

pub returns-clause-form : goal.returns-clause-form
returns-clause-form c =
    let same : c.flight_after.result ≡ flight_of c.args.text.now = grind (arith, common_steps) in
    IfSome-flight c.args.text.now c.flight_after.result same
