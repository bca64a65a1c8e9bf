use Rattle.mvt_grammar.proofs.FlightsBack.{flight_of-back}
use Rattle.mvt_grammar.proofs.laws.flights_are_read_back.Goals as goal

pub returns : goal.returns
returns c = record { read = flight_of-back }
