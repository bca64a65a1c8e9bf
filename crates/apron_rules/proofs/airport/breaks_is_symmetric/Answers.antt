use Rattle.apron_rules.proofs.Symmetry.{breaks_sym}
use Rattle.apron_rules.proofs.airport.breaks_is_symmetric.Goals as goal

pub returns : goal.returns
returns c = record { symmetric = breaks_sym }
