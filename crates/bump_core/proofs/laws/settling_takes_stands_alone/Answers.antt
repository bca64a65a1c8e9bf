use Rattle.bump_core.proofs.Kept.{changed_numbered, settled_numbered, settled_stays, settled_well_formed}
use Rattle.bump_core.proofs.laws.settling_takes_stands_alone.Goals as goal

pub returns-clause-stays : goal.returns-clause-stays
returns-clause-stays c = settled_stays

pub returns-clause-well_formed : goal.returns-clause-well_formed
returns-clause-well_formed c = settled_well_formed

pub returns-clause-numbered : goal.returns-clause-numbered
returns-clause-numbered c = settled_numbered

pub returns-clause-changed : goal.returns-clause-changed
returns-clause-changed c = changed_numbered
