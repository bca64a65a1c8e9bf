use Rattle.visit_effects.proofs.Happenings.{effect_is_one, report_is_one}
use Rattle.visit_effects.proofs.laws.happenings_keep_visits.Goals as goal

pub returns-clause-messages : goal.returns-clause-messages
returns-clause-messages c = effect_is_one

pub returns-clause-reports : goal.returns-clause-reports
returns-clause-reports c = report_is_one
