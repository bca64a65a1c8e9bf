use Rattle.std.proofs.Common.{sym}
use Rattle.history_core.proofs.Desks.{legal_same, replay_same}
use Rattle.history_core.proofs.laws.desks_of_messages_and_reports_change_no_plan.Goals as goal

pub returns : goal.returns
returns c = record {
  legal = λ airport one other same. (legal_same airport one other same, legal_same airport other one (sym same));
  same = replay_same;
}
