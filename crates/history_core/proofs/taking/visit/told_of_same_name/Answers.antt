use Rattle.std.proofs.Common.{◌∙◌, sym}
use Rattle.history_core.proofs.NewVisits.{new_decides}
use Rattle.history_core.proofs.taking.visit.told_of_same_name.Goals as goal

pub returns-then-eq-clause-other : goal.returns-then-eq-clause-other
returns-then-eq-clause-other c other =
    absurd (other (sym c.new_of.ensures.is ∙ (new_decides c.new_of.result c.args.new.now).0 (sym c.eq.ensures ∙ c.if-eq.true)))
