use Rattle.std.proofs.Common.{take}
use Rattle.std.specs.Prelude.{All}
use Rattle.visit_book.specs.NewVisits.{IsNewVisit, new_of}
use Rattle.test_plans.proofs.tests.replies.are_new_visits.Given as goal

abbrev pub invariant-loop-visit : goal.invariant-loop-visit
invariant-loop-visit l = All (λ visit. IsNewVisit (new_of visit)) (take l.visit-index l.visits)
