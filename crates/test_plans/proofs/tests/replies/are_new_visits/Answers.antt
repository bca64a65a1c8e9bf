use Rattle.std.proofs.Common.{sym, subst, take, get_or}
use Rattle.std.specs.Prelude.{All}
use Rattle.std.proofs.lemmas.List.{take_more}
use Rattle.std.proofs.lemmas.List.Elements.{All-push}
use Rattle.visit_book.specs.NewVisits.{IsNewVisit, new_of}
use Rattle.visit_book.specs.declared.visits.Visit.{Visit}
use Rattle.test_plans.proofs.tests.replies.are_new_visits.Goals as goal

pub loop-visit-preserved : goal.loop-visit-preserved
loop-visit-preserved c =
    let New : Visit → Type 0 = λ visit. IsNewVisit (new_of visit) in
    let visits = c.args.visits.now in
    let index = c.loop-visit.visit-index in
    let visit = c.visit-item.result in
    let new : New (get_or visits index visit) = subst New c.visit-item.is (c.is_new_visit.ensures.new c.if-not-is_new_visit.false) in
    subst (All New) (sym (take_more visits index visit c.loop-visit-test.true))
    (All-push New (take index visits) (get_or visits index visit) c.loop-visit.invariant new)
