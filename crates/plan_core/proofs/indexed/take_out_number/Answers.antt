use Rattle.std.proofs.Common.{◌≡◌, Option, None, length, refl, subst, sym}
use Rattle.std.specs.Prelude.{filter}
use Rattle.std.proofs.lemmas.List.Elements.{All-contains}
use Rattle.clash_check.specs.Indexed.{all_slots}
use Rattle.visit_book.specs.declared.visits.Visit.{Visit}
use Rattle.plan_core.specs.Indexing.{HaveStandsOf, is_off_visit}
use Rattle.plan_core.proofs.IndexedStands.{filter_whole}
use Rattle.plan_core.proofs.IndexedVisits.{found_listed}
use Rattle.plan_core.proofs.indexed.take_out_number.Goals as goal

pub take_out_visit-requires-clause-stands : goal.take_out_visit-requires-clause-stands
take_out_visit-requires-clause-stands c =
    All-contains (λ visit. HaveStandsOf (length c.args.index.now) visit.parts) c.args.visits.now c.in-Some.visit.now c.requires.stands (found_listed c.args.visits.now c.args.number c.in-Some.visit.now (sym c.in-Some.ensures.is))

pub returns-in-None-clause-slots : goal.returns-in-None-clause-slots
returns-in-None-clause-slots c =
    let all = all_slots c.args.index.now in
    subst (λ (found : Option Visit). all ≡ filter (is_off_visit found) all) c.in-None.ensures.is (sym (filter_whole (is_off_visit None) all (λ x h. refl)))
