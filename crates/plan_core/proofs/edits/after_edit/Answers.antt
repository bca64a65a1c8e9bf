use Rattle.std.proofs.Common.{◌≡◌, ◌∙◌, ℕ, List, Option, None, Some, Ok, Err, refl, subst, sym, ap}
use Rattle.std.specs.Prelude.{position, slice_index_or, slice_set}
use Rattle.std.proofs.lemmas.List.Elements.{All-set}
use Rattle.std.proofs.lemmas.Result.{err_from_is_err_and}
use Rattle.apron_base.specs.declared.numbers.VisitNo.{VisitNo}
use Rattle.apron_rules.specs.declared.parts.AirportParts.{AirportParts}
use Rattle.visit_book.specs.declared.edits.Edit.{Edit}
use Rattle.visit_book.specs.declared.edits.EditFault.{EditFault}
use Rattle.visit_book.specs.declared.visits.Visit.{Visit}
use Rattle.visit_book.specs.Edits.{visit_of}
use Rattle.visit_book.specs.Numbers.{has_number}
use Rattle.visit_book.specs.WellFormed.{IsWellFormed}
use Rattle.plan_core.specs.Edits.{after_edit, edit_visit}
use Rattle.plan_core.proofs.ByNumber.{found_at, found_number, not_found, with_visit_found}
use Rattle.plan_core.proofs.EditKept.{visit_number}
use Rattle.plan_core.proofs.edits.after_edit.Goals as goal

found_place : (edit : Edit) (visits : List Visit) (number : VisitNo) (found : Option ℕ) → number ≡ visit_of edit → found ≡ position (has_number number) visits
    → position (has_number (visit_of edit)) visits ≡ found
found_place edit visits number found is at = subst (λ n. position (has_number n) visits ≡ found) is (sym at)

-- the visit of the edit's number gets what the edit makes of it
after_ok : (a : AirportParts) (base k : ℕ) (edit : Edit) (visits : List Visit) (i : ℕ) (d after : Visit) → position (has_number (visit_of edit)) visits ≡ Some i
    → edit_visit a base k edit (slice_index_or visits i d) ≡ Ok after → after_edit a base k edit visits ≡ Ok (slice_set visits i after)
after_ok a base k edit visits i d after at makes =
    let found = (found_at visits (visit_of edit) i d at).1 in
    let number : after.number.0 ≡ (visit_of edit).0 =
    ap (λ (n : VisitNo). n.0) (visit_number a base k edit (slice_index_or visits i d) after makes) ∙ found_number visits (visit_of edit) (slice_index_or visits i d) found in
    rw (found, makes) (ap (λ vs. Ok vs) (with_visit_found visits (visit_of edit) after i number at))

-- and if that is refused, so is the edit
after_err : (a : AirportParts) (base k : ℕ) (edit : Edit) (visits : List Visit) (i : ℕ) (d : Visit) (fault : EditFault) → position (has_number (visit_of edit)) visits ≡ Some i
    → edit_visit a base k edit (slice_index_or visits i d) ≡ Err fault → after_edit a base k edit visits ≡ Err fault
after_err a base k edit visits i d fault at refused = rw ((found_at visits (visit_of edit) i d at).1, refused) refl

pub returns-in_default-clause-err : goal.returns-in_default-clause-err
returns-in_default-clause-err c =
    rw (not_found c.args.visits.now (visit_of c.args.edit.now) (found_place c.args.edit.now c.args.visits.now c.visit_of.result None c.visit_of.ensures.is c.in_default.ensures.place)) refl

pub returns-in_err-visits-clause-err : goal.returns-in_err-visits-clause-err
returns-in_err-visits-clause-err c =
    let p = err_from_is_err_and c.from_residual.result c.from_residual.ensures.1 in
    rw (p.1, p.2)
    (after_err c.args.airport.now c.args.base c.args.number c.args.edit.now c.args.visits.now c.in-Some.place c.index-visits-place.result c.in_err-visits.field-0.0
    (found_place c.args.edit.now c.args.visits.now c.visit_of.result (Some c.in-Some.place) c.visit_of.ensures.is c.in-Some.ensures.place)
    (sym c.in_err-visits.ensures.is))

pub returns-clause-ok : goal.returns-clause-ok
returns-clause-ok c =
    after_ok c.args.airport.now c.args.base c.args.number c.args.edit.now c.args.visits.now c.in-Some.place c.index-visits-place.result c.in_ok-visits.field-0
    (found_place c.args.edit.now c.args.visits.now c.visit_of.result (Some c.in-Some.place) c.visit_of.ensures.is c.in-Some.ensures.place)
    (sym c.in_ok-visits.ensures.is)

pub returns-clause-each : goal.returns-clause-each
returns-clause-each c =
    All-set (IsWellFormed c.args.airport.now) c.args.visits.now c.in-Some.place c.in_ok-visits.field-0 c.in_ok-visits.ensures.well_formed c.requires.each
