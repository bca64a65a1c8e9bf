use Rattle.std.proofs.Common.{◌≡◌, ◌∙◌, ◌+◌, Bor, Option, None, ap, refl, subst, sym}
use Rattle.std.specs.Prelude.{option_map}
use Rattle.std.proofs.lemmas.Result.{IfOk-weaker}
use Rattle.visit_book.specs.declared.visits.Visit.{Visit}
use Rattle.bump_core.specs.Kept.{AreChanges}
use Rattle.bump_core.specs.Lists.{changes_near}
use Rattle.bump_core.proofs.Made.{are_changes, no_changes}
use Rattle.bump_core.proofs.settling.changes_of.Goals as goal

pub returns-in-None-clause-changes : goal.returns-in-None-clause-changes
returns-in-None-clause-changes g c =
    let none : option_map (λ (visit : Bor Visit). visit.now) c.args.changed ≡ None = rw c.in-None.is refl in
    subst (λ (changed : Option Visit). AreChanges c.args.plan.now.plan changed c.new.result.items) (sym none)
    (no_changes c.args.plan.now.plan c.new.result.items c.visits-known.ensures.plan c.new.ensures.items)

pub returns-in-Some-clause-changes : goal.returns-in-Some-clause-changes
returns-in-Some-clause-changes g c =
    let plan = c.args.plan.now.plan in
    let visit : Visit = c.in-Some.visit.now in
    rw c.in-Some.is
    (IfOk-weaker c.changes_near.result _ _
    (λ changes is. are_changes plan visit changes.items c.visits-known.ensures.plan (rw c.in-Some.is at c.requires.changed)
    (is ∙ ap (λ airport. changes_near airport (plan.version + 1) plan.visits visit) c.requires.airport))
    c.changes_near.ensures.ok)
