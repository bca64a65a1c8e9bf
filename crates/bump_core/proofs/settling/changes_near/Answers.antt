use Rattle.std.proofs.Common.{◌≡◌, ◌∙◌, ◌+◌, ℕ, List, ap}
use Rattle.std.proofs.lemmas.Result.{IfOk-weaker}
use Rattle.visit_book.specs.declared.visits.Visit.{Visit}
use Rattle.bump_core.specs.declared.ranks.Conflict.{Conflict}
use Rattle.bump_core.specs.declared.ranks.KeptClash.{KeptClash}
use Rattle.bump_core.specs.Lists.{against_others, against_own, changes_by, kept_clashes, other_conflicts, own_conflicts, visit_by}
use Rattle.bump_core.proofs.settling.changes_near.Goals as goal

pub returns-clause-ok : goal.returns-clause-ok
returns-clause-ok g c =
    let entry : ℕ = c.version-entry.result + 1 in
    let visits : List Visit = c.args.plan.now.plan.visits in
    let mets : List KeptClash = kept_clashes c.args.airport.now visits c.args.changed.now in
    let own : List Conflict = own_conflicts c.args.airport.now visits c.args.changed.now in
    let found : List Conflict = other_conflicts c.args.airport.now visits c.args.changed.now in
    let new : Visit = visit_by entry own c.args.changed.now in
    let own_is : c.in_ok-own.own ≡ own = c.in_ok-own.ensures.ok ∙ ap against_own (c.as_slice.ensures.items ∙ c.in_ok-mets.ensures.ok) in
    let found_is : c.in_ok-others.others ≡ found =
    c.in_ok-others.ensures.ok
    ∙ (ap (λ ms. against_others ms c.as_slice-3.result.now) (c.as_slice-2.ensures.items ∙ c.in_ok-mets.ensures.ok)
    ∙ ap (against_others mets) (c.as_slice-3.ensures.items ∙ own_is)) in
    let new_is : c.visit_by-new.result ≡ new =
    c.visit_by-new.ensures.is ∙ ap (λ bs. visit_by entry bs c.args.changed.now) (c.as_slice-4.ensures.items ∙ own_is) in
    rw (← c.version-entry.ensures.value)
    (IfOk-weaker c.changes_by.result _ _
    (λ changes is. is ∙ (ap (λ visit. changes_by entry visit c.as_slice-5.result.now visits) new_is
    ∙ ap (λ bs. changes_by entry new bs visits) (c.as_slice-5.ensures.items ∙ found_is)))
    c.changes_by.ensures.ok)
