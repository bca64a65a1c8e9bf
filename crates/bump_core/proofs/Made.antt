-- What the lists of clashes make of a plan's visits.
use Rattle.std.proofs.Common.{◌≡◌, ◌∙◌, ◌<◌, ◌≤◌, ◌+◌, ◌==◌, ◌∷◌, [], inl, inr, ℕ, Bool, true, false, ◌||◌, List, Option, Some, None, length, map, refl, sym, ap, arith, subst, nat_lt}
use Rattle.std.specs.Prelude.{All, IfSome}
use Rattle.std.specs.List.{AllByRecursion, list_any}
use Rattle.std.proofs.lemmas.Bool.Decides.{nat_tests}
use Rattle.std.proofs.lemmas.List.Elements.{All-contains, All-nil, recursion_from_All}
use Rattle.apron_base.specs.declared.numbers.VisitNo.{VisitNo}
use Rattle.apron_rules.specs.declared.parts.AirportParts.{AirportParts}
use Rattle.apron_rules.specs.Clash.{IsSound}
use Rattle.visit_book.specs.declared.visits.Visit.{Visit}
use Rattle.visit_book.specs.NewVisits.{IsNewVisitOf, new_of}
use Rattle.visit_book.specs.Numbers.{IsNumbered, has_number, visit_at, with_visit}
use Rattle.visit_book.specs.Slots.{slots_of}
use Rattle.visit_book.proofs.ByPlace.{visit_at-below, visit_at-outside}
use Rattle.plan_core.specs.Moving.{IsChangedCopy, move_change}
use Rattle.plan_core.specs.PlanState.{IsPlan, IsVisitAt, PlanState, plan_after_change, put_in, version_limit}
use Rattle.plan_core.proofs.Kept.{installs}
use Rattle.plan_core.proofs.Moved.{moving_fits}
use Rattle.bump_core.specs.declared.ranks.Conflict.{Conflict}
use Rattle.bump_core.specs.declared.ranks.KeptClash.{KeptClash}
use Rattle.bump_core.specs.Bumped.{bumped_by, bumped_of}
use Rattle.bump_core.specs.Kept.{AreChanges, StaysBut}
use Rattle.bump_core.specs.Lists.{after_by, changes_by, changes_near, is_in, is_touched, kept_clashes, other_conflicts, own_conflicts, visit_by}
use Rattle.bump_core.specs.Settle.{settle}
use Rattle.bump_core.specs.Settled.{IsChanged, IsChangedBy, with_settled}
use Rattle.bump_core.proofs.Bumps.{bumped_later, unbumped}
use Rattle.bump_core.proofs.Changes.{KeepsOthers, changed_all, changed_bumped, changed_rise, found_there, put_changed}
use Rattle.bump_core.proofs.Decided.{decided, eq_turn, unhit_visit}
use Rattle.bump_core.proofs.Kept.{by_stays, stays_well_formed}
use Rattle.bump_core.proofs.Lost.{touched_lost}
use Rattle.bump_core.proofs.Settled.{contained_among, settled_sound, sound_settled}

neither : (a b : Bool) → (a || b) ≡ false → (a ≡ false) × (b ≡ false)
neither true b h = absurd (cc)
neither false b h = (refl, h)

after_number : (entry : ℕ) (new : Visit) (found : List Conflict) (visit : Visit) (b : Bool) → has_number new.number visit ≡ b
    → (after_by entry new found visit).number.0 ≡ visit.number.0
after_number entry new found visit true is = rw is (grind (arith, nat_tests))
after_number entry new found visit false is = rw is refl

after_stays : (entry : ℕ) (new : Visit) (found : List Conflict) (visit : Visit) → is_touched found new.number visit.number.0 ≡ false
    → after_by entry new found visit ≡ visit
after_stays entry new found visit out =
    let both = neither (list_any (is_in visit.number.0) found) (new.number.0 == visit.number.0) out in
    let other : has_number new.number visit ≡ false = eq_turn new.number.0 visit.number.0 both.1 in
    rw other (unhit_visit entry found visit both.0)

-- each visit keeps its number, and those that are not touched stay
after_keeps : (entry : ℕ) (new : Visit) (found : List Conflict) → KeepsOthers (after_by entry new found) (λ visit. is_touched found new.number visit.number.0)
after_keeps entry new found = record {
  number = λ visit. after_number entry new found visit (has_number new.number visit) refl;
  stays = λ visit out. after_stays entry new found visit out;
}

-- a visit of a plan that stays as it is except for stands is one at the next version
stays_at : (airport : AirportParts) (version : ℕ) (before after : Visit) → StaysBut (version + 1) before after → IsVisitAt airport version before
    → IsVisitAt airport (version + 1) after
stays_at airport version before after h at =
    let added : after.added ≡ before.added = ap (λ (v : Visit). v.added) h.rest in
    let edited : after.edited ≡ before.edited = ap (λ (v : Visit). v.edited) h.rest in
    record {
      well_formed = stays_well_formed airport (version + 1) before after h at.well_formed;
      new = subst (IsNewVisitOf airport) (sym (ap new_of h.rest)) at.new;
      added_some = omega (arith, added, at.added_some);
      added = omega (arith, added, at.added);
      edited = omega (arith, edited, at.edited);
      bumped = bumped_later airport version before.parts after.parts h.parts at.well_formed.places at.bumped;
    }

after_first : (P : Visit → Type 0) (entry : ℕ) (new : Visit) (found : List Conflict) (visit : Visit) (b : Bool) → has_number new.number visit ≡ b → P new
    → (b ≡ false → P (visit_by entry found visit)) → P (after_by entry new found visit)
after_first P entry new found visit true is p other = rw is p
after_first P entry new found visit false is p other = rw is (other refl)

-- what holds of the changed visit, and of other visits by what blocks their parts, holds of each
-- visit as it will be
after_has : (P : Visit → Type 0) (entry : ℕ) (new : Visit) (found : List Conflict) (visit : Visit) → P new
    → (has_number new.number visit ≡ false → P (visit_by entry found visit)) → P (after_by entry new found visit)
after_has P entry new found visit p other = after_first P entry new found visit (has_number new.number visit) refl p other

none_bumped : (airport : AirportParts) (version : ℕ) (visits : List Visit) → AllByRecursion (IsVisitAt airport version) visits
    → AllByRecursion (λ visit. bumped_of (version + 1) visit ≡ []) visits
none_bumped airport version [] h = tt
none_bumped airport version (visit ∷ visits) h =
    (unbumped airport version (version + 1) visit (omega arith) h.0.bumped, none_bumped airport version visits h.1)

-- no visit of a plan has a part that lost its stand by the next entry
pub not_bumped : (airport : AirportParts) (version : ℕ) (visits : List Visit) → All (IsVisitAt airport version) visits → bumped_by (version + 1) visits ≡ []
not_bumped airport version visits h = nothing visits (none_bumped airport version visits (recursion_from_All (IsVisitAt airport version) visits h))
  where
    nothing : (visits : List Visit) → AllByRecursion (λ visit. bumped_of (version + 1) visit ≡ []) visits → bumped_by (version + 1) visits ≡ []
    nothing [] none = refl
    nothing (visit ∷ visits) none = rw none.0 (nothing visits none.1)

found_some : (visits : List Visit) (number : VisitNo) (before : Visit) (b : Bool) → nat_lt 0 number.0 ≡ b → IsNumbered visits
    → visit_at visits number ≡ Some before
    → 1 ≤ number.0
found_some visits number before true is h at = grind (arith, nat_tests)
found_some visits number before false is h at =
    let none : visit_at visits number ≡ None = visit_at-below 0 visits number h (grind (arith, nat_tests)) in absurd (cc)

found_within : (visits : List Visit) (number : VisitNo) (before : Visit) (b : Bool) → nat_lt (length visits) number.0 ≡ b → IsNumbered visits
    → visit_at visits number ≡ Some before → number.0 ≤ length visits
found_within visits number before true is h at =
    let past : length visits < number.0 = grind (arith, nat_tests) in
    let none : visit_at visits number ≡ None = visit_at-outside visits number h (λ _. past) in absurd (cc)
found_within visits number before false is h at = grind (arith, nat_tests)

-- a changed copy of one of the visits stays one when its blocked parts lose their stands
new_same : (visits : List Visit) (entry : ℕ) (own : List Conflict) (changed : Visit) → IsChangedCopy visits changed → IsChangedCopy visits (visit_by entry own changed)
new_same visits entry own changed of = record { before = of.before; at = of.at; same = record { new = of.same.new; added = of.same.added } }

-- what the lists make of the visits is what the entry changes
pub are_changes : (plan : PlanState) (changed : Visit) (changes : List Visit) → IsPlan plan → IsChanged plan changed
    → changes ≡ changes_near plan.airport (plan.version + 1) plan.visits changed → AreChanges plan (Some changed) changes
are_changes plan changed changes h is are =
    let entry : ℕ = plan.version + 1 in
    let visits : List Visit = plan.visits in
    let mets : List KeptClash = kept_clashes plan.airport visits changed in
    let own : List Conflict = own_conflicts plan.airport visits changed in
    let found : List Conflict = other_conflicts plan.airport visits changed in
    let new : Visit = visit_by entry own changed in
    let f : Visit → Visit = after_by entry new found in
    let test : Visit → Bool = λ visit. is_touched found new.number visit.number.0 in
    let keeps : KeepsOthers f test = after_keeps entry new found in
    let new_at : IsVisitAt plan.airport entry new =
    stays_at plan.airport plan.version changed new (by_stays entry own changed) is.visit_at in
    let all : map f visits ≡ settle plan.airport entry (with_visit visits changed) =
    decided plan.airport entry visits changed new mets own found h.numbered
    (found_some visits changed.number is.of.before (nat_lt 0 changed.number.0) refl h.numbered is.of.at)
    (found_within visits changed.number is.of.before (nat_lt (length visits) changed.number.0) refl h.numbered is.of.at)
    h.sound refl refl refl refl in
    let settled : put_in visits (changes_by entry new found visits) ≡ settle plan.airport entry (with_visit visits changed) =
    put_changed f test visits keeps h.numbered ∙ all in
    subst (AreChanges plan (Some changed)) (sym are) (record {
      movable = record {
        each = changed_all (IsVisitAt plan.airport entry) f test visits (λ visit in' passes. after_has (IsVisitAt plan.airport entry) entry new found visit new_at
            (λ apart. stays_at plan.airport plan.version visit (visit_by entry found visit) (by_stays entry found visit)
            (All-contains (IsVisitAt plan.airport plan.version) visits visit h.each (contained_among visits visit in'))));
        rise = changed_rise f test 0 (length visits + 1) visits keeps (omega arith) h.numbered;
        same = changed_all (IsChangedCopy visits) f test visits (λ visit in' passes. after_has (IsChangedCopy visits) entry new found visit (new_same visits entry own changed is.of)
            (λ apart. record { before = visit; at = found_there visits visit h.numbered in'; same = record { new = refl; added = refl } }));
        sound = subst (λ vs. IsSound plan.airport (slots_of plan.airport vs)) (sym settled) (settled_sound plan.airport entry (with_visit visits changed));
      };
      settled = settled;
      needed = changed_all (IsChangedBy entry (Some changed)) f test visits (λ visit in' passes. after_has (IsChangedBy entry (Some changed)) entry new found visit
          (inl refl)
          (λ apart. inr (touched_lost plan.airport entry visits changed new visit mets own found h.numbered in' refl refl passes apart)));
      bumped = changed_bumped f test entry visits keeps (none_bumped plan.airport plan.version visits (recursion_from_All (IsVisitAt plan.airport plan.version) visits h.each))
          ∙ ap (bumped_by entry) all;
    })

-- if no visit is changed, no other is
pub no_changes : (plan : PlanState) (changes : List Visit) → IsPlan plan → changes ≡ [] → AreChanges plan None changes
no_changes plan changes h none =
    let own : settle plan.airport (plan.version + 1) plan.visits ≡ plan.visits = sound_settled plan.airport (plan.version + 1) plan.visits h.sound in
    subst (AreChanges plan None) (sym none) (record {
      movable = record { each = All-nil (IsVisitAt plan.airport (plan.version + 1)); rise = omega arith; same = All-nil (IsChangedCopy plan.visits); sound = h.sound };
      settled = sym own;
      needed = All-nil (IsChangedBy (plan.version + 1) None);
      bumped = sym (ap (bumped_by (plan.version + 1)) own ∙ not_bumped plan.airport plan.version plan.visits h.each);
    })

-- the plan with the changes installed is the settled one
pub installs_settled : (plan : PlanState) (changed : Option Visit) (changes : List Visit) → AreChanges plan changed changes
    → plan_after_change plan (move_change plan changes) ≡ with_settled plan changed
installs_settled plan changed changes h =
    ap (λ visits. let after : PlanState = record { airport = plan.airport; visits = visits; drafts = plan.drafts; version = plan.version + 1 } in after) h.settled

-- such changes exist
changes_exist : (plan : PlanState) (changed : Option Visit) → IsPlan plan → IfSome changed (IsChanged plan)
    → (changes : List Visit) × AreChanges plan changed changes
changes_exist plan None h is = ([], no_changes plan [] h refl)
changes_exist plan (Some changed) h is = (changes_near plan.airport (plan.version + 1) plan.visits changed, are_changes plan changed _ h is refl)

-- a settled plan is a plan
pub settled_plan : (plan : PlanState) (changed : Option Visit) → IsPlan plan → IfSome changed (IsChanged plan) → plan.version + 1 < version_limit
    → IsPlan (with_settled plan changed)
settled_plan plan changed h is last =
    let found = changes_exist plan changed h is in
    subst IsPlan (installs_settled plan changed found.0 found.1)
    (installs plan (move_change plan found.0) h (moving_fits plan found.0 found.1.movable last))
