-- What a message, a report and a cancel leave as it is in each visit of a plan: all but its parts
-- and what has become of it.
use Rattle.std.proofs.Common.{◌≡◌, ◌∙◌, ◌+◌, ◌∷◌, [], ℕ, Bool, true, false, ◌&&◌, List, map, not, if◌then◌else◌, Option, None, Some, Result, Ok, Err, ok_or, arith, refl, sym, ap, subst}
use Rattle.std.specs.List.{AllByRecursion}
use Rattle.std.specs.Prelude.{IfSome, find}
use Rattle.std.specs.Result.{result_map_both, result_ok}
use Rattle.std.proofs.lemmas.List.Elements.{recursion_from_All}
use Rattle.apron_base.specs.ResultChain.{◌>>=◌, refuse_if}
use Rattle.apron_base.specs.declared.numbers.VisitNo.{VisitNo}
use Rattle.apron_rules.specs.declared.parts.AirportParts.{AirportParts}
use Rattle.mvt_grammar.specs.declared.message.Mvt.{Mvt}
use Rattle.visit_book.specs.declared.visits.Bump.{Bump}
use Rattle.visit_book.specs.declared.reports.ReportFault.{ReportFault}
use Rattle.visit_book.specs.declared.visits.Visit.{Visit}
use Rattle.visit_book.specs.Ends.{is_live}
use Rattle.visit_book.specs.Flights.{is_by}
use Rattle.visit_book.specs.NewVisits.{IsNewVisitOf}
use Rattle.visit_book.specs.Numbers.{IsNumbered, visit_at}
use Rattle.visit_book.specs.Reports.{report_of}
use Rattle.visit_book.specs.WellFormed.{IsWellFormed}
use Rattle.visit_effects.specs.declared.effects.Movement.{Movement}
use Rattle.visit_effects.specs.declared.effects.Movement.TheVariants.{Arrival, Departure}
use Rattle.visit_effects.specs.Effects.{effect_of, live_of, movement_meant}
use Rattle.visit_effects.specs.Happenings.{IsBumpOf, IsOneOf, IsOneVisit}
use Rattle.visit_effects.proofs.Happenings.{effect_is_one, report_is_one}
use Rattle.visit_effects.proofs.OneVisit.{effect_of_one}
use Rattle.plan_core.specs.Moving.{IsCancellable, cancelled_visit}
use Rattle.plan_core.specs.PlanState.{HasBump, IsPlan, IsVisitAt, PlanState}
use Rattle.plan_core.proofs.ByNumber.{found_number, number_is}
use Rattle.plan_core.proofs.EditKept.{found_has}
use Rattle.plan_core.proofs.Results.{found_ok, ok_is, then_ok}
use Rattle.bump_core.specs.Ranks.{all_parts_on, kept_of}
use Rattle.bump_core.specs.Settle.{settled_visit}
use Rattle.bump_core.specs.Settled.{IsChanged, with_changed, with_settled}
use Rattle.bump_core.specs.declared.ranks.Ranked.{Ranked}
use Rattle.desk_asks.specs.declared.asks.Command.TheVariants.{Cancel}
use Rattle.desk_asks.specs.declared.asks.DeskReport.{DeskReport}
use Rattle.desk_words.specs.declared.replies.Denial.{Denial}
use Rattle.desk_words.specs.declared.replies.Denial.TheVariants as denial
use Rattle.history_core.specs.Acceptance.{after_command, cancellable, cancelled_if, denial_of, visit_after_message, visit_after_report}
use Rattle.history_core.proofs.KeptVisits.{AreKept, IsKept, all_themselves, all_twice, kept_put, kept_with}

-- settling keeps each visit
settled_kept : (airport : AirportParts) (entry : ℕ) (kept : List Ranked) (visits : List Visit) → AreKept visits (map (settled_visit airport entry kept) visits)
settled_kept airport entry kept [] = tt
settled_kept airport entry kept (visit ∷ visits) =
    (record { number = refl; same = record { new = refl; added = refl }; edited = refl }, settled_kept airport entry kept visits)

-- the visit is one of these, but changed, and no stand was taken from it
pub record Changes (visits : List Visit) (new : Visit) : Type 0 where
  pub before : Visit
  pub at : visit_at visits new.number ≡ Some before
  pub kept : IsKept before new
  pub bumps : (bump : Bump) → HasBump new.parts bump → HasBump before.parts bump

-- and so is the changed one, if there is one
abbrev pub MayChange : List Visit → Option Visit → Type 0
MayChange visits changed = (new : Visit) → changed ≡ Some new → Changes visits new

changed_kept : (visits : List Visit) (changed : Option Visit) → MayChange visits changed → AreKept visits (with_changed visits changed)
changed_kept visits None is = all_themselves visits
changed_kept visits (Some new) is = let of = is new refl in kept_with visits of.before new of.at of.kept

-- an entry that says what happened keeps each visit
happened_kept : (plan : PlanState) (changed : Option Visit) → MayChange plan.visits changed → AreKept plan.visits (with_settled plan changed).visits
happened_kept plan changed is =
    let visits = with_changed plan.visits changed in
    all_twice plan.visits visits (with_settled plan changed).visits (changed_kept plan.visits changed is)
    (settled_kept plan.airport (plan.version + 1) (kept_of plan.airport (all_parts_on plan.airport visits)) visits)

-- what happens to a visit keeps it, and takes no stand from it
one_kept : (before new : Visit) → IsOneVisit before new → IsKept before new
one_kept before new one = record { number = one.number; same = record { new = one.new; added = one.added }; edited = one.edited }

one_bumps : (before new : Visit) → IsOneVisit before new → (bump : Bump) → HasBump new.parts bump → HasBump before.parts bump
one_bumps before new one bump has =
    let was : IsBumpOf before.parts bump = one.bumps bump (record { part = has.part; among = has.among; place = has.place }) in
    record { part = was.part; among = was.among; place = was.place }

-- a message acts on the first live visit of its flight
some_effect : (plan : PlanState) (message : Mvt) (movement : Movement) (visit : Visit) → movement_meant plan.airport message ≡ Some movement
    → live_of plan.visits movement ≡ Some visit → visit_after_message plan message ≡ effect_of plan.airport (visit ∷ []) message
some_effect plan message movement visit is found = effect_of_one plan.airport plan.visits message ∙ rw (is, found) refl

pub effect_is : (plan : PlanState) (message : Mvt) (airport : AirportParts) (movement : Movement) (visit : Visit) (found : Option Visit) → airport ≡ plan.airport
    → movement_meant airport message ≡ Some movement → live_of plan.visits movement ≡ Some visit → found ≡ effect_of airport (visit ∷ []) message
    → found ≡ visit_after_message plan message
effect_is plan message airport movement visit found same meant live is =
    subst (λ (a : AirportParts). found ≡ effect_of a (visit ∷ []) message) same is
    ∙ sym (some_effect plan message movement visit (subst (λ (a : AirportParts). movement_meant a message ≡ Some movement) same meant) live)

pub no_effect : (plan : PlanState) (message : Mvt) (movement : Movement) → movement_meant plan.airport message ≡ Some movement
    → live_of plan.visits movement ≡ None → visit_after_message plan message ≡ None
no_effect plan message movement is none = effect_of_one plan.airport plan.visits message ∙ rw (is, none) refl

-- what holds of each visit holds of that one
first_if : (P : Visit → Type 0) (test : Visit → Bool) (first visit : Visit) (visits : List Visit) (here : Bool) → P first
    → (find test visits ≡ Some visit → P visit) → (if here then Some first else find test visits) ≡ Some visit → P visit
first_if P test first visit visits true is later found = let same : first ≡ visit = cc in subst P same is
first_if P test first visit visits false is later found = later found

first_has : (P : Visit → Type 0) (test : Visit → Bool) (visits : List Visit) (visit : Visit) → AllByRecursion P visits → find test visits ≡ Some visit → P visit
first_has P test [] visit all found = absurd (cc)
first_has P test (first ∷ visits) visit all found =
    first_if P test first visit visits (test first) all.0 (λ later. first_has P test visits visit all.1 later) found

live_has : (P : Visit → Type 0) (visits : List Visit) (movement : Movement) (visit : Visit) → AllByRecursion P visits → live_of visits movement ≡ Some visit → P visit
live_has P visits (Arrival key) visit all found = first_has P (λ v. is_live v && is_by key v.arr) visits visit all found
live_has P visits (Departure key) visit all found = first_has P (λ v. is_live v && is_by key v.dep) visits visit all found

pub live_formed : (plan : PlanState) (movement : Movement) (visit : Visit) → IsPlan plan → live_of plan.visits movement ≡ Some visit
    → IsWellFormed plan.airport visit
live_formed plan movement visit plan_is found =
    let at : IsVisitAt plan.airport plan.version visit =
    live_has (IsVisitAt plan.airport plan.version) plan.visits movement visit
    (recursion_from_All (IsVisitAt plan.airport plan.version) plan.visits plan_is.each) found in
    at.well_formed

-- a message changes one of the visits
pub message_changes : (plan : PlanState) (message : Mvt) → IsNumbered plan.visits → MayChange plan.visits (visit_after_message plan message)
message_changes plan message numbered new is =
    let of : IsOneOf plan.visits new = effect_is_one plan.airport plan.visits message new numbered is in
    record { before = of.before; at = of.found; kept = one_kept of.before new of.one; bumps = one_bumps of.before new of.one }

told_ok : (result : Result Visit ReportFault) (new : Visit) → result_map_both (λ visit. visit) denial_of result ≡ Ok new → result ≡ Ok new
told_ok (Ok visit) new is = cc
told_ok (Err fault) new is = absurd (cc)

ok_some : (result : Result Visit Denial) (new : Visit) → result_ok result ≡ Some new → result ≡ Ok new
ok_some (Ok visit) new is = cc
ok_some (Err why) new is = absurd (cc)

-- and so does a report of one of them
pub report_one : (plan : PlanState) (report : DeskReport) (before new : Visit) → visit_at plan.visits report.visit ≡ Some before
    → report_of plan.airport report.event before ≡ Ok new → Changes plan.visits new
report_one plan report before new at is =
    let one : IsOneVisit before new = report_is_one plan.airport report.event before new is in
    let same : new.number ≡ report.visit = one.number ∙ number_is before.number report.visit (found_number plan.visits report.visit before at) in
    record { before = before; at = ap (visit_at plan.visits) same ∙ at; kept = one_kept before new one; bumps = one_bumps before new one }

pub report_changes : (plan : PlanState) (report : DeskReport) → MayChange plan.visits (result_ok (visit_after_report plan report))
report_changes plan report new some =
    let found = then_ok (ok_or (visit_at plan.visits report.visit) denial.Unknown)
    (λ visit. result_map_both (λ visit. visit) denial_of (report_of plan.airport report.event visit)) new (ok_some (visit_after_report plan report) new some) in
    let at : visit_at plan.visits report.visit ≡ Some found.0 = found_ok (visit_at plan.visits report.visit) denial.Unknown found.0 found.1 in
    report_one plan report found.0 new at (told_ok (report_of plan.airport report.event found.0) new found.2)

not_refused : {E : Type 0} (test : Bool) (fault : E) (done : Unit {0}) → refuse_if test fault ≡ Ok done → test ≡ false
not_refused true fault done is = absurd (cc)
not_refused false fault done is = refl

is_live_test : (live : Bool) → not live ≡ false → live ≡ true
is_live_test true is = refl
is_live_test false is = absurd (cc)

-- a visit that is cancelled can be cancelled
pub cancellable_is : (plan : PlanState) (number : VisitNo) (visit : Visit) → cancellable plan number ≡ Ok visit → IsCancellable plan visit
cancellable_is plan number visit is =
    let found = then_ok (ok_or (visit_at plan.visits number) denial.Unknown)
    (λ visit. refuse_if (not (is_live visit)) denial.Gone >>= λ live. refuse_if visit.on_block denial.OnBlock >>= λ expected. Ok visit) visit is in
    let live = then_ok (refuse_if (not (is_live found.0)) denial.Gone) (λ live. refuse_if found.0.on_block denial.OnBlock >>= λ expected. Ok found.0) visit found.2 in
    let expected = then_ok (refuse_if found.0.on_block denial.OnBlock) (λ expected. Ok found.0) visit live.2 in
    let at : visit_at plan.visits number ≡ Some found.0 = found_ok (visit_at plan.visits number) denial.Unknown found.0 found.1 in
    let number_at : visit_at plan.visits found.0.number ≡ Some found.0 =
    ap (visit_at plan.visits) (number_is found.0.number number (found_number plan.visits number found.0 at)) ∙ at in
    subst (IsCancellable plan) (ok_is found.0 visit expected.2) (record {
      at = number_at;
      live = is_live_test (is_live found.0) (not_refused (not (is_live found.0)) denial.Gone live.0 live.1);
      expected = not_refused found.0.on_block denial.OnBlock expected.0 expected.1;
    })

cancelled_kept : (plan : PlanState) (found : Result Visit Denial) → ((visit : Visit) → found ≡ Ok visit → IsCancellable plan visit) → IsNumbered plan.visits
    → AreKept plan.visits (cancelled_if plan found).visits
cancelled_kept plan (Ok visit) is numbered =
    let can : IsCancellable plan visit = is visit refl in
    kept_put plan.visits visit (cancelled_visit visit) numbered can.at (record { number = refl; same = record { new = refl; added = refl }; edited = refl })
cancelled_kept plan (Err why) is numbered = all_themselves plan.visits

-- each of these three keeps each visit
pub message_keeps : (plan : PlanState) (message : Mvt) → IsNumbered plan.visits → AreKept plan.visits (with_settled plan (visit_after_message plan message)).visits
message_keeps plan message numbered = happened_kept plan (visit_after_message plan message) (message_changes plan message numbered)

pub report_keeps : (plan : PlanState) (report : DeskReport) → AreKept plan.visits (with_settled plan (result_ok (visit_after_report plan report))).visits
report_keeps plan report = happened_kept plan (result_ok (visit_after_report plan report)) (report_changes plan report)

pub cancel_keeps : (plan : PlanState) (number : VisitNo) → IsNumbered plan.visits → AreKept plan.visits (after_command plan (Cancel number)).visits
cancel_keeps plan number numbered = cancelled_kept plan (cancellable plan number) (cancellable_is plan number) numbered

-- a visit changed by what happened, as settling takes it
pub changed_is : (plan : PlanState) (new : Visit) → IsPlan plan → IsWellFormed plan.airport new → Changes plan.visits new → IsChanged plan new
changed_is plan new plan_is formed of =
    let at : IsVisitAt plan.airport plan.version of.before =
    found_has (IsVisitAt plan.airport plan.version) plan.visits new.number of.before plan_is.each of.at in
    let kept : IsKept of.before new = of.kept in
    let added : new.added ≡ of.before.added = kept.same.added in
    let edited : new.edited ≡ of.before.edited = kept.edited in
    record {
      visit_at = record {
        well_formed = formed;
        new = subst (IsNewVisitOf plan.airport) (sym kept.same.new) at.new;
        added_some = omega (arith, at.added_some);
        added = omega (arith, at.added);
        edited = omega (arith, at.edited);
        bumped = λ bump has. at.bumped bump (of.bumps bump has);
      };
      of = record { before = of.before; at = of.at; same = kept.same };
    }

pub changed_if : (plan : PlanState) (message : Mvt) (found : Option Visit) → IsPlan plan → IsNumbered plan.visits → IfSome found (IsWellFormed plan.airport)
    → found ≡ visit_after_message plan message → IfSome found (IsChanged plan)
changed_if plan message None plan_is numbered formed is = tt
changed_if plan message (Some new) plan_is numbered formed is = changed_is plan new plan_is formed (message_changes plan message numbered new (sym is))
