-- A history that grows by an accepted command.
use Rattle.std.proofs.Common.{◌≡◌, ◌∙◌, ◌+◌, ℕ, Bool, true, false, List, [], ◌∷◌, ◌++◌, length, refl, sym, ap, subst, arith, None, Result, Ok, Err, if◌then◌else◌}
use Rattle.std.specs.Result.{IsOk}
use Rattle.apron_base.specs.declared.numbers.VisitNo.{VisitNo}
use Rattle.apron_rules.specs.declared.parts.AirportParts.{AirportParts}
use Rattle.visit_book.specs.declared.drafts.Draft.{Draft}
use Rattle.visit_book.specs.declared.visits.Visit.{Visit}
use Rattle.visit_book.specs.declared.edits.Edit.{Edit}
use Rattle.visit_book.specs.declared.edits.EditFault.{EditFault}
use Rattle.visit_book.specs.Numbers.{IsNumbered, IsNumberedAbove}
use Rattle.plan_core.specs.Adding.{next_visit}
use Rattle.plan_core.specs.Drafts.{draft_version}
use Rattle.plan_core.specs.Edits.{after_all_edits, is_edited}
use Rattle.plan_core.specs.PlanState.{PlanState, empty_plan}
use Rattle.plan_core.specs.Rebase.{edited_last, plan_after_commit, visits_after_commit}
use Rattle.plan_core.proofs.Changed.{edits_follow, follows_numbered}
use Rattle.plan_core.proofs.Puts.{last_numbered}
use Rattle.desk_asks.specs.Commands.{IsCommandOf}
use Rattle.desk_asks.specs.declared.asks.Command.{Command}
use Rattle.desk_asks.specs.declared.asks.Command.TheVariants.{AddVisit, Commit, Message, Report, Cancel}
use Rattle.desk_asks.specs.declared.asks.Entry.{Entry}
use Rattle.desk_words.specs.declared.replies.Denial.{Denial}
use Rattle.history_core.specs.Acceptance.{IsTaken, TakenAs, accepted, after_command, cancellable, cancelled_if, committed_if}
use Rattle.history_core.specs.History.{AreTakenFrom, after_entries, replay}
use Rattle.history_core.proofs.Happenings.{cancel_keeps, message_keeps, report_keeps}
use Rattle.history_core.proofs.KeptVisits.{kept_numbered}

-- the plan after one more command
pub after-push : (plan : PlanState) (history : List Entry) (entry : Entry) → after_entries plan (history ++ entry ∷ []) ≡ after_command (after_entries plan history) entry.command
after-push plan [] entry = refl
after-push plan (e ∷ history) entry = after-push (after_command plan e.command) history entry

committed_airport : (plan : PlanState) (draft : Draft) (visits : Result (List Visit) EditFault) → (committed_if plan draft visits).airport ≡ plan.airport
committed_airport plan draft (Ok visits) = refl
committed_airport plan draft (Err fault) = refl

cancelled_airport : (plan : PlanState) (found : Result Visit Denial) → (cancelled_if plan found).airport ≡ plan.airport
cancelled_airport plan (Ok visit) = refl
cancelled_airport plan (Err why) = refl

command_airport : (plan : PlanState) (command : Command) → (after_command plan command).airport ≡ plan.airport
command_airport plan (AddVisit new) = refl
command_airport plan (Commit draft) =
    committed_airport plan draft (after_all_edits plan.airport draft.base draft.edits plan.visits)
command_airport plan (Message passed) = refl
command_airport plan (Report report) = refl
command_airport plan (Cancel number) = cancelled_airport plan (cancellable plan number)

after-airport : (plan : PlanState) (history : List Entry) → (after_entries plan history).airport ≡ plan.airport
after-airport plan [] = refl
after-airport plan (e ∷ history) = after-airport (after_command plan e.command) history ∙ command_airport plan e.command

-- the airport of a plan stays
pub replay-airport : (airport : AirportParts) (history : List Entry) → (replay airport history).airport ≡ airport
replay-airport airport history = after-airport (empty_plan airport) history

-- one more command that is taken
pub taken_push : (plan : PlanState) (count : ℕ) (history : List Entry) (entry : Entry) → AreTakenFrom plan count history → IsCommandOf plan.airport entry.command
    → TakenAs (after_entries plan history) (count + length history) entry.command accepted → AreTakenFrom plan count (history ++ entry ∷ [])
taken_push plan count [] entry h valid steps =
    let same : count + length {A = Entry} [] ≡ count = omega arith in (valid, subst (λ (n : ℕ). TakenAs plan n entry.command accepted) same steps, tt)
taken_push plan count (e ∷ history) entry h valid steps =
    let same : (after_command plan e.command).airport ≡ plan.airport = command_airport plan e.command in
    let counted : count + length (e ∷ history) ≡ count + 1 + length history = omega arith in
    let later = subst (λ (n : ℕ). TakenAs (after_entries plan (e ∷ history)) n entry.command accepted) counted steps in
    (h.0, h.1, taken_push (after_command plan e.command) (count + 1) history entry h.2 (subst (λ (a : AirportParts). IsCommandOf a entry.command) (sym same) valid) later)

-- a command of legal entries is of the airport
pub taken_of : (plan : PlanState) (count : ℕ) (before : List Entry) (entry : Entry) (after : List Entry) → AreTakenFrom plan count (before ++ entry ∷ after)
    → IsCommandOf plan.airport entry.command
taken_of plan count [] entry after h = h.0
taken_of plan count (e ∷ before) entry after h =
    let later : IsCommandOf (after_command plan e.command).airport entry.command = taken_of (after_command plan e.command) (count + 1) before entry after h.2 in
    subst (λ (a : AirportParts). IsCommandOf a entry.command) (command_airport plan e.command) later

-- a taken commit makes the plan of its draft
pub record Commits (plan : PlanState) (draft : Draft) : Type 0 where
  pub new : List Visit
  pub apply : after_all_edits plan.airport draft.base draft.edits plan.visits ≡ Ok new
  pub unused : draft_version plan.drafts draft.desk draft.number ≡ None
  pub makes : after_command plan (Commit draft) ≡ plan_after_commit plan draft new

pub commits : (plan : PlanState) (draft : Draft) → IsTaken plan (Commit draft)
    → Commits plan draft
commits plan draft (new, (visits, rebases)) = record {
  new = visits;
  apply = rebases.apply;
  unused = new.unused;
  makes = rw rebases.apply refl;
}

cancelled_version : (plan : PlanState) (found : Result Visit Denial) → IsOk found → (cancelled_if plan found).version ≡ plan.version + 1
cancelled_version plan (Ok visit) some = refl
cancelled_version plan (Err why) some = absurd (cc)

pub command_version : (plan : PlanState) (command : Command) → IsTaken plan command → (after_command plan command).version ≡ plan.version + 1
command_version plan (AddVisit new) taken = refl
command_version plan (Commit draft) taken =
    let made = commits plan draft taken in ap (λ (p : PlanState). p.version) made.makes
command_version plan (Message passed) taken = refl
command_version plan (Report report) taken = refl
command_version plan (Cancel number) taken = cancelled_version plan (cancellable plan number) taken

-- each entry makes the next version
pub versions_count : (plan : PlanState) (count : ℕ) (history : List Entry) → AreTakenFrom plan count history → (after_entries plan history).version ≡ plan.version + length history
versions_count plan count [] h = omega arith
versions_count plan count (e ∷ history) h =
    let one : (after_command plan e.command).version ≡ plan.version + 1 = command_version plan e.command h.1.0 in
    let rest : (after_entries (after_command plan e.command) history).version ≡ (after_command plan e.command).version + length history =
    versions_count (after_command plan e.command) (count + 1) history h.2 in
    omega arith

stamp_number : (version : ℕ) (visit : Visit) (b : Bool) → (if b then edited_last version visit else visit).number ≡ visit.number
stamp_number version visit true = refl
stamp_number version visit false = refl

stamped_numbered : (number version : ℕ) (edits : List Edit) (visits : List Visit) → IsNumberedAbove number visits → IsNumberedAbove number (visits_after_commit version edits visits)
stamped_numbered number version edits [] h = tt
stamped_numbered number version edits (visit ∷ visits) h =
    (ap (λ (n : VisitNo). n.0) (stamp_number version visit (is_edited edits visit.number.0)) ∙ h.0, stamped_numbered (number + 1) version edits visits h.1)

-- a taken command keeps the visits numbered
pub command_numbered : (plan : PlanState) (command : Command) → IsTaken plan command → IsNumbered plan.visits → IsNumbered (after_command plan command).visits
command_numbered plan (AddVisit new) taken h = last_numbered 0 plan.visits (next_visit plan new) h (omega arith)
command_numbered plan (Commit draft) taken h =
    let made = commits plan draft taken in
    let follows = edits_follow plan.airport draft.base 1 draft.edits plan.visits made.new h made.apply in
    subst (λ (p : PlanState). IsNumbered p.visits) (sym made.makes)
    (stamped_numbered 0 (plan.version + 1) draft.edits made.new (follows_numbered (is_edited draft.edits) 0 plan.visits made.new follows))
command_numbered plan (Message passed) taken h =
    kept_numbered 0 plan.visits (after_command plan (Message passed)).visits (message_keeps plan passed.message h) h
command_numbered plan (Report report) taken h =
    kept_numbered 0 plan.visits (after_command plan (Report report)).visits (report_keeps plan report) h
command_numbered plan (Cancel number) taken h =
    kept_numbered 0 plan.visits (after_command plan (Cancel number)).visits (cancel_keeps plan number h) h

pub taken_numbered : (plan : PlanState) (count : ℕ) (history : List Entry) → AreTakenFrom plan count history → IsNumbered plan.visits
    → IsNumbered (after_entries plan history).visits
taken_numbered plan count [] h numbered = numbered
taken_numbered plan count (e ∷ history) h numbered =
    taken_numbered (after_command plan e.command) (count + 1) history h.2 (command_numbered plan e.command h.1.0 numbered)
