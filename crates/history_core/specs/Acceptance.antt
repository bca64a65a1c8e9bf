-- How a plan takes a command.
use Rattle.std.specs.Prelude.{◌≡◌, ◌≢◌, ◌≤◌, ◌<◌, ◌+◌, ℕ, not, List, length, Option, None, Some, option_map, unwrap_or, Result, Ok, Err, IsOk, ok_or}
use Rattle.std.specs.Result.{result_map_both, result_ok}
use Rattle.apron_base.specs.ResultChain.{◌>>=◌, refuse_if}
use Rattle.apron_base.specs.declared.numbers.VisitNo.{VisitNo}
use Rattle.mvt_grammar.specs.declared.message.Mvt.{Mvt}
use Rattle.visit_book.specs.declared.drafts.Draft.{Draft}
use Rattle.visit_book.specs.declared.edits.EditFault.{EditFault}
use Rattle.visit_book.specs.declared.edits.EditFault.TheVariants.{Memory}
use Rattle.visit_book.specs.declared.reports.ReportFault.{ReportFault}
use Rattle.visit_book.specs.declared.reports.ReportFault.TheVariants.{Gone, NoSuchPart, Time}
use Rattle.visit_book.specs.declared.visits.NewVisit.{NewVisit}
use Rattle.visit_book.specs.declared.visits.Visit.{Visit}
use Rattle.visit_book.specs.Ends.{is_live}
use Rattle.visit_book.specs.NewVisits.{new_of}
use Rattle.visit_book.specs.Numbers.{visit_at}
use Rattle.visit_book.specs.Reports.{report_of}
use Rattle.visit_effects.specs.Effects.{effect_of}
use Rattle.plan_core.specs.Adding.{with_added}
use Rattle.plan_core.specs.Drafts.{draft_version}
use Rattle.plan_core.specs.Edits.{after_all_edits}
use Rattle.plan_core.specs.Moving.{with_cancelled}
use Rattle.plan_core.specs.Names.{visit_named}
use Rattle.plan_core.specs.PlanState.{PlanState, most_visits}
use Rattle.plan_core.specs.Rebase.{Rebases, RefusesDraft, plan_after_commit}
use Rattle.bump_core.specs.Bumped.{bumped_by}
use Rattle.bump_core.specs.Settled.{with_settled}
use Rattle.desk_asks.specs.declared.asks.Command.{Command}
use Rattle.desk_asks.specs.declared.asks.Command.TheVariants.{AddVisit, Commit, Message, Report, Cancel}
use Rattle.desk_asks.specs.declared.asks.DeskReport.{DeskReport}
use Rattle.desk_words.specs.declared.replies.Denial.{Denial}
use Rattle.desk_words.specs.declared.replies.Denial.TheVariants as denial
use Rattle.desk_words.specs.declared.replies.Reply.{Reply}
use Rattle.desk_words.specs.declared.replies.ReplyBody.{ReplyBody}
use Rattle.desk_words.specs.declared.replies.ReplyBody.TheVariants.{Added, Committed, Message as MessageTaken, Reported, Cancelled, Ahead, Full, OtherName, Edit as Refused, Denied}

-- the most entries of a history
abbrev pub most_entries : ℕ
most_entries = 200000

-- a history of this many entries takes one more
abbrev pub TakesEntry : ℕ → Type 0
TakesEntry entries = entries < most_entries

-- a plan whose history has this many entries has a place for the command: there are not too many
-- entries and, for a visit, not too many visits
abbrev pub CanGrowBy : PlanState → ℕ → Command → Type 0
CanGrowBy plan entries (AddVisit new) = TakesEntry entries × (length plan.visits < most_visits)
CanGrowBy plan entries command = TakesEntry entries

-- why a command is refused by its own rules
pub data Refusal : Type 0 where
  name : VisitNo → Refusal
  edit : EditFault → Refusal
  denied : Denial → Refusal

-- why a report is refused, as a reply says it
abbrev pub denial_of : ReportFault → Denial
denial_of Gone = denial.Gone
denial_of NoSuchPart = denial.NoSuchPart
denial_of Time = denial.Time

-- the plan's visit as the message changes it, or none if it does nothing
abbrev pub visit_after_message : PlanState → Mvt → Option Visit
visit_after_message plan message = effect_of plan.airport plan.visits message

-- what a report makes of the plan's visit of its number, or why it is refused
abbrev pub visit_after_report : PlanState → DeskReport → Result Visit Denial
visit_after_report plan report = do
  visit ← ok_or (visit_at plan.visits report.visit) denial.Unknown
  result_map_both (λ visit. visit) denial_of (report_of plan.airport report.event visit)

-- the plan's visit of this number if it can be cancelled, or why not
abbrev pub cancellable : PlanState → VisitNo → Result Visit Denial
cancellable plan number = do
  visit ← ok_or (visit_at plan.visits number) denial.Unknown
  live ← refuse_if (not (is_live visit)) denial.Gone
  expected ← refuse_if visit.on_block denial.OnBlock
  Ok visit

-- how a command is taken
pub data Stepped : Type 0 where
  ahead : Stepped
  repeated : ℕ → Stepped
  refused : Refusal → Stepped
  full : Stepped
  accepted : Stepped

-- a draft whose edits are looked at: it was not made over a version later than the plan's, and it
-- was not committed before
pub record IsNew (plan : PlanState) (draft : Draft) : Type 0 where
  pub made_over : draft.base ≤ plan.version
  pub unused : draft_version plan.drafts draft.desk draft.number ≡ None

-- the command was made over a version later than the plan's
abbrev pub IsAhead : PlanState → Command → Type 0
IsAhead plan (Commit draft) = plan.version < draft.base
IsAhead plan command = ⊥

-- a visit of the plan has the name, and was added with the same data
abbrev pub IsSameName : PlanState → NewVisit → Visit → Type 0
IsSameName plan new visit = (visit_named plan.visits new.name ≡ Some visit) × (new_of visit ≡ new)

-- a visit of the plan has the name, and was added with other data
abbrev pub IsOtherName : PlanState → NewVisit → Visit → Type 0
IsOtherName plan new visit = (visit_named plan.visits new.name ≡ Some visit) × (new_of visit ≢ new)

-- the entry of this number added the same visit, or is of the same draft, whatever its edits are
abbrev pub IsRepeated : PlanState → Command → ℕ → Type 0
IsRepeated plan (AddVisit new) entry =
    (visit : Visit) × IsSameName plan new visit × (entry ≡ visit.added)
IsRepeated plan (Commit draft) entry =
    (draft.base ≤ plan.version) × (draft_version plan.drafts draft.desk draft.number ≡ Some entry)
IsRepeated plan command entry = ⊥

-- the command is refused for this cause; a lack of memory is no cause
abbrev pub IsRefused : PlanState → Command → Refusal → Type 0
IsRefused plan (AddVisit new) (name number) =
    (visit : Visit) × IsOtherName plan new visit × (number ≡ visit.number)
IsRefused plan (Commit draft) (edit fault) =
    IsNew plan draft × RefusesDraft plan draft fault × (fault ≢ Memory)
IsRefused plan (Report report) (denied why) = visit_after_report plan report ≡ Err why
IsRefused plan (Cancel visit) (denied why) = cancellable plan visit ≡ Err why
IsRefused plan command why = ⊥

-- the command is neither ahead nor repeated, and it applies: a visit has a new name; the edits of a
-- commit leave some visits, which are sound; a message always applies; a report can have happened
-- to its visit; and a visit that is cancelled can be cancelled
abbrev pub IsTaken : PlanState → Command → Type 0
IsTaken plan (AddVisit new) = visit_named plan.visits new.name ≡ None
IsTaken plan (Commit draft) = IsNew plan draft × ((new : List Visit) × Rebases plan draft new)
IsTaken plan (Message passed) = Unit {0}
IsTaken plan (Report report) = IsOk (visit_after_report plan report)
IsTaken plan (Cancel visit) = IsOk (cancellable plan visit)

-- how a plan, whose history has this many entries, takes a command: a line for each cause, in order
abbrev pub TakenAs : PlanState → ℕ → Command → Stepped → Type 0
TakenAs plan entries command ahead = IsAhead plan command
TakenAs plan entries command (repeated entry) = IsRepeated plan command entry
TakenAs plan entries command (refused why) = IsRefused plan command why
TakenAs plan entries command full = IsTaken plan command × ¬ (CanGrowBy plan entries command)
TakenAs plan entries command accepted = IsTaken plan command × CanGrowBy plan entries command

-- the reply with this news, at a version of the plan
abbrev pub reply_at : ℕ → ReplyBody → Reply
reply_at version told = record { version = version; told = told }

-- the number of the visit of this name, or the next number if there is none
abbrev pub number_for : List Visit → List ℕ → VisitNo
number_for visits text =
    unwrap_or (option_map (λ visit. visit.number) (visit_named visits text))
    (record { 0 = length visits + 1 })

-- what the reply says of a command whose entry made this version, now or before, by the plan before
-- it is taken
abbrev pub made_told : PlanState → ℕ → Command → ReplyBody
made_told plan entry (AddVisit new) = Added entry (number_for plan.visits new.name)
made_told plan entry (Commit draft) = Committed entry
made_told plan entry (Message passed) =
    MessageTaken
    (bumped_by entry (with_settled plan (visit_after_message plan passed.message)).visits)
    (option_map (λ visit. visit.number) (visit_after_message plan passed.message))
made_told plan entry (Report report) =
    Reported
    (bumped_by entry (with_settled plan (result_ok (visit_after_report plan report))).visits)
made_told plan entry (Cancel visit) = Cancelled

-- what the reply says of a refusal
abbrev pub refusal_told : Refusal → ReplyBody
refusal_told (name number) = OtherName number
refusal_told (edit fault) = Refused fault
refusal_told (denied why) = Denied why

-- the reply to a command: an accepted one makes the next version, and after any other the plan is
-- as it was
abbrev pub stepped_reply : PlanState → Command → Stepped → Reply
stepped_reply plan command ahead = reply_at plan.version Ahead
stepped_reply plan command (repeated entry) = reply_at plan.version (made_told plan entry command)
stepped_reply plan command (refused why) = reply_at plan.version (refusal_told why)
stepped_reply plan command full = reply_at plan.version Full
stepped_reply plan command accepted =
    reply_at (plan.version + 1) (made_told plan (plan.version + 1) command)

-- the plan after a commit of the draft, if its edits apply
abbrev pub committed_if : PlanState → Draft → Result (List Visit) EditFault → PlanState
committed_if plan draft (Ok new) = plan_after_commit plan draft new
committed_if plan draft (Err fault) = plan

-- the plan after an entry that cancels the visit, if it can be cancelled
abbrev pub cancelled_if : PlanState → Result Visit Denial → PlanState
cancelled_if plan (Ok visit) = with_cancelled plan visit
cancelled_if plan (Err why) = plan

-- the plan after a command that is taken
abbrev pub after_command : PlanState → Command → PlanState
after_command plan (AddVisit new) = with_added plan new
after_command plan (Commit draft) =
    committed_if plan draft (after_all_edits plan.airport draft.base draft.edits plan.visits)
after_command plan (Message passed) = with_settled plan (visit_after_message plan passed.message)
after_command plan (Report report) = with_settled plan (result_ok (visit_after_report plan report))
after_command plan (Cancel visit) = cancelled_if plan (cancellable plan visit)
