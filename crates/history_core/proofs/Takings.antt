-- What comes of a command.
use Rattle.std.proofs.Common.{◌≡◌, ◌≢◌, ◌∙◌, ◌⊎◌, ◌<◌, ◌≤◌, ◌+◌, ℕ, List, length, Option, None, Some, Result, Ok, Err, refl, sym, ap, subst, arith, inl, inr}
use Rattle.std.proofs.lemmas.Bool.{cases_lt}
use Rattle.std.specs.Result.{IsOk, is_ok}
use Rattle.apron_base.specs.declared.numbers.VisitNo.{VisitNo}
use Rattle.visit_book.specs.declared.drafts.Draft.{Draft}
use Rattle.visit_book.specs.declared.edits.EditFault.{EditFault}
use Rattle.visit_book.specs.declared.edits.EditFault.TheVariants.{Memory}
use Rattle.visit_book.specs.declared.visits.NewVisit.{NewVisit}
use Rattle.visit_book.specs.declared.visits.Visit.{Visit}
use Rattle.visit_book.specs.NewVisits.{new_of}
use Rattle.visit_book.specs.Numbers.{IsNumbered}
use Rattle.plan_core.specs.Drafts.{draft_version}
use Rattle.plan_core.specs.Names.{visit_named}
use Rattle.plan_core.specs.PlanState.{ChangeState, IsInstallable, PlanState, most_visits, version_limit}
use Rattle.plan_core.specs.Rebase.{IsRebased, Rebases, RefusesDraft}
use Rattle.plan_core.proofs.AnswerExists.{answer}
use Rattle.plan_core.proofs.Kept.{rebase_commits}
use Rattle.plan_core.proofs.OneRefusal.{rebased_or_refused, refusals_are_one}
use Rattle.desk_asks.specs.declared.asks.Command.{Command}
use Rattle.desk_asks.specs.declared.asks.Command.TheVariants.{AddVisit, Commit, Message, Report, Cancel}
use Rattle.desk_asks.specs.declared.asks.DeskMessage.{DeskMessage}
use Rattle.desk_asks.specs.declared.asks.DeskReport.{DeskReport}
use Rattle.desk_words.specs.declared.replies.Denial.{Denial}
use Rattle.desk_words.specs.declared.replies.ReplyBody.{ReplyBody}
use Rattle.desk_words.specs.declared.replies.ReplyBody.TheVariants.{Added, Committed, Denied, Full, OtherName, Edit as Refused}
use Rattle.history_core.specs.Acceptance.{CanGrowBy, IsNew, IsTaken, Stepped, TakenAs, TakesEntry, accepted, ahead, committed_if, cancellable, denied, edit, full, most_entries, name, refused, repeated, reply_at, visit_after_report}
use Rattle.history_core.specs.declared.taking.Taken.TheVariants.{Accepted}
use Rattle.history_core.specs.Taking.{ComesTo, IsAnswered, IsChangeOf}
use Rattle.history_core.proofs.NewVisits.{AreDecided, new_decided}

-- a commit that is rebased is taken
pub rebased_taken : (plan : PlanState) (draft : Draft) (change : ChangeState) → IsRebased plan draft change → (new : List Visit) × Rebases plan draft new
rebased_taken plan draft change rebased = (rebased.new, rebased.rebases)

-- the change of a rebase makes of the plan what the commit makes of it
pub rebased_makes : (plan : PlanState) (draft : Draft) (change : ChangeState) → IsNumbered plan.visits
    → IsInstallable plan change → IsRebased plan draft change → IsChangeOf plan (Commit draft) change
rebased_makes plan draft change numbered installable rebased = record {
  installable = installable;
  makes = rebase_commits plan draft change numbered rebased
      ∙ ap (committed_if plan draft) (sym rebased.rebases.apply);
}

-- a plan has a place for a command, or it has none
abbrev IsPlaced : PlanState → ℕ → Command → Type 0
IsPlaced plan entries command = CanGrowBy plan entries command ⊎ ¬ (CanGrowBy plan entries command)

pub entry_placed : (entries : ℕ) → TakesEntry entries ⊎ ¬ (TakesEntry entries)
entry_placed entries = elim (cases_lt entries most_entries) [ inl below ↦ inl below | inr above ↦ inr (λ below. absurd (omega (arith, below, above))) ]

pub visit_placed : (entries count : ℕ) → TakesEntry entries ⊎ ¬ (TakesEntry entries) → (count < most_visits) ⊎ (most_visits ≤ count)
    → (TakesEntry entries × (count < most_visits)) ⊎ ¬ (TakesEntry entries × (count < most_visits))
visit_placed entries count (inl entry) (inl few) = inl (entry, few)
visit_placed entries count (inr none) few = inr (λ has. none has.0)
visit_placed entries count (inl entry) (inr many) = inr (λ has. absurd (let few = has.1 in omega (arith, few, many)))

abbrev placed : (plan : PlanState) (entries : ℕ) (command : Command) → IsPlaced plan entries command
placed plan entries (AddVisit new) = visit_placed entries (length plan.visits) (entry_placed entries) (cases_lt (length plan.visits) most_visits)
placed plan entries (Commit draft) = entry_placed entries
placed plan entries (Message passed) = entry_placed entries
placed plan entries (Report report) = entry_placed entries
placed plan entries (Cancel number) = entry_placed entries

-- a taken command is accepted if there is a place for it, and full if there is none
abbrev placed_step : (plan : PlanState) (entries : ℕ) (command : Command) → IsTaken plan command → IsPlaced plan entries command
    → (stepped : Stepped) × TakenAs plan entries command stepped
placed_step plan entries command taken (inl has) = (accepted, (taken, has))
placed_step plan entries command taken (inr none) = (full, (taken, none))

-- a visit has a new name, or a visit has it already
abbrev named_step : (plan : PlanState) (entries : ℕ) (new : NewVisit) (visit : Visit) → visit_named plan.visits new.name ≡ Some visit
    → AreDecided (new_of visit) new → (stepped : Stepped) × TakenAs plan entries (AddVisit new) stepped
named_step plan entries new visit is (inl same) = (repeated visit.added, (visit, (is, same), refl))
named_step plan entries new visit is (inr other) = (refused (name visit.number), (visit, (is, other), refl))

abbrev visit_step : (plan : PlanState) (entries : ℕ) (new : NewVisit) (found : Option Visit) → visit_named plan.visits new.name ≡ found
    → (stepped : Stepped) × TakenAs plan entries (AddVisit new) stepped
visit_step plan entries new None is = placed_step plan entries (AddVisit new) is (placed plan entries (AddVisit new))
visit_step plan entries new (Some visit) is = named_step plan entries new visit is (new_decided (new_of visit) new)

-- the edits of a draft apply, or they are refused
abbrev HasAnswer : PlanState → Draft → Type 0
HasAnswer plan draft = ((new : List Visit) × Rebases plan draft new) ⊎ ((fault : EditFault) × (fault ≢ Memory) × RefusesDraft plan draft fault)

abbrev new_step : (plan : PlanState) (entries : ℕ) (draft : Draft) → IsNew plan draft
    → HasAnswer plan draft → (stepped : Stepped) × TakenAs plan entries (Commit draft) stepped
new_step plan entries draft new (inl rebases) =
    placed_step plan entries (Commit draft) (new, rebases) (placed plan entries (Commit draft))
new_step plan entries draft new (inr (fault, some, refuses)) = (refused (edit fault), (new, refuses, some))

abbrev drafted_step : (plan : PlanState) (entries : ℕ) (draft : Draft) (made : Option ℕ) → draft_version plan.drafts draft.desk draft.number ≡ made
    → draft.base ≤ plan.version → (stepped : Stepped) × TakenAs plan entries (Commit draft) stepped
drafted_step plan entries draft (Some entry) is over = (repeated entry, (over, is))
drafted_step plan entries draft None is over =
    new_step plan entries draft (record { made_over = over; unused = is }) (answer plan draft)

abbrev based_step : (plan : PlanState) (entries : ℕ) (draft : Draft) → (plan.version < draft.base) ⊎ (draft.base ≤ plan.version)
    → (stepped : Stepped) × TakenAs plan entries (Commit draft) stepped
based_step plan entries draft (inl later) = (ahead, later)
based_step plan entries draft (inr over) =
    drafted_step plan entries draft (draft_version plan.drafts draft.desk draft.number) refl over

-- a report can have happened, or it is refused
abbrev report_step : (plan : PlanState) (entries : ℕ) (report : DeskReport) (found : Result Visit Denial) → visit_after_report plan report ≡ found
    → (stepped : Stepped) × TakenAs plan entries (Report report) stepped
report_step plan entries report (Ok visit) is =
    placed_step plan entries (Report report) (ap is_ok is) (placed plan entries (Report report))
report_step plan entries report (Err why) is = (refused (denied why), is)

-- a visit can be cancelled, or that is refused
abbrev cancel_step : (plan : PlanState) (entries : ℕ) (number : VisitNo) (found : Result Visit Denial) → cancellable plan number ≡ found
    → (stepped : Stepped) × TakenAs plan entries (Cancel number) stepped
cancel_step plan entries number (Ok visit) is = placed_step plan entries (Cancel number) (ap is_ok is) (placed plan entries (Cancel number))
cancel_step plan entries number (Err why) is = (refused (denied why), is)

-- each command has a step
abbrev pub some_step : (plan : PlanState) (entries : ℕ) (command : Command) → (stepped : Stepped) × TakenAs plan entries command stepped
some_step plan entries (AddVisit new) = visit_step plan entries new (visit_named plan.visits new.name) refl
some_step plan entries (Commit draft) = based_step plan entries draft (cases_lt plan.version draft.base)
some_step plan entries (Message passed) = placed_step plan entries (Message passed) tt (placed plan entries (Message passed))
some_step plan entries (Report report) = report_step plan entries report (visit_after_report plan report) refl
some_step plan entries (Cancel number) = cancel_step plan entries number (cancellable plan number) refl

-- and only one
only_full : (plan : PlanState) (entries : ℕ) (command : Command) (taken : IsTaken plan command) (place : IsPlaced plan entries command)
    → ¬ (CanGrowBy plan entries command) → full ≡ (placed_step plan entries command taken place).0
only_full plan entries command taken (inl has) none = absurd (none has)
only_full plan entries command taken (inr none) _ = refl

only_accepted : (plan : PlanState) (entries : ℕ) (command : Command) (taken : IsTaken plan command) (place : IsPlaced plan entries command)
    → CanGrowBy plan entries command → accepted ≡ (placed_step plan entries command taken place).0
only_accepted plan entries command taken (inl has) _ = refl
only_accepted plan entries command taken (inr none) has = absurd (none has)

module _ (plan : PlanState) (entries : ℕ) (new : NewVisit) where
  one_name : {A : Type 0} (visit : Visit) → visit_named plan.visits new.name ≡ Some visit → visit_named plan.visits new.name ≡ None → A
  one_name visit is none = absurd (cc)

  one_visit : (visit other : Visit) → visit_named plan.visits new.name ≡ Some visit → visit_named plan.visits new.name ≡ Some other → other ≡ visit
  one_visit visit other is also = cc

  only_unnamed : (stepped : Stepped) (is : visit_named plan.visits new.name ≡ None) → TakenAs plan entries (AddVisit new) stepped
      → stepped ≡ (placed_step plan entries (AddVisit new) is (placed plan entries (AddVisit new))).0
  only_unnamed ahead is steps = absurd steps
  only_unnamed (repeated entry) is steps = one_name steps.0 steps.1.0 is
  only_unnamed (refused (name number)) is steps = one_name steps.0 steps.1.0 is
  only_unnamed (refused (edit fault)) is steps = absurd steps
  only_unnamed (refused (denied why)) is steps = absurd steps
  only_unnamed full is steps = only_full plan entries (AddVisit new) is (placed plan entries (AddVisit new)) steps.1
  only_unnamed accepted is steps = only_accepted plan entries (AddVisit new) is (placed plan entries (AddVisit new)) steps.1

  only_named : (stepped : Stepped) (visit : Visit) (is : visit_named plan.visits new.name ≡ Some visit) (same : AreDecided (new_of visit) new)
      → TakenAs plan entries (AddVisit new) stepped → stepped ≡ (named_step plan entries new visit is same).0
  only_named ahead visit is same steps = absurd steps
  only_named (repeated entry) visit is (inl same) steps =
      let one = one_visit visit steps.0 is steps.1.0 in ap repeated (steps.2 ∙ ap (λ (v : Visit). v.added) one)
  only_named (repeated entry) visit is (inr other) steps =
      let one = one_visit visit steps.0 is steps.1.0 in absurd (other (subst (λ (v : Visit). new_of v ≡ new) one steps.1.1))
  only_named (refused (name number)) visit is (inl same) steps =
      let one = one_visit visit steps.0 is steps.1.0 in absurd (steps.1.1 (subst (λ (v : Visit). new_of v ≡ new) (sym one) same))
  only_named (refused (name number)) visit is (inr other) steps =
      let one = one_visit visit steps.0 is steps.1.0 in ap (λ (n : VisitNo). refused (name n)) (steps.2 ∙ ap (λ (v : Visit). v.number) one)
  only_named (refused (edit fault)) visit is same steps = absurd steps
  only_named (refused (denied why)) visit is same steps = absurd steps
  only_named full visit is same steps = one_name visit is steps.0
  only_named accepted visit is same steps = one_name visit is steps.0

  only_visit : (stepped : Stepped) (found : Option Visit) (is : visit_named plan.visits new.name ≡ found) → TakenAs plan entries (AddVisit new) stepped
      → stepped ≡ (visit_step plan entries new found is).0
  only_visit stepped None is steps = only_unnamed stepped is steps
  only_visit stepped (Some visit) is steps = only_named stepped visit is (new_decided (new_of visit) new) steps

module _ (plan : PlanState) (entries : ℕ) (draft : Draft) where
  not_over : {A : Type 0} → draft.base ≤ plan.version → plan.version < draft.base → A
  not_over over later = absurd (omega arith)

  only_ahead : (stepped : Stepped) → TakenAs plan entries (Commit draft) stepped → plan.version < draft.base → stepped ≡ ahead
  only_ahead ahead steps later = refl
  only_ahead (repeated entry) steps later = not_over steps.0 later
  only_ahead (refused (name number)) steps later = absurd steps
  only_ahead (refused (edit fault)) steps later = let new = steps.0 in not_over new.made_over later
  only_ahead (refused (denied why)) steps later = absurd steps
  only_ahead full steps later = let new = steps.0.0 in not_over new.made_over later
  only_ahead accepted steps later = let new = steps.0.0 in not_over new.made_over later

  not_new : {A : Type 0} (entry : ℕ) → draft_version plan.drafts draft.desk draft.number ≡ Some entry → IsNew plan draft → A
  not_new entry is new = let none = new.unused in absurd (cc)

  same_entry : (entry other : ℕ) → draft_version plan.drafts draft.desk draft.number ≡ Some entry → draft_version plan.drafts draft.desk draft.number ≡ Some other
      → other ≡ entry
  same_entry entry other is also = cc

  only_repeated : (stepped : Stepped) (entry : ℕ) → TakenAs plan entries (Commit draft) stepped → draft.base ≤ plan.version
      → draft_version plan.drafts draft.desk draft.number ≡ Some entry → stepped ≡ repeated entry
  only_repeated ahead entry steps over is = not_over over steps
  only_repeated (repeated other) entry steps over is = ap repeated (same_entry entry other is steps.1)
  only_repeated (refused (name number)) entry steps over is = absurd steps
  only_repeated (refused (edit fault)) entry steps over is = not_new entry is steps.0
  only_repeated (refused (denied why)) entry steps over is = absurd steps
  only_repeated full entry steps over is = not_new entry is steps.0.0
  only_repeated accepted entry steps over is = not_new entry is steps.0.0

  only_new : (stepped : Stepped) (new : IsNew plan draft) (answered : HasAnswer plan draft)
      → IsNumbered plan.visits → TakenAs plan entries (Commit draft) stepped → stepped ≡ (new_step plan entries draft new answered).0
  only_new ahead new answered numbered steps = not_over new.made_over steps
  only_new (repeated entry) new answered numbered steps = not_new entry steps.1 new
  only_new (refused (name number)) new answered numbered steps = absurd steps
  only_new (refused (edit fault)) new (inl rebases) numbered steps =
      absurd (rebased_or_refused plan draft rebases.0 fault steps.2 rebases.1 steps.1)
  only_new (refused (edit fault)) new (inr (other, some, refuses)) numbered steps =
      ap (λ (f : EditFault). refused (edit f)) (refusals_are_one plan draft fault other numbered steps.2 some steps.1 refuses)
  only_new (refused (denied why)) new answered numbered steps = absurd steps
  only_new full new (inl rebases) numbered steps = only_full plan entries (Commit draft) (new, rebases) (placed plan entries (Commit draft)) steps.1
  only_new full new (inr (fault, some, refuses)) numbered steps =
      let rebases = steps.0.1 in absurd (rebased_or_refused plan draft rebases.0 fault some rebases.1 refuses)
  only_new accepted new (inl rebases) numbered steps = only_accepted plan entries (Commit draft) (new, rebases) (placed plan entries (Commit draft)) steps.1
  only_new accepted new (inr (fault, some, refuses)) numbered steps =
      let rebases = steps.0.1 in absurd (rebased_or_refused plan draft rebases.0 fault some rebases.1 refuses)

  only_drafted : (stepped : Stepped) (made : Option ℕ) (is : draft_version plan.drafts draft.desk draft.number ≡ made) (over : draft.base ≤ plan.version) → IsNumbered plan.visits
      → TakenAs plan entries (Commit draft) stepped → stepped ≡ (drafted_step plan entries draft made is over).0
  only_drafted stepped (Some entry) is over numbered steps = only_repeated stepped entry steps over is
  only_drafted stepped None is over numbered steps =
      only_new stepped (record { made_over = over; unused = is }) (answer plan draft) numbered steps

  only_based : (stepped : Stepped) (based : (plan.version < draft.base) ⊎ (draft.base ≤ plan.version)) → IsNumbered plan.visits
      → TakenAs plan entries (Commit draft) stepped → stepped ≡ (based_step plan entries draft based).0
  only_based stepped (inl later) numbered steps = only_ahead stepped steps later
  only_based stepped (inr over) numbered steps = only_drafted stepped (draft_version plan.drafts draft.desk draft.number) refl over numbered steps

-- a message is accepted, or there is no place for it
only_message : (plan : PlanState) (entries : ℕ) (passed : DeskMessage) (stepped : Stepped) → TakenAs plan entries (Message passed) stepped
    → stepped ≡ (some_step plan entries (Message passed)).0
only_message plan entries passed ahead steps = absurd steps
only_message plan entries passed (repeated entry) steps = absurd steps
only_message plan entries passed (refused (name number)) steps = absurd steps
only_message plan entries passed (refused (edit fault)) steps = absurd steps
only_message plan entries passed (refused (denied why)) steps = absurd steps
only_message plan entries passed full steps = only_full plan entries (Message passed) tt (placed plan entries (Message passed)) steps.1
only_message plan entries passed accepted steps = only_accepted plan entries (Message passed) tt (placed plan entries (Message passed)) steps.1

-- what a report or a cancel finds decides its step
module _ (found : Result Visit Denial) where
  same_denial : (why other : Denial) → found ≡ Err other → found ≡ Err why → why ≡ other
  same_denial why other is also = cc

  not_denied : {A : Type 0} (why : Denial) (visit : Visit) → found ≡ Ok visit → found ≡ Err why → A
  not_denied why visit is also = absurd (cc)

  not_taken : {A : Type 0} (why : Denial) → found ≡ Err why → IsOk found → A
  not_taken why is some = absurd (let none = ap is_ok is in cc)

module _ (plan : PlanState) (entries : ℕ) (report : DeskReport) where
  abbrev at_number : Result Visit Denial
  at_number = visit_after_report plan report

  only_report : (stepped : Stepped) (found : Result Visit Denial) (is : at_number ≡ found) → TakenAs plan entries (Report report) stepped
      → stepped ≡ (report_step plan entries report found is).0
  only_report ahead found is steps = absurd steps
  only_report (repeated entry) found is steps = absurd steps
  only_report (refused (name other)) found is steps = absurd steps
  only_report (refused (edit fault)) found is steps = absurd steps
  only_report (refused (denied why)) (Ok visit) is steps = not_denied at_number why visit is steps
  only_report (refused (denied why)) (Err other) is steps = ap (λ (d : Denial). refused (denied d)) (same_denial at_number why other is steps)
  only_report full (Ok visit) is steps =
      only_full plan entries (Report report) (ap is_ok is) (placed plan entries (Report report)) steps.1
  only_report full (Err why) is steps = not_taken at_number why is steps.0
  only_report accepted (Ok visit) is steps =
      only_accepted plan entries (Report report) (ap is_ok is) (placed plan entries (Report report)) steps.1
  only_report accepted (Err why) is steps = not_taken at_number why is steps.0

module _ (plan : PlanState) (entries : ℕ) (number : VisitNo) where
  only_cancel : (stepped : Stepped) (found : Result Visit Denial) (is : cancellable plan number ≡ found) → TakenAs plan entries (Cancel number) stepped
      → stepped ≡ (cancel_step plan entries number found is).0
  only_cancel ahead found is steps = absurd steps
  only_cancel (repeated entry) found is steps = absurd steps
  only_cancel (refused (name other)) found is steps = absurd steps
  only_cancel (refused (edit fault)) found is steps = absurd steps
  only_cancel (refused (denied why)) (Ok visit) is steps = not_denied (cancellable plan number) why visit is steps
  only_cancel (refused (denied why)) (Err other) is steps =
      ap (λ (d : Denial). refused (denied d)) (same_denial (cancellable plan number) why other is steps)
  only_cancel full (Ok visit) is steps = only_full plan entries (Cancel number) (ap is_ok is) (placed plan entries (Cancel number)) steps.1
  only_cancel full (Err why) is steps = not_taken (cancellable plan number) why is steps.0
  only_cancel accepted (Ok visit) is steps = only_accepted plan entries (Cancel number) (ap is_ok is) (placed plan entries (Cancel number)) steps.1
  only_cancel accepted (Err why) is steps = not_taken (cancellable plan number) why is steps.0

the_step : (plan : PlanState) (entries : ℕ) (command : Command) (stepped : Stepped) → IsNumbered plan.visits → TakenAs plan entries command stepped
    → stepped ≡ (some_step plan entries command).0
the_step plan entries (AddVisit new) stepped numbered steps = only_visit plan entries new stepped (visit_named plan.visits new.name) refl steps
the_step plan entries (Commit draft) stepped numbered steps =
    only_based plan entries draft stepped (cases_lt plan.version draft.base) numbered steps
the_step plan entries (Message passed) stepped numbered steps = only_message plan entries passed stepped steps
the_step plan entries (Report report) stepped numbered steps =
    only_report plan entries report stepped (visit_after_report plan report) refl steps
the_step plan entries (Cancel number) stepped numbered steps = only_cancel plan entries number stepped (cancellable plan number) refl steps

-- each command has at most one step
pub one_step : (plan : PlanState) (entries : ℕ) (command : Command) (stepped other : Stepped) → IsNumbered plan.visits
    → TakenAs plan entries command stepped → TakenAs plan entries command other → stepped ≡ other
one_step plan entries command stepped other numbered steps also =
    the_step plan entries command stepped numbered steps ∙ sym (the_step plan entries command other numbered also)

-- the answers to commits that are not accepted
pub repeated_answered : (plan : PlanState) (entries : ℕ) (draft : Draft) (entry version : ℕ) → draft.base ≤ plan.version
    → draft_version plan.drafts draft.desk draft.number ≡ Some entry → version ≡ plan.version
    → IsAnswered plan entries (Commit draft) (record { version = version; told = Committed entry })
repeated_answered plan entries draft entry version over made is = record {
  stepped = repeated entry;
  steps = (over, made);
  other = λ same. absurd (cc);
  is = ap (λ (v : ℕ). record { version = v; told = Committed entry }) is;
}

pub refused_answered : (plan : PlanState) (entries : ℕ) (draft : Draft) (fault : EditFault) (version : ℕ) → draft.base ≤ plan.version
    → draft_version plan.drafts draft.desk draft.number ≡ None → RefusesDraft plan draft fault → fault ≢ Memory → version ≡ plan.version
    → IsAnswered plan entries (Commit draft) (record { version = version; told = Refused fault })
refused_answered plan entries draft fault version over unused refuses some is = record {
  stepped = refused (edit fault);
  steps = (record { made_over = over; unused = unused }, refuses, some);
  other = λ same. absurd (cc);
  is = ap (λ (v : ℕ). record { version = v; told = Refused fault }) is;
}

-- a report and a cancel that are refused, and a report for which there is no place
pub report_denied : (plan : PlanState) (entries : ℕ) (report : DeskReport) (why : Denial) → visit_after_report plan report ≡ Err why
    → IsAnswered plan entries (Report report) (reply_at plan.version (Denied why))
report_denied plan entries report why is = record { stepped = refused (denied why); steps = is; other = λ same. absurd (cc); is = refl }

pub cancel_denied : (plan : PlanState) (entries : ℕ) (number : VisitNo) (why : Denial) → cancellable plan number ≡ Err why
    → IsAnswered plan entries (Cancel number) (reply_at plan.version (Denied why))
cancel_denied plan entries number why is = record { stepped = refused (denied why); steps = is; other = λ same. absurd (cc); is = refl }

pub report_full : (plan : PlanState) (entries : ℕ) (report : DeskReport) (visit : Visit) → visit_after_report plan report ≡ Ok visit
    → ¬ (TakesEntry entries) → IsAnswered plan entries (Report report) (reply_at plan.version Full)
report_full plan entries report visit is none = record { stepped = full; steps = (ap is_ok is, none); other = λ same. absurd (cc); is = refl }

-- the answer if a visit has the name of the one to be added
same_answered : (plan : PlanState) (entries : ℕ) (new : NewVisit) (visit : Visit) (version : ℕ) → visit_named plan.visits new.name ≡ Some visit → new_of visit ≡ new
    → version ≡ plan.version → IsAnswered plan entries (AddVisit new) (record { version = version; told = Added visit.added visit.number })
same_answered plan entries new visit version named same is = record {
  stepped = repeated visit.added;
  steps = (visit, (named, same), refl);
  other = λ equal. absurd (cc);
  is = rw (named, is) refl;
}

other_answered : (plan : PlanState) (entries : ℕ) (new : NewVisit) (visit : Visit) (version : ℕ) → visit_named plan.visits new.name ≡ Some visit → new_of visit ≢ new
    → version ≡ plan.version → IsAnswered plan entries (AddVisit new) (record { version = version; told = OtherName visit.number })
other_answered plan entries new visit version named other is = record {
  stepped = refused (name visit.number);
  steps = (visit, (named, other), refl);
  other = λ equal. absurd (cc);
  is = ap (λ (v : ℕ). record { version = v; told = OtherName visit.number }) is;
}

decided_answered : (plan : PlanState) (entries : ℕ) (new : NewVisit) (visit : Visit) (version : ℕ) (told : ReplyBody) → AreDecided (new_of visit) new
    → visit_named plan.visits new.name ≡ Some visit → version ≡ plan.version → (new_of visit ≡ new → told ≡ Added visit.added visit.number)
    → (new_of visit ≢ new → told ≡ OtherName visit.number) → IsAnswered plan entries (AddVisit new) (record { version = version; told = told })
decided_answered plan entries new visit version told (inl same) named is told_same told_other =
    subst (λ (t : ReplyBody). IsAnswered plan entries (AddVisit new) (record { version = version; told = t })) (sym (told_same same))
    (same_answered plan entries new visit version named same is)
decided_answered plan entries new visit version told (inr other) named is told_same told_other =
    subst (λ (t : ReplyBody). IsAnswered plan entries (AddVisit new) (record { version = version; told = t })) (sym (told_other other))
    (other_answered plan entries new visit version named other is)

pub named_answered : (plan : PlanState) (entries : ℕ) (new : NewVisit) (visit : Visit) (version : ℕ) (told : ReplyBody)
    → visit_named plan.visits new.name ≡ Some visit → version ≡ plan.version → (new_of visit ≡ new → told ≡ Added visit.added visit.number)
    → (new_of visit ≢ new → told ≡ OtherName visit.number) → IsAnswered plan entries (AddVisit new) (record { version = version; told = told })
named_answered plan entries new visit version told = decided_answered plan entries new visit version told (new_decided (new_of visit) new)

-- what a rebased draft comes to, if the history takes one more entry
pub committed_finds : (plan : PlanState) (entries : ℕ) (draft : Draft) (change : ChangeState) → IsNumbered plan.visits
    → plan.version ≡ entries → draft.base ≤ plan.version → draft_version plan.drafts draft.desk draft.number ≡ None → TakesEntry entries
    → IsRebased plan draft change → (plan.version + 1 < version_limit → IsInstallable plan change)
    → ComesTo plan entries (Commit draft) (Accepted change (record { version = change.version; told = Committed change.version }))
committed_finds plan entries draft change numbered counted over unused place rebased fits =
    let last : plan.version + 1 < version_limit = omega (arith, counted, place) in (
      ((record { made_over = over; unused = unused }, rebased_taken plan draft change rebased), place),
      rebased_makes plan draft change numbered (fits last) rebased,
      ap (λ (v : ℕ). record { version = v; told = Committed v }) rebased.version,
    )
