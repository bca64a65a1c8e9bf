-- Which entry edited a visit last.
use Rattle.std.proofs.Common.{◌≡◌, ◌∙◌, ◌≤◌, ◌<◌, ◌+◌, ◌∷◌, [], ℕ, Bool, true, false, List, length, length-append, Some, Ok, refl, sym, ap, subst, arith, inl, inr, if◌then◌else◌}
use Rattle.std.proofs.lemmas.Bool.{or_cases}
use Rattle.std.proofs.lemmas.List.{length-map}
use Rattle.std.proofs.lemmas.Bool.Decides.{nat_tests}
use Rattle.apron_base.specs.Histories.{Every}
use Rattle.apron_base.specs.declared.numbers.VisitNo.{VisitNo}
use Rattle.apron_rules.specs.declared.parts.AirportParts.{AirportParts}
use Rattle.visit_book.specs.declared.edits.Edit.{Edit}
use Rattle.visit_book.specs.declared.visits.Visit.{Visit}
use Rattle.visit_book.specs.Edits.{visit_of}
use Rattle.visit_book.specs.Numbers.{IsNumbered, IsNumberedAbove, has_number, visit_at}
use Rattle.plan_core.specs.Adding.{next_visit}
use Rattle.plan_core.specs.Edits.{after_edit, after_edits, is_edited, is_of_visit}
use Rattle.plan_core.specs.PlanState.{PlanState, empty_plan}
use Rattle.plan_core.specs.Rebase.{edited_last, visits_after_commit}
use Rattle.plan_core.proofs.EditKept.{EditsVisit, edits_visit}
use Rattle.plan_core.proofs.Results.{then_ok}
use Rattle.desk_asks.specs.declared.asks.Command.{Command}
use Rattle.desk_asks.specs.declared.asks.Command.TheVariants.{AddVisit, Commit, Message, Report, Cancel}
use Rattle.desk_asks.specs.declared.asks.Entry.{Entry}
use Rattle.history_core.specs.History.{AreTakenFrom, IsLegal, after_entries, replay}
use Rattle.history_core.specs.Laws.{edits_visit as edits_this, last_edit}
use Rattle.history_core.specs.Acceptance.{IsTaken, after_command}
use Rattle.plan_core.proofs.ByNumber.{found_number}
use Rattle.plan_core.proofs.Changed.{Follows, edits_follow}
use Rattle.history_core.proofs.Happenings.{cancel_keeps, message_keeps, report_keeps}
use Rattle.history_core.proofs.Kept.{all_last, edit_leaves, edits_leave, found_has}
use Rattle.history_core.proofs.KeptVisits.{AreKept, all_kept, kept_length}
use Rattle.history_core.proofs.Replay.{command_numbered, command_version, commits}

-- each visit has at most this number
abbrev IsUpTo : ℕ → Visit → Type 0
IsUpTo count visit = visit.number.0 ≤ count

numbered_up_to : (number count : ℕ) (visits : List Visit) → IsNumberedAbove number visits → number + length visits ≤ count → Every (IsUpTo count) visits
numbered_up_to number count [] numbered few = tt
numbered_up_to number count (visit ∷ visits) numbered few =
    let first : visit.number.0 ≡ number + 1 = numbered.0 in
    (omega (arith, first, few), numbered_up_to (number + 1) count visits numbered.1 (omega (arith, few)))

-- visits that edits apply to exist
edited_up_to : (airport : AirportParts) (base number : ℕ) (edits : List Edit) (visits new : List Visit) (count named : ℕ)
    → after_edits airport base number edits visits ≡ Ok new → Every (IsUpTo count) visits → is_edited edits named ≡ true → named ≤ count
edited_up_to airport base number [] visits new count named is all edited = absurd (cc)
edited_up_to airport base number (edit ∷ edits) visits new count named is all edited =
    let made = then_ok (after_edit airport base number edit visits) (λ after. after_edits airport base (number + 1) edits after) new is in
    elim (or_cases (is_of_visit named edit) (is_edited edits named) edited) [
      | inl first ↦
          let of : EditsVisit airport base number edit visits made.0 = edits_visit airport base number edit visits made.0 made.1 in
          let few : of.visit.number.0 ≤ count = found_has (IsUpTo count) (has_number (visit_of edit)) visits of.visit all of.found in
          let same : of.visit.number.0 ≡ (visit_of edit).0 = found_number visits (visit_of edit) of.visit of.found in
          let named_is : (visit_of edit).0 ≡ named = grind (arith, nat_tests, first) in
          omega arith
      | inr later ↦
          edited_up_to airport base (number + 1) edits made.0 new count named made.2
          (edit_leaves (IsUpTo count) (λ visit parts few. few) airport base number edit visits made.0 made.1 all) later
    ]

-- the last edit of each visit is what `last` has for its number, and `last` has 0 for numbers
-- without a visit
record AreEditedBy (last : ℕ → ℕ) (visits : List Visit) : Type 0 where
  edited : Every (λ (visit : Visit). visit.edited ≡ last visit.number.0) visits
  none : (number : ℕ) → length visits < number → last number ≡ 0

-- what `last` is after a command that makes this version
abbrev last_after : (ℕ → ℕ) → ℕ → Command → ℕ → ℕ
last_after last version command number = if edits_this command number then version else last number

module _ (last : ℕ → ℕ) where
  abbrev IsEditedBy : Visit → Type 0
  IsEditedBy visit = visit.edited ≡ last visit.number.0

  stamped_one : (version : ℕ) (visit : Visit) (here : Bool) → IsEditedBy visit
      → (if here then edited_last version visit else visit).edited ≡ (if here then version else last visit.number.0)
  stamped_one version visit true is = refl
  stamped_one version visit false is = is

  stamped_number : (version : ℕ) (visit : Visit) (here : Bool) → (if here then edited_last version visit else visit).number.0 ≡ visit.number.0
  stamped_number version visit true = refl
  stamped_number version visit false = refl

  -- after a commit the edited visits have its version
  stamped_edited : (version : ℕ) (edits : List Edit) (visits : List Visit) → Every IsEditedBy visits
      → Every (λ (visit : Visit). visit.edited ≡ (if is_edited edits visit.number.0 then version else last visit.number.0)) (visits_after_commit version edits visits)
  stamped_edited version edits [] all = tt
  stamped_edited version edits (visit ∷ visits) all =
      let here = is_edited edits visit.number.0 in (
        stamped_one version visit here all.0
            ∙ ap (λ (n : ℕ). if is_edited edits n then version else last n) (sym (stamped_number version visit here)),
        stamped_edited version edits visits all.1,
      )

  none_after : (count version named : ℕ) (edited : Bool) → (edited ≡ true → named ≤ count) → count < named → last named ≡ 0
      → (if edited then version else last named) ≡ 0
  none_after count version named true within above none = absurd (let few = within refl in omega arith)
  none_after count version named false within above none = none

follows_length : (e : ℕ → Bool) (number : ℕ) (olds news : List Visit) → Follows e number olds news → length news ≡ length olds
follows_length e number [] [] follows = refl
follows_length e number (old ∷ olds) (new ∷ news) follows =
    let rest : length news ≡ length olds = follows_length e (number + 1) olds news follows.1 in omega arith
follows_length e number [] (new ∷ news) follows = absurd follows
follows_length e number (old ∷ olds) [] follows = absurd follows

-- what happens to visits is no edit
kept_edited : (last : ℕ → ℕ) (olds news : List Visit) → AreKept olds news → AreEditedBy last olds → AreEditedBy last news
kept_edited last olds news kept all = record {
  edited = all_kept (IsEditedBy last) (λ old new keeps is. keeps.edited ∙ (is ∙ ap (λ (n : VisitNo). last n.0) (sym keeps.number))) olds news kept all.edited;
  none = λ number above. all.none number (let size = kept_length olds news kept in omega (arith, above, size));
}

-- the last edits after a command that is taken
command_edited : (last : ℕ → ℕ) (plan : PlanState) (command : Command) → IsTaken plan command → IsNumbered plan.visits → AreEditedBy last plan.visits
    → AreEditedBy (last_after last (plan.version + 1) command) (after_command plan command).visits
command_edited last plan (AddVisit new) taken numbered all = record {
  edited = all_last (IsEditedBy last) plan.visits (next_visit plan new) all.edited (sym (all.none (length plan.visits + 1) (omega arith)));
  none = λ number above. all.none number (let longer = length-append plan.visits (next_visit plan new ∷ []) in omega (arith, above, longer));
}
command_edited last plan (Commit draft) taken numbered all =
    let made = commits plan draft taken in
    let follows = edits_follow plan.airport draft.base 1 draft.edits plan.visits made.new numbered made.apply in
    let left = edits_leave (IsEditedBy last) (λ visit parts is. is) plan.airport draft.base 1 draft.edits plan.visits made.new made.apply all.edited in
    let within = edited_up_to plan.airport draft.base 1 draft.edits plan.visits made.new (length plan.visits) in
    let size : length (visits_after_commit (plan.version + 1) draft.edits made.new) ≡ length plan.visits =
    length-map made.new _ ∙ follows_length (is_edited draft.edits) 0 plan.visits made.new follows in
    subst (λ (p : PlanState). AreEditedBy (last_after last (plan.version + 1) (Commit draft)) p.visits) (sym made.makes)
    (record {
      edited = stamped_edited last (plan.version + 1) draft.edits made.new left;
      none = λ number above. none_after last (length plan.visits) (plan.version + 1) number (is_edited draft.edits number)
          (within number made.apply (numbered_up_to 0 (length plan.visits) plan.visits numbered (omega arith)))
          (omega (arith, above, size)) (all.none number (omega (arith, above, size)));
    })
command_edited last plan (Message passed) taken numbered all =
    kept_edited last plan.visits (after_command plan (Message passed)).visits (message_keeps plan passed.message numbered) all
command_edited last plan (Report report) taken numbered all =
    kept_edited last plan.visits (after_command plan (Report report)).visits (report_keeps plan report) all
command_edited last plan (Cancel number) taken numbered all =
    kept_edited last plan.visits (after_command plan (Cancel number)).visits (cancel_keeps plan number numbered) all

all_edited : (last : ℕ → ℕ) (plan : PlanState) (count : ℕ) (history : List Entry) → AreTakenFrom plan count history → IsNumbered plan.visits
    → AreEditedBy last plan.visits → Every (IsEditedBy (λ n. last_edit n plan.version (last n) history)) (after_entries plan history).visits
all_edited last plan count [] taken numbered all = all.edited
all_edited last plan count (entry ∷ history) taken numbered all =
    let after = after_command plan entry.command in
    let next : after.version ≡ plan.version + 1 = command_version plan entry.command taken.1.0 in
    let more : ℕ → ℕ = last_after last (plan.version + 1) entry.command in
    subst (λ (version : ℕ). Every (IsEditedBy (λ n. last_edit n version (more n) history)) (after_entries after history).visits) next
    (all_edited more after (count + 1) history taken.2 (command_numbered plan entry.command taken.1.0 numbered)
    (command_edited last plan entry.command taken.1.0 numbered all))

-- a visit was edited last by the last entry that edits it
pub edited_by_last : (airport : AirportParts) (history : List Entry) (visit : Visit) → IsLegal airport history
    → visit_at (replay airport history).visits visit.number ≡ Some visit → visit.edited ≡ last_edit visit.number.0 0 0 history
edited_by_last airport history visit legal found =
    found_has (IsEditedBy (λ n. last_edit n 0 0 history)) (has_number visit.number) (replay airport history).visits visit
    (all_edited (λ _. 0) (empty_plan airport) 0 history legal.taken tt (record { edited = tt; none = λ number above. refl })) found
