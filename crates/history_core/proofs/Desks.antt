-- The desks that sent messages and reports have no effect on the plan.
use Rattle.std.proofs.Common.{◌≡◌, ◌∙◌, ◌+◌, ◌∷◌, [], ℕ, List, refl, sym, ap, subst}
use Rattle.apron_base.specs.Histories.{Rises}
use Rattle.apron_rules.specs.declared.parts.AirportParts.{AirportParts}
use Rattle.plan_core.specs.PlanState.{PlanState, empty_plan}
use Rattle.desk_asks.specs.Commands.{IsCommandOf}
use Rattle.desk_asks.specs.declared.asks.Command.{Command}
use Rattle.desk_asks.specs.declared.asks.Command.TheVariants.{AddVisit, Commit, Message, Report, Cancel}
use Rattle.desk_asks.specs.declared.asks.Entry.{Entry}
use Rattle.history_core.specs.History.{AreTakenFrom, IsLegal, after_entries, call_limit, call_of, replay}
use Rattle.history_core.specs.Laws.{without_desk, without_desks}
use Rattle.history_core.specs.Acceptance.{TakenAs, accepted, after_command}

-- a command does the same without a desk
same_after : (plan : PlanState) (command : Command) → after_command plan (without_desk command) ≡ after_command plan command
same_after plan (AddVisit new) = refl
same_after plan (Commit draft) = refl
same_after plan (Message passed) = refl
same_after plan (Report report) = refl
same_after plan (Cancel visit) = refl

after_without : (plan : PlanState) (history : List Entry) → after_entries plan (without_desks history) ≡ after_entries plan history
after_without plan [] = refl
after_without plan (entry ∷ history) =
    ap (λ (p : PlanState). after_entries p (without_desks history)) (same_after plan entry.command)
    ∙ after_without (after_command plan entry.command) history

replay_without : (airport : AirportParts) (history : List Entry) → replay airport (without_desks history) ≡ replay airport history
replay_without airport history = after_without (empty_plan airport) history

-- the command is of the plan's airport, and is accepted after this many entries
abbrev IsNextAt : PlanState → ℕ → Command → Type 0
IsNextAt plan count command = IsCommandOf plan.airport command × TakenAs plan count command accepted

-- a command is accepted with a desk exactly if it is accepted without one
next_without : (plan : PlanState) (count : ℕ) (command : Command) → IsNextAt plan count command → IsNextAt plan count (without_desk command)
next_without plan count (AddVisit new) next = next
next_without plan count (Commit draft) next = next
next_without plan count (Message passed) next = next
next_without plan count (Report report) next = next
next_without plan count (Cancel visit) next = next

next_with : (plan : PlanState) (count : ℕ) (command : Command) → IsNextAt plan count (without_desk command) → IsNextAt plan count command
next_with plan count (AddVisit new) next = next
next_with plan count (Commit draft) next = next
next_with plan count (Message passed) next = next
next_with plan count (Report report) next = next
next_with plan count (Cancel visit) next = next

taken_without : (plan : PlanState) (count : ℕ) (history : List Entry) → AreTakenFrom plan count history → AreTakenFrom plan count (without_desks history)
taken_without plan count [] taken = tt
taken_without plan count (entry ∷ history) (valid, steps, rest) =
    let next = next_without plan count entry.command (valid, steps) in (
      next.0,
      next.1,
      subst (λ (p : PlanState). AreTakenFrom p (count + 1) (without_desks history)) (sym (same_after plan entry.command))
          (taken_without (after_command plan entry.command) (count + 1) history rest),
    )

taken_with : (plan : PlanState) (count : ℕ) (history : List Entry) → AreTakenFrom plan count (without_desks history) → AreTakenFrom plan count history
taken_with plan count [] taken = tt
taken_with plan count (entry ∷ history) (valid, steps, rest) =
    let next = next_with plan count entry.command (valid, steps) in (
      next.0,
      next.1,
      taken_with (after_command plan entry.command) (count + 1) history
          (subst (λ (p : PlanState). AreTakenFrom p (count + 1) (without_desks history)) (same_after plan entry.command) rest),
    )

-- the call numbers stay
numbers_without : (low high : ℕ) (history : List Entry) → Rises call_of low high history → Rises call_of low high (without_desks history)
numbers_without low high [] rises = rises
numbers_without low high (entry ∷ history) (first, rest) = (first, numbers_without (entry.call + 1) high history rest)

numbers_with : (low high : ℕ) (history : List Entry) → Rises call_of low high (without_desks history) → Rises call_of low high history
numbers_with low high [] rises = rises
numbers_with low high (entry ∷ history) (first, rest) = (first, numbers_with (entry.call + 1) high history rest)

legal_without : (airport : AirportParts) (history : List Entry) → IsLegal airport history → IsLegal airport (without_desks history)
legal_without airport history legal = record {
  taken = taken_without (empty_plan airport) 0 history legal.taken;
  numbers = numbers_without 1 call_limit history legal.numbers;
}

legal_with : (airport : AirportParts) (history : List Entry) → IsLegal airport (without_desks history) → IsLegal airport history
legal_with airport history legal = record {
  taken = taken_with (empty_plan airport) 0 history legal.taken;
  numbers = numbers_with 1 call_limit history legal.numbers;
}

-- histories that differ only in these desks are legal together, and make the same plan
pub legal_same : (airport : AirportParts) (one other : List Entry) → without_desks one ≡ without_desks other → IsLegal airport one → IsLegal airport other
legal_same airport one other same legal = legal_with airport other (subst (IsLegal airport) same (legal_without airport one legal))

pub replay_same : (airport : AirportParts) (one other : List Entry) → without_desks one ≡ without_desks other → replay airport one ≡ replay airport other
replay_same airport one other same =
    sym (replay_without airport one) ∙ (ap (replay airport) same ∙ replay_without airport other)
