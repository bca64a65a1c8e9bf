-- What a legal history has: a sound plan, legal fronts, and an entry for each version.
use Rattle.std.proofs.Common.{◌≡◌, ◌∙◌, ◌≤◌, ◌<◌, ◌+◌, ◌-◌, ℕ, zero, suc, List, [], ◌∷◌, ◌++◌, append-nil, length, refl, sym, ap, subst, arith, Result, Ok, Err}
use Rattle.std.specs.Result.{result_ok}
use Rattle.apron_base.specs.Histories.{Rises}
use Rattle.apron_rules.specs.declared.parts.AirportParts.{AirportParts}
use Rattle.apron_rules.specs.Clash.{IsSound}
use Rattle.visit_book.specs.declared.visits.Visit.{Visit}
use Rattle.visit_book.specs.declared.edits.EditFault.{EditFault}
use Rattle.visit_book.specs.Slots.{slots_of}
use Rattle.plan_core.specs.Adding.{next_visit}
use Rattle.plan_core.specs.PlanState.{PlanState, empty_plan}
use Rattle.bump_core.specs.Settled.{with_changed}
use Rattle.bump_core.proofs.Settled.{settled_sound}
use Rattle.plan_core.proofs.Changed.{stamped_slots}
use Rattle.plan_core.proofs.SlotLists.{slots_of-push}
use Rattle.desk_asks.specs.declared.asks.Command.{Command}
use Rattle.desk_asks.specs.declared.asks.Command.TheVariants.{AddVisit, Commit, Message, Report, Cancel}
use Rattle.desk_asks.specs.declared.asks.Entry.{Entry}
use Rattle.desk_words.specs.declared.replies.Denial.{Denial}
use Rattle.history_core.specs.Acceptance.{IsTaken, after_command, cancellable, cancelled_if, committed_if, visit_after_message, visit_after_report}
use Rattle.history_core.specs.History.{AreTakenFrom, IsLegal, IsSoundPlan, after_entries, call_limit, call_of, replay}
use Rattle.history_core.specs.Laws.{HasEntry}
use Rattle.history_core.proofs.Cancels.{cancelled_sound}
use Rattle.history_core.proofs.Replay.{versions_count}

cancelled_if_sound : (plan : PlanState) (found : Result Visit Denial) → IsSoundPlan plan → IsSoundPlan (cancelled_if plan found)
cancelled_if_sound plan (Ok visit) sound = cancelled_sound plan visit sound
cancelled_if_sound plan (Err why) sound = sound

-- the plan after a taken command is sound
command_sound : (plan : PlanState) (command : Command) → IsTaken plan command → IsSoundPlan plan → IsSoundPlan (after_command plan command)
command_sound plan (AddVisit new) taken sound =
    let pushed = slots_of-push plan.airport plan.visits (next_visit plan new) ∙ append-nil (slots_of plan.airport plan.visits) in
    subst (IsSound plan.airport) (sym pushed) sound
command_sound plan (Commit draft) (new, (visits, rebases)) sound =
    subst (λ (r : Result (List Visit) EditFault). IsSoundPlan (committed_if plan draft r)) (sym rebases.apply)
    (subst (λ slots. IsSound plan.airport slots) (sym (stamped_slots plan.airport (plan.version + 1) draft.edits visits)) rebases.sound)
command_sound plan (Message passed) taken sound = settled_sound plan.airport (plan.version + 1) (with_changed plan.visits (visit_after_message plan passed.message))
command_sound plan (Report report) taken sound =
    settled_sound plan.airport (plan.version + 1) (with_changed plan.visits (result_ok (visit_after_report plan report)))
command_sound plan (Cancel number) taken sound = cancelled_if_sound plan (cancellable plan number) sound

taken_sound : (plan : PlanState) (count : ℕ) (history : List Entry) → IsSoundPlan plan → AreTakenFrom plan count history → IsSoundPlan (after_entries plan history)
taken_sound plan count [] sound h = sound
taken_sound plan count (e ∷ history) sound h =
    taken_sound (after_command plan e.command) (count + 1) history (command_sound plan e.command h.1.0 sound) h.2

empty_sound : (airport : AirportParts) → IsSoundPlan (empty_plan airport)
empty_sound airport slot other minute rule here there clash = absurd (omega (arith, here.1))

-- the plan of a legal history is sound
pub legal_sound : (airport : AirportParts) (history : List Entry) → IsLegal airport history → IsSoundPlan (replay airport history)
legal_sound airport history h = taken_sound (empty_plan airport) 0 history (empty_sound airport) h.taken

front_taken : (plan : PlanState) (count : ℕ) (front back : List Entry) → AreTakenFrom plan count (front ++ back) → AreTakenFrom plan count front
front_taken plan count [] back h = tt
front_taken plan count (e ∷ front) back h = (h.0, h.1, front_taken (after_command plan e.command) (count + 1) front back h.2)

rises_order : {E : Type 0} (number : E → ℕ) (low high : ℕ) (es : List E) → Rises number low high es → low ≤ high
rises_order number low high [] h = h
rises_order number low high (e ∷ es) h = let rest : number e + 1 ≤ high = rises_order number (number e + 1) high es h.1 in let first : low ≤ number e = h.0 in omega arith

front_rises : {E : Type 0} (number : E → ℕ) (low high : ℕ) (front back : List E) → Rises number low high (front ++ back) → Rises number low high front
front_rises number low high [] back h = rises_order number low high back h
front_rises number low high (e ∷ front) back h = (h.0, front_rises number (number e + 1) high front back h.1)

-- the fronts of a legal history are legal
pub front_legal : (airport : AirportParts) (front back : List Entry) → IsLegal airport (front ++ back) → IsLegal airport front
front_legal airport front back h = record {
  taken = front_taken (empty_plan airport) 0 front back h.taken;
  numbers = front_rises call_of 1 call_limit front back h.numbers;
}

-- each entry makes the next version
pub legal_counted : (airport : AirportParts) (history : List Entry) → IsLegal airport history → (replay airport history).version ≡ length history
legal_counted airport history legal = let counted = versions_count (empty_plan airport) 0 history legal.taken in omega arith

-- the entry of a number, after this many others
entry_at : (history : List Entry) (count : ℕ) → count < length history → (entry : Entry) × HasEntry history (count + 1) entry
entry_at [] count below = absurd (omega arith)
entry_at (e ∷ history) zero below = (e, record { before = []; after = history; is = refl; counted = refl })
entry_at (e ∷ history) (suc count) below =
    let found = entry_at history count (omega arith) in
    let has : HasEntry history (count + 1) found.0 = found.1 in
    (found.0, record { before = e ∷ has.before; after = has.after; is = ap (λ (es : List Entry). e ∷ es) has.is; counted = let counted = has.counted in omega arith })

-- each version was made by an entry
pub version_entry : (airport : AirportParts) (history : List Entry) (version : ℕ) → IsLegal airport history
    → 1 ≤ version → version ≤ (replay airport history).version → (entry : Entry) × HasEntry history version entry
version_entry airport history version legal some few =
    let counted : (replay airport history).version ≡ length history = legal_counted airport history legal in
    let same : (version - 1) + 1 ≡ version = omega arith in
    subst (λ (n : ℕ). (entry : Entry) × HasEntry history n entry) same (entry_at history (version - 1) (omega arith))
