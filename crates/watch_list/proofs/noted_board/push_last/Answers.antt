use Rattle.std.proofs.Common.{◌≡◌, ◌∙◌, ◌++◌, ℕ, List, ap}
use Rattle.plan_core.specs.PlanState.{PlanState}
use Rattle.history_core.specs.History.{replay}
use Rattle.history_core.proofs.Legal.{legal_counted}
use Rattle.watch_list.specs.declared.note.Note.{Note}
use Rattle.watch_list.specs.HistoryNotes.{last_notes}
use Rattle.watch_list.specs.Notes.{notes_by}
use Rattle.watch_list.proofs.noted_board.push_last.Goals as goal

pub returns : goal.returns
returns c =
    let airport = c.args.opening.now.airport in
    let history = c.args.opening.now.history in
    let plan = c.plan.result.now.plan in
    let made : notes_by plan.version plan.visits ≡ last_notes airport history =
    ap (λ (p : PlanState). notes_by p.version p.visits) c.plan.ensures.replay
    ∙ ap (λ (n : ℕ). notes_by n (replay airport history).visits) (legal_counted airport history c.plan.ensures.legal) in
    record {
      notes = c.push_notes.ensures.notes
          ∙ (ap (λ (l : List Note). l ++ notes_by plan.version plan.visits) c.reserve.ensures.items
          ∙ ap (λ (l : List Note). c.args.notes.now.items ++ l) made);
    }
