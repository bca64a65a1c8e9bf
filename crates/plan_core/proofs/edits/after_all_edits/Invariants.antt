use Rattle.std.proofs.Common.{◌≡◌, ◌+◌, drop}
use Rattle.std.specs.Prelude.{All}
use Rattle.visit_book.specs.WellFormed.{IsWellFormed}
use Rattle.plan_core.specs.Edits.{after_all_edits, after_edits}
use Rattle.plan_core.proofs.edits.after_all_edits.Given as goal

-- applying the remaining edits to what there is now gives what all edits give on what there was
abbrev pub invariant-loop-edit : goal.invariant-loop-edit
invariant-loop-edit l = record {
  number : l.number ≡ l.edit-index + 1;
  told : after_edits l.airport l.base l.number (drop l.edit-index l.edits) l.visits ≡ after_all_edits l.airport l.base l.edits l.fn.visits;
  each : All (IsWellFormed l.airport) l.visits;
}
