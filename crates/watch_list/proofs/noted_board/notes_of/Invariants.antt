use Rattle.std.proofs.Common.{◌≡◌, ◌≤◌, take}
use Rattle.history_core.specs.Opening.{next_after}
use Rattle.watch_list.proofs.noted_board.notes_of.Given as goal

abbrev pub invariant-loop-entry : goal.invariant-loop-entry
invariant-loop-entry l = record {
  airport : l.board.airport ≡ l.airport;
  history : l.board.history ≡ take l.entry-index l.history;
  next : l.board.next ≤ next_after (take l.entry-index l.history);
}
