use Rattle.std.proofs.Common.{◌≡◌, take}
use Rattle.history_core.specs.Board.{entry_texts}
use Rattle.watch_list.specs.HistoryNotes.{notes_of}
use Rattle.watch_list.proofs.noted_board.noted_opening.Given as goal

abbrev pub invariant-loop-bytes : goal.invariant-loop-bytes
invariant-loop-bytes l = record {
  airport : l.opening.airport ≡ l.airport;
  texts : take l.bytes-index l.entries ≡ entry_texts l.opening.history;
  notes : l.notes.items ≡ notes_of l.opening.airport l.opening.history;
}
