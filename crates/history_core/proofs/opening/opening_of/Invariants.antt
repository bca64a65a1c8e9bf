use Rattle.std.proofs.Common.{◌≡◌, take}
use Rattle.history_core.specs.Board.{entry_texts}
use Rattle.history_core.proofs.opening.opening_of.Given as goal

abbrev pub invariant-loop-bytes : goal.invariant-loop-bytes
invariant-loop-bytes l = record {
  airport : l.opening.airport ≡ l.airport;
  texts : take l.bytes-index l.entries ≡ entry_texts l.opening.history;
}
