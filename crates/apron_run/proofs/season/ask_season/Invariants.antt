use Rattle.std.proofs.Common.{◌≡◌, ◌≤◌, ◌+◌, length, take}
use Rattle.apron_run.specs.Asking.{MeetsAll}
use Rattle.apron_run.proofs.season.ask_season.Given as goal
use Rattle.history_core.specs.Board.{machine_state}

abbrev pub invariant-loop-k : goal.invariant-loop-k
invariant-loop-k g l = record {
  met : MeetsAll l.fn.board.airport (take l.k l.visits) (machine_state g.K.Keeper.state l.fn.board) (machine_state g.K.Keeper.state l.board);
  airport : l.board.airport ≡ l.fn.board.airport;
  grown : length l.fn.board.history ≤ length l.board.history;
  few : length l.board.history ≤ length l.fn.board.history + l.k;
}
