-- A board with watches may cross threads.
use denote.Param.Send.{IsSend, IsSync, sendable}
use denote.RattleType.{RattleType}
use denote.Ref.{NamedLft}
use Rattle.std.proofs.Crossing.{crosses}
use Rattle.apron_base.specs.declared.keeper.Keeper as keepers
use Rattle.history_core.proofs.Crosses.{board_send}
use Rattle.watch_list.specs.contracts.watch_board.WatchBoard as WatchBoard
use Rattle.watch_list.specs.declared.note.Stated as stated
use Rattle.watch_list.specs.declared.watch.NoteTest as tests

-- if its keeper may, and if what is stated and the tests may be shared
pub watch_board_send : (ω κ : NamedLft) (K R T : RattleType) (k : keepers.Ghosts K.Denot) (r : stated.Ghosts R.Denot) (t : tests.Ghosts T.Denot)
    → IsSend K → IsSync R → IsSync T → IsSend (WatchBoard.the_row ω κ K R T k r t)
watch_board_send ω κ K R T k r t keeper_send stated_sync test_sync = search (board_send, sendable, crosses) depth 60 fits 20000
