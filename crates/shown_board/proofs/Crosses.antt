-- A board that is shown on screens may cross threads.
use denote.Param.Send.{IsSend, IsSync, sendable}
use denote.RattleType.{RattleType}
use denote.Ref.{NamedLft}
use Rattle.std.proofs.Crossing.{crosses}
use Rattle.apron_base.specs.declared.keeper.Keeper as keepers
use Rattle.screen_feed.proofs.Crosses.{writer_send}
use Rattle.watch_list.proofs.Crosses.{watch_board_send}
use Rattle.watch_list.specs.declared.note.Stated as stated
use Rattle.watch_list.specs.declared.watch.NoteTest as tests
use Rattle.shown_board.specs.contracts.hall.Hall as Hall

-- where its keeper may, and where the runtime, what is stated and the tests may be shared
pub hall_send : (σ ω κ : NamedLft) (W K R T : RattleType) (k : keepers.Ghosts K.Denot) (r : stated.Ghosts R.Denot) (t : tests.Ghosts T.Denot)
    → IsSync W → IsSend K → IsSync R → IsSync T → IsSend (Hall.the_row σ ω κ W K R T k r t)
hall_send σ ω κ W K R T k r t runtime_sync keeper_send stated_sync test_sync = search (watch_board_send, writer_send, sendable, crosses) depth 60 fits 20000
