-- A stage may cross threads.
use denote.Param.Send.{IsSend, sendable}
use denote.Ref.{NamedLft}
use Rattle.std.proofs.Crossing.{crosses}
use Rattle.apron_base.specs.contracts.keeper.list_keeper.SteadyKeeper as Keeper
use Rattle.history_core.proofs.Crosses.{board_send}
use Rattle.screen_feed.proofs.Crosses.{writer_send}
use Rattle.test_screens.specs.contracts.tests.looks.stage.Stage as Stage

keeper_send : IsSend Keeper.the_row
keeper_send = search (sendable, crosses) depth 60 fits 20000

pub stage_send : (κ : NamedLft) → IsSend (Stage.the_row κ)
stage_send κ = search (board_send, keeper_send, writer_send, sendable, crosses) depth 60 fits 20000
