-- A board may cross threads.
use denote.Param.Send.{IsSend, IsSync, sendable}
use denote.RattleType.{RattleType}
use denote.Ref.{NamedLft}
use Rattle.std.proofs.Crossing.{crosses}
use Rattle.std.proofs.MapsCrossing as maps
use Rattle.apron_base.specs.declared.keeper.Keeper.{Ghosts}
use Rattle.apron_rules.specs.contracts.airport.Airport as Airport
use Rattle.plan_core.specs.contracts.plan.Plan as Plan
use Rattle.desk_asks.specs.contracts.asks.Entry as Entry
use Rattle.history_core.specs.contracts.board.Board as Board

plan_send : IsSend Plan.the_row
plan_send = search (sendable, crosses, maps.crosses) depth 60 fits 20000

entry_send : IsSend Entry.the_row
entry_send = search (sendable, crosses, maps.crosses) depth 60 fits 20000

airport_sync : IsSync Airport.the_row
airport_sync = search (sendable, crosses, maps.crosses) depth 60 fits 20000

-- so that seats in several threads can take turns at it
pub board_send : (κ : NamedLft) (K : RattleType) (g : Ghosts K.Denot) → IsSend K → IsSend (Board.the_row κ K g)
board_send κ K g keeper_send = search (plan_send, airport_sync, entry_send, sendable, crosses) depth 60 fits 20000
