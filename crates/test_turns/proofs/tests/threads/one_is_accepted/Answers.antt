use denote.Param.Send.{IsSend, param_send, sendable}
use denote.Signature.{named_lft}
use Rattle.std.proofs.Crossing.{crosses}
use Rattle.apron_base.specs.contracts.keeper.list_keeper.SteadyKeeper as SteadyKeeper
use Rattle.apron_base.specs.contracts.keeper.list_keeper.SteadyKeeperKeeper.TheImpl as keepers
use Rattle.desk_workers.proofs.Crosses.{served_send}
use Rattle.test_turns.proofs.tests.threads.one_is_accepted.Goals as goal

keeper_send : IsSend SteadyKeeper.the_row
keeper_send = search (sendable, crosses) depth 60 fits 20000

-- the two rows differ in the names of lifetimes alone
pub ask_both-verdicts-requires-send-P : goal.ask_both-verdicts-requires-send-P
ask_both-verdicts-requires-send-P g c κs within =
    let sent = served_send (named_lft 9 8 tt κs) (named_lft 9 7 tt κs) _ SteadyKeeper.the_row keepers.ghosts c.type_bounds.sync-R keeper_send in
    record { owned = sent.owned; leaving = (param_send 0 _ sent).leaving }
