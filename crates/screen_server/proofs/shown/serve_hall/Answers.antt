use Rattle.std.proofs.Common.{rules, map, subst, sym}
use denote.Param.Send.{param_send}
use denote.Signature.{named_lft}
use Rattle.desk_workers.specs.Crew.{ServesBoard}
use Rattle.shown_board.specs.Halls.{HallHeld, hall_state}
use Rattle.shown_board.proofs.Crosses.{hall_send}
use Rattle.screen_server.specs.Walls.{ShowsAll, WallsState, walls_of}
use Rattle.screen_server.proofs.Boards.{hall_sessions}
use Rattle.screen_server.proofs.Kept.{begun_there, if_ok, kept_pairs, writers_there}
use Rattle.screen_server.specs.contracts.shown.serve_hall as contract
use Rattle.screen_server.proofs.shown.serve_hall.Goals as goal

-- the two rows differ in the names of lifetimes alone
pub serve_board-ended-requires-send-M : goal.serve_board-ended-requires-send-M
serve_board-ended-requires-send-M g c κs within =
    let bounds = c.type_bounds in
    let at = named_lft 18 12 tt κs in
    let sent = hall_send at at at
    (contract.Rt-row g.row.Rt g.row.K g.row.R g.row.T g.row.W g.row.W-In g.row.W-Out) (contract.K-row g.row.Rt g.row.K g.row.R g.row.T g.row.W g.row.W-In g.row.W-Out) (contract.R-row g.row.Rt g.row.K g.row.R g.row.T g.row.W g.row.W-In g.row.W-Out) (contract.T-row g.row.Rt g.row.K g.row.R g.row.T g.row.W g.row.W-In g.row.W-Out) g.K.Keeper g.R.Stated g.T.NoteTest
    bounds.sync-Rt bounds.send-K bounds.sync-R bounds.sync-T in
    record { owned = sent.owned; leaving = (param_send 1 _ sent).leaving }

pub knows-requires : goal.knows-requires
knows-requires g c =
    let state = g.W.Workplace.state in
    let before : WallsState g.row.W-In.Denot g.row.W-Out.Denot = walls_of state c.args.walls.now c.args.screens.now in
    let after : WallsState g.row.W-In.Denot g.row.W-Out.Denot = walls_of state c.walls-1.given.0 c.screens-1.given.0 in
    let shows : ShowsAll g.W.Workplace.states c.args.connections before after c.in-Ok.looks = search rules in
    let serves = if_ok (λ ends. ServesBoard g.W.Workplace.states (hall_sessions g.R.Stated.tells) c.args.connections
    (record { listeners = map state c.args.listeners.now; board = hall_state g.K.Keeper.state c.args.hall })
    (record { listeners = map state c.serve_board-ended.new.listeners; board = hall_state g.K.Keeper.state c.serve_board-ended.result.1 }) ends.0)
    c.in-Ok.is c.serve_board-ended.ensures.serves in record {
      pairs = kept_pairs c.args.hall c.serve_board-ended.result.1 serves.fixed g.W.Workplace.states c.args.connections before after c.in-Ok.looks c.requires.pairs shows;
    }

pub returns-in-Ok-clause-serves : goal.returns-in-Ok-clause-serves
returns-in-Ok-clause-serves g c =
    let state = g.W.Workplace.state in
    subst (λ (hall : HallHeld g.row.K.Denot g.row.R.Denot). ServesBoard g.W.Workplace.states (hall_sessions g.R.Stated.tells) c.args.connections
    (record { listeners = map state c.args.listeners.now; board = hall_state g.K.Keeper.state c.args.hall })
    (record { listeners = map state c.serve_board-ended.new.listeners; board = hall_state g.K.Keeper.state hall }) c.in-Ok.desks) (sym c.knows.ensures.same)
    (if_ok (λ ends. ServesBoard g.W.Workplace.states (hall_sessions g.R.Stated.tells) c.args.connections
    (record { listeners = map state c.args.listeners.now; board = hall_state g.K.Keeper.state c.args.hall })
    (record { listeners = map state c.serve_board-ended.new.listeners; board = hall_state g.K.Keeper.state c.serve_board-ended.result.1 }) ends.0)
    c.in-Ok.is c.serve_board-ended.ensures.serves)

pub returns-in-Ok-clause-writers : goal.returns-in-Ok-clause-writers
returns-in-Ok-clause-writers g c =
    writers_there c.args.hall c.knows.new.self (returns-in-Ok-clause-serves g c).fixed c.args.screens.now c.args.walls.now (search rules) c.requires.pairs

pub returns-in-Ok-clause-begun : goal.returns-in-Ok-clause-begun
returns-in-Ok-clause-begun g c = begun_there c.args.hall c.knows.new.self (returns-in-Ok-clause-serves g c).fixed

pub returns-in-Ok-clause-pairs : goal.returns-in-Ok-clause-pairs
returns-in-Ok-clause-pairs g c =
    let state = g.W.Workplace.state in
    let before : WallsState g.row.W-In.Denot g.row.W-Out.Denot = walls_of state c.args.walls.now c.args.screens.now in
    let after : WallsState g.row.W-In.Denot g.row.W-Out.Denot = walls_of state c.walls-1.given.0 c.screens-1.given.0 in
    let shows : ShowsAll g.W.Workplace.states c.args.connections before after c.in-Ok.looks = search rules in
    kept_pairs c.args.hall c.knows.new.self (returns-in-Ok-clause-serves g c).fixed g.W.Workplace.states c.args.connections before after c.in-Ok.looks c.requires.pairs shows
