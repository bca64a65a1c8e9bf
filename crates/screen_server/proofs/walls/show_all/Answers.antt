use denote.Param.Send.{sendable}
use Rattle.screen_feed.proofs.Crosses.{screen_send}
use Rattle.screen_server.proofs.Together.{shows}
use Rattle.screen_server.proofs.walls.show_all.Goals as goal

pub work_all-end-requires-send-S : goal.work_all-end-requires-send-S
work_all-end-requires-send-S g c κs within = search (screen_send, sendable) depth 20

pub returns : goal.returns
returns g c = record {
  shows = shows g.W.Workplace.states g.W.Workplace.state c.args.connections c.args.screens.now c.work_all-end.new.owns c.args.walls.now c.work_all-end.new.listeners c.work_all-end.result.0
      c.work_all-end.ensures.works;
}
