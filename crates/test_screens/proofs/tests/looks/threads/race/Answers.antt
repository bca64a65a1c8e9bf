use denote.Param.Send.{sendable}
use Rattle.test_screens.proofs.tests.looks.Crosses.{stage_send}
use Rattle.test_screens.proofs.tests.looks.threads.race.Goals as goal

pub join-is_each_shown-requires-send-F : goal.join-is_each_shown-requires-send-F
join-is_each_shown-requires-send-F g c κs within = search (stage_send, sendable) depth 20
