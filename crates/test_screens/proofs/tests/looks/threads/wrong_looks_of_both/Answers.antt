use denote.Param.Send.{sendable}
use Rattle.screen_feed.proofs.Crosses.{screen_send}
use Rattle.test_screens.proofs.tests.looks.threads.wrong_looks_of_both.Goals as goal

pub join-requires-send-F : goal.join-requires-send-F
join-requires-send-F g c κs within = search (screen_send, sendable) depth 20
