use Rattle.screen_feed.proofs.Keeping.{looks}
use Rattle.screen_feed.proofs.steps.look_at.Goals as goal

pub enter_as-requires : goal.enter_as-requires
enter_as-requires c = looks _ _
