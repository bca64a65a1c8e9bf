use Rattle.std.proofs.Common.{drop}
use Rattle.screen_feed.proofs.Keeping.{admits, forks, merges, same_turns}
use Rattle.screen_feed.proofs.steps.pair_of.Goals as goal

pub publish_as-end-requires : goal.publish_as-end-requires
publish_as-end-requires g c next is = same_turns _ _ c.in_ok-end.end.desk.shown.value next (drop c.in_ok-end.end.behind c.in_ok-end.end.log.items) c.in_ok-end.ensures.1 is

pub reader-requires : goal.reader-requires
reader-requires g c = admits

pub tell-requires : goal.tell-requires
tell-requires g c = forks _ _

pub learn-requires-clause-rule : goal.learn-requires-clause-rule
learn-requires-clause-rule g c = merges _ _ _ _
