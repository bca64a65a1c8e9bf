use Rattle.std.proofs.Common.{sym, subst, drop}
use Rattle.screen_feed.proofs.Keeping.{last_turns}
use Rattle.screen_feed.specs.Pages.{Follows}
use Rattle.screen_feed.proofs.steps.publish_page.Goals as goal

pub publish_as-end-requires : goal.publish_as-end-requires
publish_as-end-requires g c next is =
    last_turns _ _ c.append.new.self.desk.shown.value c.args.page next (drop c.args.end.behind c.args.end.log.items) (drop c.append.new.self.behind c.append.new.self.log.items)
    (subst (λ d. Follows d.shown.value c.args.page) (sym c.append.ensures.desk) c.requires.follows) c.in-Ok.ensures.pending is
