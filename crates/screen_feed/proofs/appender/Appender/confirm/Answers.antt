use Rattle.std.proofs.Common.{ap, ◌∷◌, ◌++◌, [], ◌∙◌}
use Rattle.screen_feed.specs.Logs.{begun_in, shown_in}
use Rattle.screen_feed.proofs.Shown.{shown_push, tried_confirmed}
use Rattle.screen_feed.proofs.appender.Appender.confirm.Goals as goal

pub returns-clause-shown : goal.returns-clause-shown
returns-clause-shown c =
    let added = c.add.ensures.log in
    let log = c.args.self.now.log in
    ap shown_in added.list ∙ (shown_push log added.entry added.shown ∙ ap (λ s. shown_in log ++ s ∷ []) added.sheet)

pub returns-clause-tried : goal.returns-clause-tried
returns-clause-tried c =
    let added = c.add.ensures.log in ap begun_in added.list ∙ tried_confirmed c.args.self.now.log added.entry added.shown
