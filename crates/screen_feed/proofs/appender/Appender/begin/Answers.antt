use Rattle.std.proofs.Common.{ap, ◌∷◌, ◌++◌, [], ◌∙◌, None, Some}
use Rattle.screen_feed.specs.Logs.{begun_after, begun_in, shown_in}
use Rattle.screen_feed.proofs.Shown.{begun_push, shown_begun, tried_begun}
use Rattle.screen_feed.proofs.appender.Appender.begin.Goals as goal

pub returns-clause-shown : goal.returns-clause-shown
returns-clause-shown c = let added = c.add.ensures.log in ap shown_in added.list ∙ shown_begun c.args.self.now.log added.entry added.shown

pub returns-clause-tried : goal.returns-clause-tried
returns-clause-tried c =
    let added = c.add.ensures.log in
    let log = c.args.self.now.log in
    ap begun_in added.list ∙ (tried_begun log added.entry added.shown ∙ ap (λ s. begun_in log ++ s ∷ []) added.sheet)

pub returns-clause-begun : goal.returns-clause-begun
returns-clause-begun c =
    let added = c.add.ensures.log in
    ap (begun_after None) added.list ∙ (begun_push None c.args.self.now.log added.entry added.shown ∙ ap (λ s. Some s) added.sheet)
