use Rattle.std.proofs.Common.{◌≡◌, ◌∙◌, List, ap, subst, sym}
use mathlib.Core.List.{IsPrefix}
use Rattle.screen_feed.specs.declared.book.SheetEntry.{SheetEntry}
use Rattle.screen_feed.specs.Logs.{begun_in}
use Rattle.screen_feed.specs.Pages.{sheets_seen, sheets_with}
use Rattle.screen_feed.specs.Sheets.{AreAmong, SheetState}
use Rattle.screen_feed.proofs.Shown.{page_among}
use Rattle.screen_feed.proofs.ends.ScreenWriter.knows.Goals as goal

pub returns-clause-seen : goal.returns-clause-seen
returns-clause-seen c =
    let at = c.screen.invariant.0 in
    let whole = c.self.inside.appender.log in
    let front : IsPrefix at.page.log whole = subst (λ (log : List SheetEntry). IsPrefix log whole) (ap (λ s. s.log) c.seen.ensures.seen ∙ sym at.log_is) c.knows.ensures.all in
    let seen : c.args.screen.now.seen ≡ sheets_with at.page = sym (ap (λ s. s.seen) c.screen.view_is) ∙ ap sheets_seen at.is in
    let tried : begun_in whole ≡ c.args.self.now.tried = ap (λ w. w.tried) c.self.view_is in
    subst (AreAmong c.args.screen.now.seen) tried
    (subst (λ (sheets : List SheetState). AreAmong sheets (begun_in whole)) (sym seen) (page_among at.page.log whole at.page.sheet at.begun front c.knows.ensures.legal))
