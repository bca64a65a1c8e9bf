use Rattle.std.proofs.Common.{◌≡◌, ◌∙◌, ap, sym, subst}
use Rattle.std.proofs.lemmas.Result.{on_ok_weaker}
use Rattle.screen_feed.specs.Sheets.{sheet_of}
use Rattle.screen_feed.specs.Screens.{after_show}
use Rattle.shown_board.specs.Halls.{ShowsVersion}
use Rattle.shown_board.proofs.Writers.{shown_by, shows_after}
use Rattle.shown_board.proofs.charts.Charts.show_on.Goals as goal

pub returns-in-Ok-clause-shown : goal.returns-in-Ok-clause-shown
returns-in-Ok-clause-shown g c =
    let plan = c.args.self.now in
    let shown = c.show_sheet-shown.ensures in
    shown_by plan c.args.writer.now c.show_sheet-shown.new.self c.in-Ok.sheet c.show_sheet-shown.result (c.in-Ok.ensures.is ∙ ap (sheet_of plan) c.day.ensures.value) shown.ok shown.err shown.later

pub returns-in-Ok-clause-ok : goal.returns-in-Ok-clause-ok
returns-in-Ok-clause-ok g c =
    let plan = c.args.self.now in
    let writer = c.args.writer.now in
    let sheet : c.in-Ok.sheet ≡ sheet_of plan writer.shown.day = c.in-Ok.ensures.is ∙ ap (sheet_of plan) c.day.ensures.value in
    on_ok_weaker c.show_sheet-shown.result
    (λ (done : c.show_sheet-shown.new.self ≡ after_show writer c.in-Ok.sheet).
    subst (ShowsVersion plan.version) (sym (done ∙ ap (after_show writer) sheet)) (shows_after plan writer c.requires.writer))
    c.show_sheet-shown.ensures.ok
