use Rattle.std.proofs.Common.{◌≤◌, ◌+◌, ap, subst, sym, arith, leb→le, length, List}
use mathlib.Core.List.{IsPrefix}
use lib.Dec.{T}
use Rattle.screen_feed.specs.declared.book.SheetEntry.{SheetEntry}
use Rattle.screen_feed.specs.Logs.{shown_in}
use Rattle.screen_feed.specs.Pages.{sheets_with}
use Rattle.screen_feed.specs.Sheets.{Begins}
use Rattle.screen_feed.proofs.Shown.{shows_told}
use Rattle.screen_feed.proofs.steps.covers.Goals as goal

pub returns-clause-told : goal.returns-clause-told
returns-clause-told c late =
    let both = c.learn.new.self.log in
    let told = c.args.told.now.log in
    let page = c.page.inside in
    let mine : IsPrefix page.seen.log both = subst (λ (l : List SheetEntry). IsPrefix l both) (ap (λ s. s.log) c.again-both.ensures) c.learn.ensures.2 in
    let less : length told ≤ length page.seen.log + 1 = omega (arith, c.requires.round, c.page.invariant.round_is, c.saturating_sub.ensures, leb→le c.saturating_sub.result page.round (subst T (sym late) tt)) in
    subst (λ p. Begins (sheets_with p) (shown_in told)) c.page.view_is (shows_told page.seen.log told both page.sheet c.page.invariant.begun mine c.learn.ensures.3 c.learn.ensures.4.1.legal less)
