use Rattle.std.proofs.Common.{◌≡◌, ◌≤◌, ◌<◌, ◌+◌, ◌∷◌, ◌++◌, [], List, ap, arith, inr, length, refl, subst, sym, ◌∙◌}
use Rattle.screen_feed.specs.Logs.{begun_in, shown_in}
use Rattle.screen_feed.specs.Pages.{sheets_with}
use Rattle.screen_feed.specs.Sheets.{AreSheets, SheetState, last_version}
use Rattle.screen_feed.proofs.Shown.{entries_are}
use Rattle.screen_feed.specs.Screens.{most_entries}
use Rattle.screen_feed.proofs.Listing.{last_push, one_more, shown_of}
use Rattle.screen_feed.proofs.ends.ScreenWriter.show_sheet.Goals as goal

pub page_of-page-requires-clause-sheets : goal.page_of-page-requires-clause-sheets
page_of-page-requires-clause-sheets g c =
    let of = ap (λ w. w.shown) c.self.view_is in
    let before = shown_in c.self.inside.appender.log in
    let sheet = c.args.sheet.now in
    let shown = c.args.self.now.shown in
    let is = c.requires.sheet in
    let more : last_version before < sheet.version = omega (arith, c.self.invariant.last, c.if-version-self.false, c.version.ensures.value) in
    let all : AreSheets shown (before ++ sheet ∷ []) = one_more shown before sheet (subst (λ s. AreSheets s before) of c.self.invariant.sheets) is more in
    rw (c.in_ok-another.ensures.same, c.begin.ensures.shown) (subst (λ s. AreSheets s (before ++ sheet ∷ [])) (sym (shown_of shown sheet is)) all)

pub invariant_of-self-2 : goal.invariant_of-self-2
invariant_of-self-2 g c =
    let of = ap (λ w. w.shown) c.self.view_is in
    let before = shown_in c.self.inside.appender.log in
    let sheet = c.args.sheet.now in
    let shown = c.args.self.now.shown in
    let is = c.requires.sheet in
    let more : last_version before < sheet.version = omega (arith, c.self.invariant.last, c.if-version-self.false, c.version.ensures.value) in
    let all : AreSheets shown (before ++ sheet ∷ []) = one_more shown before sheet (subst (λ s. AreSheets s before) of c.self.invariant.sheets) is more in
    let after : shown_in c.confirm.new.self.log ≡ before ++ sheet ∷ [] = c.confirm.ensures.shown ∙ ap (λ (l : List SheetState). l ++ sheet ∷ []) c.begin.ensures.shown in
    let page = c.in_ok-publish.ensures.ok ∙ c.page_of-page.ensures.page in record {
      book = ap (λ p. p.book) page ∙ sym c.confirm.ensures.book;
      of = ap (λ p. p.sheet.shown) page ∙ (ap (λ s. s.shown) c.in_ok-another.ensures.same ∙ (shown_of shown sheet is ∙ sym of));
      list = ap sheets_with page ∙ (ap (λ (s : SheetState). shown_in c.begin.new.self.log ++ s ∷ []) c.in_ok-another.ensures.same ∙ sym c.confirm.ensures.shown);
      sheets = subst (AreSheets _) (sym after) (subst (λ s. AreSheets s (before ++ sheet ∷ [])) (sym of) all);
      last = c.version-self-inside.ensures.value ∙ sym (ap last_version after ∙ last_push 0 before sheet);
      days = c.self.invariant.days;
    }

pub returns-then-round-ge-MOST_ENTRIES-clause-err : goal.returns-then-round-ge-MOST_ENTRIES-clause-err
returns-then-round-ge-MOST_ENTRIES-clause-err g c =
    let log = c.self.inside.appender.log in
    let full : most_entries ≤ length (shown_in log) + length (begun_in log) = omega (arith, entries_are log, c.round.ensures.count, c.if-round-ge-MOST_ENTRIES.true) in
    inr (refl, subst (λ w. most_entries ≤ length w.sheets + length w.tried) c.self.view_is full)
