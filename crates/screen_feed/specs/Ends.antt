-- What the two ends keep.
use Rattle.std.specs.Prelude.{◌≡◌, ◌≤◌, ◌⊎◌, ℕ, List, Option, None, Some}
use Rattle.logbook.specs.Pages.{Book}
use Rattle.screen_feed.specs.Appenders.{AppenderState}
use Rattle.screen_feed.specs.declared.book.SheetEntry.{SheetEntry}
use Rattle.screen_feed.specs.Logs.{begun_after, shown_in}
use Rattle.screen_feed.specs.Pages.{Knows, PageState, sheets_with}
use Rattle.screen_feed.specs.Sheets.{AreSheets, ShownChart, last_version}

-- the writer's page is the one that it published last, and its appender knows that each sheet up
-- to this page is shown
pub record IsWriter (page : PageState) (appender : AppenderState) (shown : ShownChart)
    (version : ℕ) : Type 0 where
  pub book : page.book ≡ appender.book
  pub of : page.sheet.shown ≡ shown
  pub list : sheets_with page ≡ shown_in appender.log
  pub sheets : AreSheets shown (shown_in appender.log)
  pub last : version ≡ last_version (shown_in appender.log)
  pub days : (1 ≤ shown.day) × (shown.day ≤ shown.airport.days)

-- a page of this book with this log was seen, of what is shown
pub record IsScreenAt (seen : Option PageState) (shown : ShownChart) (book : Book)
    (log : List SheetEntry) : Type 0 where
  pub page : PageState
  pub is : seen ≡ Some page
  pub book_is : page.book ≡ book
  pub log_is : page.log ≡ log
  pub begun : begun_after None page.log ≡ Some page.sheet
  pub of : page.sheet.shown ≡ shown
  pub sheets : AreSheets shown (sheets_with page)

-- a page is seen that follows what was seen, or nothing has changed
abbrev pub HasLookedAt : Option PageState → Option PageState → Type 0
HasLookedAt v w =
    (w ≡ v)
    ⊎ ((page : PageState) × (w ≡ Some page) × Knows v page
    × AreSheets page.sheet.shown (sheets_with page)
    × (begun_after None page.log ≡ Some page.sheet))
