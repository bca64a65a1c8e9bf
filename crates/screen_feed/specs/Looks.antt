-- Why a look gives no sheet.
use Rattle.std.specs.Prelude.{◌≡◌, ◌<◌, ◌+◌, List, length, Option, Some}
use Rattle.screen_feed.specs.declared.book.SheetEntry.{SheetEntry}
use Rattle.screen_feed.specs.declared.steps.NoSheet.{NoSheet}
use Rattle.screen_feed.specs.declared.steps.NoSheet.TheVariants.{Closed, Older, Owned}
use Rattle.screen_feed.specs.Pages.{PageState}

-- a page gives no sheet to who was told this log: it does not show all of it, or its sheet can have
-- no more owners
abbrev pub IsNoSheetOf : PageState → List SheetEntry → NoSheet → Type 0
IsNoSheetOf page told Closed = ⊥
IsNoSheetOf page told Older = length page.log + 1 < length told
IsNoSheetOf page told (Owned sheet) = sheet ≡ page.sheet

-- a look from the first to the second gives no sheet to who was told this log: no page was seen
-- since the writer is closed, or one was that gives none
abbrev pub HasNoSheet : List SheetEntry → Option PageState → Option PageState → NoSheet → Type 0
HasNoSheet told before after Closed = after ≡ before
HasNoSheet told before after why = (page : PageState) × (after ≡ Some page) × IsNoSheetOf page told why
