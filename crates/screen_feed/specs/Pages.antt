-- The pages that a pair of copies holds, and the rule of the pair.
use Rattle.std.specs.Prelude.{◌≡◌, ℕ, List, [], ◌∷◌, ◌++◌, length, Option, Some, None}
use mathlib.Core.Option.{some}
use lib.ListN.{get_elem?}
use Rattle.logbook.specs.Pages.{Book}
use Rattle.screen_feed.specs.Sheets.{AreSheets, Begins, SheetState}
use Rattle.screen_feed.specs.declared.book.SheetEntry.{SheetEntry}
use Rattle.screen_feed.specs.Logs.{begun_after, shown_in}

-- a sheet of a writer, with the log of its book, in which it was begun last
pub record PageState : Type 0 where
  pub sheet : SheetState
  pub book : Book
  pub log : List SheetEntry

-- the sheets that have been shown once this page is
abbrev pub sheets_with : PageState → List SheetState
sheets_with page = shown_in page.log ++ page.sheet ∷ []

-- what is true of every page
pub record IsPage (page : PageState) (round : ℕ) : Type 0 where
  pub round_is : round ≡ length page.log
  pub begun : begun_after None page.log ≡ Some page.sheet
  pub sheets : AreSheets page.sheet.shown (sheets_with page)

-- the second page is of the same writer, and shows all that the first does
abbrev pub Follows : PageState → PageState → Type 0
Follows p x = (x.book ≡ p.book) × (x.sheet.shown ≡ p.sheet.shown)
    × Begins (sheets_with x) (sheets_with p)

-- the page that is shown follows the one that was seen
abbrev pub Knows : Option PageState → PageState → Type 0
Knows v x = (p : PageState) → v ≡ Some p → Follows p x

-- each view knows of the page that is shown
abbrev pub Keeps : PageState → List (Option PageState) → Type 0
Keeps x views = (seat : ℕ) (v : Option PageState) → get_elem? views seat ≡ some v → Knows v x

-- the page that is shown is seen
abbrev pub LooksAtPage : Option PageState → PageState → PageState → Option PageState → Type 0
LooksAtPage v x y w = (w ≡ Some y) × Knows v y

-- the list that a screen with this view has seen
abbrev pub sheets_seen : Option PageState → List SheetState
sheets_seen None = []
sheets_seen (Some p) = sheets_with p
