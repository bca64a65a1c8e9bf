-- The rule of a book, and what its steps tell. An entry names the cell that comes home as the next
-- entry is added. So the pen of that cell is the right to add it, and who has it knows the whole
-- log.
use Rattle.std.specs.Prelude.{ℕ, ◌≡◌, ◌≤◌, ◌==◌, Bool, true, List, [], ◌∷◌, ◌++◌, length, MatchBool}
use mathlib.Core.List.{IsPrefix}
use Rattle.logbook.specs.Pages.{Cell, Step, View, Book, Named, cell, may_make, may_write}
use Rattle.logbook.specs.declared.tokens.Pen.{Pen}
use Rattle.screen_feed.specs.declared.book.SheetEntry.{SheetEntry}
use Rattle.screen_feed.specs.Logs.{IsLegalLog, named_after}
use Rattle.screen_feed.specs.Sheets.{SheetState}

-- the cell is at home
abbrev pub IsCellHome : List Cell → ℕ → Type 0
IsCellHome cells key = (cell cells key).1 ≡ true

-- each cell that was named before an entry came home with it
abbrev pub AreSpent : List Cell → ℕ → List SheetEntry → Type 0
AreSpent cells key [] = Unit {0}
AreSpent cells key (e ∷ es) = IsCellHome cells key × AreSpent cells e.next.value.nib.key es

-- the first word is 1 once there is an entry
pub record KeepsFirstWord (cells : List Cell) (log : List SheetEntry) : Type 0 where
  pub home : IsCellHome cells 0
  pub begun : 1 ≤ length log → (cell cells 0).0 ≡ 1
  pub legal : IsLegalLog log
  pub spent : AreSpent cells 0 log

-- the word of a book by which entries are added
abbrev pub entry_word : Book → Named
entry_word book = record { tracked = true; key = 0; book = book }

-- the pen is the right to add to this log
pub record MayAdd (book : Book) (log : List SheetEntry) (pen : Pen) : Type 0 where
  pub book_is : pen.book ≡ book
  pub right_is : pen.nib.right ≡ may_write
  pub key_is : pen.nib.key ≡ named_after 0 log

-- a cell was added, with the pen to make its word
abbrev pub MakesPen : Step SheetEntry → View SheetEntry ℕ → ℕ → View SheetEntry ℕ → Type 0
MakesPen s v found w = w.1.0.right ≡ may_make

-- the entry was the first, or there was one
abbrev pub AddsFirst : Step SheetEntry → View SheetEntry ℕ → ℕ → View SheetEntry ℕ → Type 0
AddsFirst s v found w = MatchBool (found == 0) (w.0 ≡ s.ask ∷ []) (Unit {0})

-- the entry was added to all that had been seen
abbrev pub AddsSheet : Step SheetEntry → View SheetEntry ℕ → ℕ → View SheetEntry ℕ → Type 0
AddsSheet s v found w = w.0 ≡ v.0 ++ s.ask ∷ []

-- all that is seen is the log whose next entry the pen is the right to add
abbrev pub SeesAll : Step SheetEntry → View SheetEntry ℕ → ℕ → View SheetEntry ℕ → Type 0
SeesAll s v found w = (w.1.0 ≡ v.1.0)
    × ((log : List SheetEntry) → IsPrefix log v.0 → v.1.0.key ≡ named_after 0 log → v.0 ≡ log)

-- an entry was added to the log: of this sheet, which is shown or not
pub record IsEntryAdded (before : List SheetEntry) (what : SheetState × Bool)
    (after : List SheetEntry) : Type 0 where
  pub entry : SheetEntry
  pub sheet : entry.sheet.value ≡ what.0
  pub shown : entry.shown ≡ what.1
  pub list : after ≡ before ++ entry ∷ []
