-- What the log of a book says of the sheets that were shown.
use Rattle.std.specs.Prelude.{◌≡◌, ℕ, true, cond, List, [], ◌∷◌, Option, Some, None}
use Rattle.screen_feed.specs.Sheets.{SheetState}
use Rattle.screen_feed.specs.declared.book.SheetEntry.{SheetEntry}

-- the sheets that were shown
abbrev pub shown_in : List SheetEntry → List SheetState
shown_in [] = []
shown_in (e ∷ es) = cond e.shown (e.sheet.value ∷ shown_in es) (shown_in es)

-- the sheets that were begun
abbrev pub begun_in : List SheetEntry → List SheetState
begun_in [] = []
begun_in (e ∷ es) = cond e.shown (begun_in es) (e.sheet.value ∷ begun_in es)

-- what is begun once this entry is added: a sheet, or none where the entry says that it is shown
abbrev pub begun_with : Option SheetState → SheetEntry → Option SheetState
begun_with sheet e = cond e.shown None (Some e.sheet.value)

-- the sheet that was begun last and is not known to be shown, or else this one
abbrev pub begun_after : Option SheetState → List SheetEntry → Option SheetState
begun_after sheet [] = sheet
begun_after sheet (e ∷ es) = begun_after (begun_with sheet e) es

-- what is shown was begun just before
abbrev pub LegalAfter : Option SheetState → List SheetEntry → Type 0
LegalAfter sheet [] = Unit {0}
LegalAfter sheet (e ∷ es) =
    (e.shown ≡ true → sheet ≡ Some e.sheet.value) × LegalAfter (begun_with sheet e) es

abbrev pub IsLegalLog : List SheetEntry → Type 0
IsLegalLog log = LegalAfter None log

-- the key of the cell that the last entry names, or else this one
abbrev pub named_after : ℕ → List SheetEntry → ℕ
named_after key [] = key
named_after key (e ∷ es) = named_after e.next.value.nib.key es
