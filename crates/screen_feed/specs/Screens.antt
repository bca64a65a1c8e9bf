-- Writers and screens as contracts see them.
use Rattle.std.specs.Prelude.{◌≡◌, ◌≤◌, ◌<◌, ◌+◌, ◌^◌, ◌⊎◌, ℕ, List, [], ◌∷◌, ◌++◌, length, Option, None, if◌then◌else◌, nat_lt}
use Rattle.logbook.specs.Pages.{Book}
use Rattle.apron_base.specs.Counts.{one_more}
use Rattle.screen_feed.specs.Sheets.{AreSheets, Begins, SheetState, ShownChart, last_version}

-- a writer: its pair, what it shows, the sheets that it has shown, those that it has shown or tried
-- to show, and how often there was no memory for a sheet that it was to show
pub record WriterState : Type 0 where
  pub pair : Book
  pub shown : ShownChart
  pub sheets : List SheetState
  pub tried : List SheetState
  pub unmade : ℕ

-- a screen: its pair, what it shows, the list that it has seen, the longest list that it was told,
-- and what its last look gave, if it has looked: a sheet, or none
pub record ScreenState : Type 0 where
  pub pair : Book
  pub shown : ShownChart
  pub seen : List SheetState
  pub told : List SheetState
  pub given : Option (Option SheetState)

-- what a writer tells: its pair, and the list that it had
pub record ToldState : Type 0 where
  pub pair : Book
  pub sheets : List SheetState

-- the screen of a new writer, which has seen and was told the writer's list, and has not looked
abbrev pub screen_of : WriterState → ScreenState
screen_of writer = record {
  pair = writer.pair;
  shown = writer.shown;
  seen = writer.sheets;
  told = writer.sheets;
  given = None;
}

abbrev pub told_of : WriterState → ToldState
told_of writer = record { pair = writer.pair; sheets = writer.sheets }

-- the writer after it tried to show a sheet in vain
abbrev pub after_try : WriterState → SheetState → WriterState
after_try writer sheet = record writer { tried = writer.tried ++ sheet ∷ [] }

-- the writer after it showed a sheet: one of a greater version is put last, and one of the same
-- version changes nothing
abbrev pub after_show : WriterState → SheetState → WriterState
after_show writer sheet = record writer {
  sheets = if nat_lt (last_version writer.sheets) sheet.version
      then writer.sheets ++ sheet ∷ [] else writer.sheets;
  tried = if nat_lt (last_version writer.sheets) sheet.version
      then writer.tried ++ sheet ∷ [] else writer.tried;
}

-- the writer after there was no memory for a sheet that it was to show
abbrev pub after_lack : WriterState → WriterState
after_lack writer = record writer { unmade = one_more writer.unmade }

-- the most sheets that a writer begins or shows: each counts when it begins, and when it is shown
abbrev pub most_entries : ℕ
most_entries = 2 ^ 60

-- the writer tried to show the sheet in vain; once it has shown as many as it may, it is as it was
abbrev pub HasTried : WriterState → SheetState → WriterState → Type 0
HasTried before sheet after =
    (after ≡ after_try before sheet)
    ⊎ ((after ≡ before) × (most_entries ≤ length before.sheets + length before.tried))

-- the writer does not show a sheet of a greater version, since it tried it in vain, or since there
-- was no memory for it
pub record HasMissed (before : WriterState) (sheet : SheetState) (after : WriterState) : Type 0 where
  pub later : last_version before.sheets < sheet.version
  pub how : HasTried before sheet after ⊎ (after ≡ after_lack before)

-- the screen has seen a list of sheets that begins with what it had seen
pub record HasLooked (before after : ScreenState) : Type 0 where
  pub pair : after.pair ≡ before.pair
  pub shown : after.shown ≡ before.shown
  pub told : after.told ≡ before.told
  pub seen : Begins after.seen before.seen
  pub sheets : AreSheets before.shown after.seen

-- the screen was told this list as well
pub record HasLearned (before : ScreenState) (list : List SheetState)
    (after : ScreenState) : Type 0 where
  pub pair : after.pair ≡ before.pair
  pub shown : after.shown ≡ before.shown
  pub seen : after.seen ≡ before.seen
  pub given : after.given ≡ before.given
  pub one : (after.told ≡ before.told) ⊎ (after.told ≡ list)
  pub mine : Begins after.told before.told
  pub theirs : Begins after.told list
