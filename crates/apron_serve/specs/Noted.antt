-- What the hall of the screens noted.
use Rattle.std.specs.Prelude.{◌≡◌, ◌<◌, ℕ, Bool, false, List, length, Option, None, Some}
use Rattle.desk_asks.specs.declared.asks.Entry.{Entry}
use Rattle.history_core.specs.Opening.{next_after}
use Rattle.shown_board.specs.Halls.{HallNoteState}
use Rattle.screen_server.specs.declared.shown.Task.{Task}
use Rattle.apron_check.specs.declared.files.AirportFiles.{AirportFiles}
use Rattle.apron_run.specs.World.{World}
use Rattle.apron_run.specs.declared.end.End.{End}
use Rattle.apron_run.specs.declared.end.End.TheVariants as ended
use Rattle.apron_serve.specs.Board.{AtServe, Service}

-- what a hall with this many writers noted, which was made over a board that was opened with one
-- history, and ended with the other
abbrev pub IsNoteOf : List Entry → List Entry → ℕ → Option HallNoteState → Type 0
IsNoteOf opened history writers None = writers ≡ 0
IsNoteOf opened history writers (Some note) =
    (note.begun ≡ next_after opened)
    × (note.version ≡ length history)
    × (note.writers ≡ writers)
    × (0 < writers)

-- whether a writer missed the last version
abbrev pub has_missed : Option HallNoteState → Bool
has_missed None = false
has_missed (Some note) = note.missed

module _ {In Out : Type 0} (service : Service In Out) (task : Task) (files : AirportFiles)
    (before after : World In Out) where
  -- the note is that of the hall which showed these screens, if they were served
  abbrev pub IsNoteAt : (end : End) → AtServe service task files before after end
      → Option HallNoteState → Type 0
  IsNoteAt (ended.Attended served) desks note =
      IsNoteOf desks.0 desks.2.board.history (length before.screens) note
      × (desks.2.missed ≡ has_missed note)
  IsNoteAt end unserved note = note ≡ None

  -- what was done at these files, and the note of the hall
  pub record MeetsNoted (end : End) (note : Option HallNoteState) : Type 0 where
    pub meets : AtServe service task files before after end
    pub noted : IsNoteAt end meets note
