-- The notes of a history.
use Rattle.std.specs.Prelude.{◌≡◌, ◌≤◌, ◌+◌, ◌*◌, ◌++◌, ◌∷◌, [], Bool, true, false, List, Vec, length, vec_capacity, vec_len}
use Rattle.apron_base.specs.Keeper.{with_last}
use Rattle.apron_rules.specs.declared.parts.AirportParts.{AirportParts}
use Rattle.visit_book.specs.PartFields.{most_parts}
use Rattle.plan_core.specs.PlanState.{PlanState}
use Rattle.desk_asks.specs.declared.asks.Command.TheVariants.{Message, Report}
use Rattle.desk_asks.specs.declared.asks.Entry.{Entry}
use Rattle.desk_asks.specs.declared.asks.What.{What}
use Rattle.desk_asks.specs.declared.asks.What.TheVariants.{Change}
use Rattle.history_core.specs.History.{replay}
use Rattle.watch_list.specs.declared.note.Note.{Note}
use Rattle.watch_list.specs.Notes.{notes_by}

-- the notes of the last entry of a history: those of its number in the plan that the history makes
abbrev pub last_notes : AirportParts → List Entry → List Note
last_notes airport history = notes_by (length history) (replay airport history).visits

-- the notes of these entries, which come after those before them
abbrev pub notes_after : AirportParts → List Entry → List Entry → List Note
notes_after airport before [] = []
notes_after airport before (entry ∷ entries) =
    last_notes airport (with_last entry before)
    ++ notes_after airport (with_last entry before) entries

-- the notes of a history: those of each entry, as the plan that it made recorded them
abbrev pub notes_of : AirportParts → List Entry → List Note
notes_of airport history = notes_after airport [] history

-- only a message and a report can take a stand
abbrev pub may_bump : What → Bool
may_bump (Change (Message passed)) = true
may_bump (Change (Report report)) = true
may_bump what = false

-- there is room for the notes of what is asked, of which each part of the plan can have one
abbrev pub HasNoteRoom : {A : Type 0} → Vec Note A → PlanState → What → Type 0
HasNoteRoom notes plan what = may_bump what ≡ true
    → vec_len notes + most_parts * length plan.visits ≤ vec_capacity notes
