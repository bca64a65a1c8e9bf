-- The notes of an entry, by the visits of the plan that it made.
use Rattle.std.specs.Prelude.{◌+◌, ◌==◌, ◌∷◌, [], ◌++◌, ℕ, List, Option, None, Some, if◌then◌else◌}
use Rattle.std.specs.List.{flat_map}
use Rattle.apron_base.specs.declared.numbers.PartId.{PartId}
use Rattle.visit_book.specs.declared.visits.Bump.{Bump}
use Rattle.visit_book.specs.declared.visits.Part.{Part}
use Rattle.visit_book.specs.declared.visits.Place.{Place}
use Rattle.visit_book.specs.declared.visits.Place.TheVariants.{Unplaced}
use Rattle.visit_book.specs.declared.visits.Visit.{Visit}
use Rattle.visit_book.specs.Numbers.{visit_at}
use Rattle.visit_book.specs.PartFields.{part_at}
use Rattle.watch_list.specs.declared.note.Note.{Note}

-- the note of the visit's part of this number, which has this record of what took its stand
abbrev pub note_of : Visit → ℕ → Bump → Note
note_of visit number bump = record {
  entry = bump.entry;
  part = record { visit = visit.number; part = number };
  class = visit.class;
  stand = bump.stand;
  blocker = bump.blocker;
  minute = bump.minute;
  rule = bump.rule;
}

-- the note of the visit's part of this number and place, if the entry took its stand
abbrev pub note_at : ℕ → Visit → ℕ → Place → List Note
note_at entry visit number (Unplaced (Some bump)) =
    if bump.entry == entry then note_of visit number bump ∷ [] else []
note_at entry visit number place = []

-- the notes of these parts of the visit, the first of which has this number
abbrev pub notes_from : ℕ → Visit → ℕ → List Part → List Note
notes_from entry visit number [] = []
notes_from entry visit number (part ∷ parts) =
    note_at entry visit number part.place ++ notes_from entry visit (number + 1) parts

-- the notes of the visit's parts whose stands the entry took
abbrev pub notes_of_visit : ℕ → Visit → List Note
notes_of_visit entry visit = notes_from entry visit 1 visit.parts

-- the notes of the parts whose stands the entry took, in order of visit and part
abbrev pub notes_by : ℕ → List Visit → List Note
notes_by entry visits = flat_map (notes_of_visit entry) visits

-- the note of this part of the visit, if there is one and the entry took its stand
abbrev pub note_if : ℕ → Visit → ℕ → Option Part → List Note
note_if entry visit number None = []
note_if entry visit number (Some part) = note_at entry visit number part.place

-- the note of the part of this number, if there is such a visit
abbrev pub note_in : ℕ → ℕ → Option Visit → List Note
note_in entry number None = []
note_in entry number (Some visit) = note_if entry visit number (part_at visit.parts number)

-- the note of a part, if one of the visits has it and the entry took its stand
abbrev pub notes_of_part : ℕ → List Visit → PartId → List Note
notes_of_part entry visits part = note_in entry part.part (visit_at visits part.visit)
