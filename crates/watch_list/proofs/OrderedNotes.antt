-- The notes of a history are in order of entry.
use Rattle.std.proofs.Common.{◌≡◌, ◌≤◌, ◌+◌, ◌==◌, ◌++◌, ◌∷◌, [], ℕ, Bool, true, false, List, Some, None, length, length-append, refl, sym, subst, arith, if◌then◌else◌}
use Rattle.std.specs.List.Sorted.{IsNonDecreasingBy}
use Rattle.std.proofs.lemmas.Bool.Decides.{nat_tests}
use Rattle.std.proofs.lemmas.List.Concat.{flat_map-cons}
use Rattle.apron_base.specs.Histories.{Every}
use Rattle.apron_base.specs.Keeper.{with_last}
use Rattle.apron_rules.specs.declared.parts.AirportParts.{AirportParts}
use Rattle.visit_book.specs.declared.visits.Bump.{Bump}
use Rattle.visit_book.specs.declared.visits.Part.{Part}
use Rattle.visit_book.specs.declared.visits.Place.{Place}
use Rattle.visit_book.specs.declared.visits.Place.TheVariants.{Unplaced, Planned, Actual}
use Rattle.visit_book.specs.declared.visits.Visit.{Visit}
use Rattle.desk_asks.specs.declared.asks.Entry.{Entry}
use Rattle.history_core.specs.History.{replay}
use Rattle.watch_list.specs.declared.note.Note.{Note}
use Rattle.watch_list.specs.HistoryNotes.{last_notes, notes_after, notes_of}
use Rattle.watch_list.specs.Notes.{note_at, note_of, notes_by, notes_from, notes_of_visit}
use Rattle.watch_list.proofs.LaterNotes.{IsOrdered, ordered_from, ordered_rises}

module _ (entry : ℕ) where
  abbrev IsOfEntry : Note → Type 0
  IsOfEntry note = note.entry ≡ entry

  both : (notes more : List Note) → Every IsOfEntry notes → Every IsOfEntry more → Every IsOfEntry (notes ++ more)
  both [] more all rest = rest
  both (note ∷ notes) more all rest = (all.0, both notes more all.1 rest)

  bumped_of : (visit : Visit) (number : ℕ) (bump : Bump) (here : Bool) → (bump.entry == entry) ≡ here
      → Every IsOfEntry (if here then note_of visit number bump ∷ [] else [])
  bumped_of visit number bump true is = (grind (arith, nat_tests, is), tt)
  bumped_of visit number bump false is = tt

  at_of : (visit : Visit) (number : ℕ) (place : Place) → Every IsOfEntry (note_at entry visit number place)
  at_of visit number (Unplaced None) = tt
  at_of visit number (Unplaced (Some bump)) = bumped_of visit number bump (bump.entry == entry) refl
  at_of visit number (Planned stand) = tt
  at_of visit number (Actual stand) = tt

  from_of : (visit : Visit) (number : ℕ) (parts : List Part) → Every IsOfEntry (notes_from entry visit number parts)
  from_of visit number [] = tt
  from_of visit number (part ∷ parts) =
      both (note_at entry visit number part.place) (notes_from entry visit (number + 1) parts) (at_of visit number part.place) (from_of visit (number + 1) parts)

  by_of : (visits : List Visit) → Every IsOfEntry (notes_by entry visits)
  by_of [] = tt
  by_of (visit ∷ visits) =
      subst (Every IsOfEntry) (sym (flat_map-cons (notes_of_visit entry) visit visits))
      (both (notes_of_visit entry visit) (notes_by entry visits) (from_of visit 1 visit.parts) (by_of visits))

  -- before those of later entries
  ordered_before : (low : ℕ) (notes more : List Note) → low ≤ entry → Every IsOfEntry notes → IsOrdered entry more → IsOrdered low (notes ++ more)
  ordered_before low [] more below all ordered = ordered_from low entry more below ordered
  ordered_before low (note ∷ notes) more below all ordered =
      let here : note.entry ≡ entry = all.0 in (omega arith, ordered_before note.entry notes more (omega arith) all.1 ordered)

ordered_after : (airport : AirportParts) (before entries : List Entry) → IsOrdered (length before) (notes_after airport before entries)
ordered_after airport before [] = tt
ordered_after airport before (entry ∷ entries) =
    let front = with_last entry before in
    let longer : length front ≡ length before + 1 = length-append before (entry ∷ []) in
    ordered_before (length front) (length before) (last_notes airport front) (notes_after airport front entries) (omega arith)
    (by_of (length front) (replay airport front).visits) (ordered_after airport front entries)

-- so a binary search finds the first after an entry
pub notes_rise : (airport : AirportParts) (history : List Entry) → IsNonDecreasingBy (λ note. note.entry) (notes_of airport history)
notes_rise airport history = ordered_rises 0 (notes_of airport history) (ordered_after airport [] history)
