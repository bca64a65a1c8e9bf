-- The notes of an entry are those of the parts that lost their stands by it.
use Rattle.std.proofs.Common.{◌≡◌, ◌∙◌, ◌≤◌, ◌+◌, ◌-◌, ◌*◌, ◌==◌, ◌++◌, ◌∷◌, [], ℕ, Bool, true, false, List, None, Some, append_assoc, append-nil, length, length-append, refl, sym, ap, arith, inl, inr, if◌then◌else◌}
use Rattle.std.specs.Prelude.{slice_get}
use Rattle.std.specs.List.{AllByRecursion, flat_map}
use Rattle.std.proofs.lemmas.Bool.Decides.{nat_tests}
use Rattle.std.proofs.lemmas.List.Concat.{flat_map-append}
use Rattle.std.proofs.lemmas.List.Elements.{recursion_from_All}
use Rattle.apron_base.specs.declared.numbers.PartId.{PartId}
use Rattle.apron_rules.specs.declared.parts.AirportParts.{AirportParts}
use Rattle.visit_book.specs.declared.visits.Part.{Part}
use Rattle.visit_book.specs.declared.visits.Place.{Place}
use Rattle.visit_book.specs.declared.visits.Place.TheVariants.{Unplaced, Planned, Actual}
use Rattle.visit_book.specs.declared.visits.Visit.{Visit}
use Rattle.visit_book.specs.Numbers.{IsNumbered, visit_at}
use Rattle.visit_book.specs.PartFields.{most_parts, part_at}
use Rattle.visit_book.specs.WellFormed.{IsWellFormed}
use Rattle.plan_core.specs.PlanState.{IsPlan, IsVisitAt, PlanState}
use Rattle.bump_core.specs.Bumped.{bumped_by, bumped_from, bumped_of, is_bumped_by}
use Rattle.bump_core.proofs.Changes.{found_there}
use Rattle.bump_core.proofs.Rounds.{Among}
use Rattle.history_core.specs.Bumped.{last_bumped}
use Rattle.watch_list.specs.declared.note.Note.{Note}
use Rattle.watch_list.specs.Notes.{note_at, note_if, note_of, notes_by, notes_from, notes_of_part, notes_of_visit}

-- the part after these ones
part_there : (front rest : List Part) (part : Part) → slice_get (front ++ part ∷ rest) (length front) ≡ Some part
part_there [] rest part = refl
part_there (first ∷ front) rest part = part_there front rest part

numbered_there : (front rest : List Part) (part : Part) (number : ℕ) → number ≡ length front + 1 → part_at (front ++ part ∷ rest) number ≡ Some part
numbered_there front rest part number is =
    let some : (number == 0) ≡ false = grind (arith, nat_tests, is) in
    let place : number - 1 ≡ length front = omega arith in
    rw (some, place) (part_there front rest part)

module _ (entry : ℕ) (all : List Visit) where
  abbrev of_part : PartId → List Note
  of_part part = notes_of_part entry all part

  by_test : (id : PartId) (note : Note) (here : Bool) → of_part id ≡ (if here then note ∷ [] else [])
      → flat_map of_part (if here then id ∷ [] else []) ≡ (if here then note ∷ [] else [])
  by_test id note true is = append-nil (of_part id) ∙ is
  by_test id note false is = refl

  by_place : (visit : Visit) (number : ℕ) (place : Place) → of_part (record { visit = visit.number; part = number }) ≡ note_at entry visit number place
      → flat_map of_part (if is_bumped_by entry place then record { visit = visit.number; part = number } ∷ [] else []) ≡ note_at entry visit number place
  by_place visit number (Unplaced None) is = refl
  by_place visit number (Unplaced (Some bump)) is =
      by_test (record { visit = visit.number; part = number }) (note_of visit number bump) (bump.entry == entry) is
  by_place visit number (Planned stand) is = refl
  by_place visit number (Actual stand) is = refl

  by_parts : (visit : Visit) (front rest : List Part) (number : ℕ) → visit_at all visit.number ≡ Some visit → visit.parts ≡ front ++ rest
      → number ≡ length front + 1 → flat_map of_part (bumped_from entry visit number rest) ≡ notes_from entry visit number rest
  by_parts visit front [] number found parts is = refl
  by_parts visit front (part ∷ rest) number found parts is =
      let at : part_at visit.parts number ≡ Some part = ap (λ (ps : List Part). part_at ps number) parts ∙ numbered_there front rest part number is in
      let here : of_part (record { visit = visit.number; part = number }) ≡ note_at entry visit number part.place =
      rw (found) (ap (note_if entry visit number) at) in
      let longer : length (front ++ part ∷ []) ≡ length front + 1 = length-append front (part ∷ []) in
      let more = by_parts visit (front ++ part ∷ []) rest (number + 1) found (parts ∙ sym (append_assoc front (part ∷ []) rest)) (omega arith) in
      flat_map-append of_part (if is_bumped_by entry part.place then record { visit = visit.number; part = number } ∷ [] else []) (bumped_from entry visit (number + 1) rest)
      ∙ rw (by_place visit number part.place here, more) refl

  by_visits : (visits : List Visit) → ((visit : Visit) → Among visit visits → visit_at all visit.number ≡ Some visit)
      → flat_map of_part (bumped_by entry visits) ≡ notes_by entry visits
  by_visits [] found = refl
  by_visits (visit ∷ visits) found =
      let here : flat_map of_part (bumped_of entry visit) ≡ notes_of_visit entry visit = by_parts visit [] visit.parts 1 (found visit (inl refl)) refl refl in
      let more = by_visits visits (λ other in'. found other (inr in')) in
      flat_map-append of_part (bumped_of entry visit) (bumped_by entry visits) ∙ rw (here, more) refl

-- the notes of the parts that lost their stands are those of the entry
pub part_notes : (entry : ℕ) (visits : List Visit) → IsNumbered visits → flat_map (notes_of_part entry visits) (bumped_by entry visits) ≡ notes_by entry visits
part_notes entry visits numbered = by_visits entry visits visits (λ visit in'. found_there visits visit numbered in')

-- at most each part of a plan lost its stand
one_at_most : (id : PartId) (here : Bool) → length (if here then id ∷ [] else []) ≤ 1
one_at_most id true = omega arith
one_at_most id false = omega arith

few_from : (entry : ℕ) (visit : Visit) (number : ℕ) (parts : List Part) → length (bumped_from entry visit number parts) ≤ length parts
few_from entry visit number [] = omega arith
few_from entry visit number (part ∷ parts) =
    let here = if is_bumped_by entry part.place then record { visit = visit.number; part = number } ∷ [] else [] in
    let one : length here ≤ 1 = one_at_most (record { visit = visit.number; part = number }) (is_bumped_by entry part.place) in
    let more = few_from entry visit (number + 1) parts in
    omega (arith, length-append here (bumped_from entry visit (number + 1) parts))

few_by : (airport : AirportParts) (version entry : ℕ) (visits : List Visit) → AllByRecursion (IsVisitAt airport version) visits
    → length (bumped_by entry visits) ≤ most_parts * length visits
few_by airport version entry [] all = omega arith
few_by airport version entry (visit ∷ visits) all =
    let formed : IsWellFormed airport visit = all.0.well_formed in
    let few : length visit.parts ≤ most_parts = formed.few in
    let here = few_from entry visit 1 visit.parts in
    let more = few_by airport version entry visits all.1 in
    omega (arith, length-append (bumped_of entry visit) (bumped_by entry visits))

pub few_bumped : (plan : PlanState) → IsPlan plan → length (last_bumped plan) ≤ most_parts * length plan.visits
few_bumped plan is = few_by plan.airport plan.version plan.version plan.visits (recursion_from_All (IsVisitAt plan.airport plan.version) plan.visits is.each)

-- an entry by which no part lost its stand has no note
pub no_notes : (entry : ℕ) (visits : List Visit) → IsNumbered visits → bumped_by entry visits ≡ [] → notes_by entry visits ≡ []
no_notes entry visits numbered none = sym (part_notes entry visits numbered) ∙ ap (flat_map (notes_of_part entry visits)) none
