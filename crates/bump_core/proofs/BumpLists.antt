-- The lost parts of a growing list of parts.
use Rattle.std.proofs.Common.{◌≡◌, ◌<◌, ◌+◌, ◌++◌, ◌∷◌, [], ℕ, Bool, List, length, take, slice_index_or, arith, refl, append_assoc, append-nil, if◌then◌else◌}
use Rattle.std.proofs.lemmas.List.{length-take-le, take_more}
use Rattle.apron_base.specs.declared.numbers.PartId.{PartId}
use Rattle.visit_book.specs.declared.visits.Part.{Part}
use Rattle.visit_book.specs.declared.visits.Visit.{Visit}
use Rattle.bump_core.specs.Bumped.{bumped_from, is_bumped_by}

-- the part of the visit, if it lost its stand by the entry
abbrev bumped_at : ℕ → Visit → ℕ → Part → List PartId
bumped_at entry visit number part = if is_bumped_by entry part.place then record { visit = visit.number; part = number } ∷ [] else []

bumped_last : (entry : ℕ) (visit : Visit) (first number : ℕ) (parts : List Part) (part : Part) → number ≡ first + length parts
    → bumped_from entry visit first (parts ++ part ∷ []) ≡ bumped_from entry visit first parts ++ bumped_at entry visit number part
bumped_last entry visit first number [] part e = let same : number ≡ first = omega arith in rw (same, append-nil) refl
bumped_last entry visit first number (other ∷ parts) part e =
    let rest : bumped_from entry visit (first + 1) (parts ++ part ∷ []) ≡ bumped_from entry visit (first + 1) parts ++ bumped_at entry visit number part =
    bumped_last entry visit (first + 1) number parts part (omega arith) in
    rw (rest, append_assoc) refl

-- one more part of the visit
pub bumped_more : (entry : ℕ) (visit : Visit) (parts : List Part) (i : ℕ) (d : Part) (before so_far after : List PartId) (lost : Bool) → i < length parts
    → so_far ≡ before ++ bumped_from entry visit 1 (take i parts) → lost ≡ is_bumped_by entry (slice_index_or parts i d).place
    → after ≡ so_far ++ (if lost then record { visit = visit.number; part = i + 1 } ∷ [] else [])
    → after ≡ before ++ bumped_from entry visit 1 (take (i + 1) parts)
bumped_more entry visit parts i d before so_far after lost within is here put =
    rw (
      put,
      is,
      here,
      take_more parts i d within,
      bumped_last entry visit 1 (i + 1) (take i parts) (slice_index_or parts i d) (omega (arith, length-take-le i parts)),
      append_assoc,
    ) refl
