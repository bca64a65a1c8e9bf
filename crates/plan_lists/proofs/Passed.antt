-- The parts of a growing list of parts.
use Rattle.std.proofs.Common.{◌≡◌, ◌<◌, ◌+◌, ◌++◌, ◌||◌, ◌∷◌, [], ℕ, Bool, true, false, List, length, map, take, slice_index_or, arith, refl, append_assoc, cond, if◌then◌else◌}
use Rattle.std.specs.Prelude.{filter}
use Rattle.std.specs.List.{list_any}
use Rattle.std.proofs.lemmas.List.{length-take-le, take_more}
use Rattle.std.proofs.lemmas.List.Folds.{list_any-append}
use Rattle.std.proofs.lemmas.List.Elements.{filter-append}
use Rattle.visit_book.specs.declared.visits.Part.{Part}
use Rattle.visit_book.specs.declared.visits.Visit.{Visit}
use Rattle.bump_core.proofs.Blockers.{map_append}
use Rattle.visit_book.specs.declared.visits.PartRow.{PartRow}
use Rattle.plan_lists.specs.Rows.{row, rows_from}

or_none : (b : Bool) → (b || false) ≡ b
or_none true = refl
or_none false = refl

rows_last : (visit : Visit) (first number : ℕ) (parts : List Part) (part : Part) → number ≡ first + length parts
    → rows_from visit first (parts ++ part ∷ []) ≡ rows_from visit first parts ++ row visit number part ∷ []
rows_last visit first number [] part e = let same : number ≡ first = omega arith in rw same refl
rows_last visit first number (other ∷ parts) part e =
    let rest : rows_from visit (first + 1) (parts ++ part ∷ []) ≡ rows_from visit (first + 1) parts ++ row visit number part ∷ [] =
    rows_last visit (first + 1) number parts part (omega arith) in
    rw rest refl

-- one more of the first parts
pub rows_next : (visit : Visit) (parts : List Part) (i : ℕ) (d : Part) → i < length parts
    → rows_from visit 1 (take (i + 1) parts) ≡ rows_from visit 1 (take i parts) ++ row visit (i + 1) (slice_index_or parts i d) ∷ []
rows_next visit parts i d within =
    rw (take_more parts i d within) (rows_last visit 1 (i + 1) (take i parts) (slice_index_or parts i d) (omega (arith, length-take-le i parts)))

-- the rows so far that pass a test, and one more
pub passed_more : (p : PartRow → Bool) (visit : Visit) (parts : List Part) (i : ℕ) (d : Part) (before so_far after : List PartRow) (here : PartRow) (is : Bool)
    → i < length parts
    → so_far ≡ before ++ filter p (rows_from visit 1 (take i parts)) → here ≡ row visit (i + 1) (slice_index_or parts i d) → is ≡ p here
    → after ≡ so_far ++ (if is then here ∷ [] else [])
    → after ≡ before ++ filter p (rows_from visit 1 (take (i + 1) parts))
passed_more p visit parts i d before so_far after here is within so here_is passes put =
    rw (
      put,
      so,
      passes,
      here_is,
      rows_next visit parts i d within,
      filter-append p (rows_from visit 1 (take i parts)) (row visit (i + 1) (slice_index_or parts i d) ∷ []),
      append_assoc,
    ) refl

-- whether one of the rows so far passes a test, and one more
pub any_more : (p : PartRow → Bool) (visit : Visit) (parts : List Part) (i : ℕ) (d : Part) (so_far here : Bool) → i < length parts
    → so_far ≡ list_any p (rows_from visit 1 (take i parts)) → here ≡ p (row visit (i + 1) (slice_index_or parts i d))
    → (so_far || here) ≡ list_any p (rows_from visit 1 (take (i + 1) parts))
any_more p visit parts i d so_far here within so is =
    let last = row visit (i + 1) (slice_index_or parts i d) in
    rw (so, is, rows_next visit parts i d within, list_any-append p (rows_from visit 1 (take i parts)) (last ∷ []), or_none (p last)) refl

mapped_if : {X Y : Type 0} (f : X → Y) (b : Bool) (x : X) → map f (cond b (x ∷ []) []) ≡ cond b (f x ∷ []) []
mapped_if f true x = refl
mapped_if f false x = refl

-- the same, each as something else
pub mapped_more : {X : Type 0} (f : PartRow → X) (p : PartRow → Bool) (visit : Visit) (parts : List Part) (i : ℕ) (d : Part) (before so_far after : List X) (here : PartRow) (it : X) (is : Bool)
    → i < length parts
    → so_far ≡ before ++ map f (filter p (rows_from visit 1 (take i parts))) → here ≡ row visit (i + 1) (slice_index_or parts i d) → it ≡ f here → is ≡ p here
    → after ≡ so_far ++ (if is then it ∷ [] else [])
    → after ≡ before ++ map f (filter p (rows_from visit 1 (take (i + 1) parts)))
mapped_more f p visit parts i d before so_far after here it is within so here_is it_is passes put =
    let last = row visit (i + 1) (slice_index_or parts i d) in
    rw (
      put,
      so,
      it_is,
      passes,
      here_is,
      rows_next visit parts i d within,
      filter-append p (rows_from visit 1 (take i parts)) (last ∷ []),
      map_append f (filter p (rows_from visit 1 (take i parts))) (filter p (last ∷ [])),
      mapped_if f (p last) last,
      append_assoc,
    ) refl
