-- Parts of a visit, one after the other, by what blocks them.
use Rattle.std.proofs.Common.{◌≡◌, ◌∙◌, ◌<◌, ◌+◌, ◌-◌, ◌++◌, ◌∷◌, [], ℕ, zero, suc, List, length, take, drop, refl, sym, ap, arith, append_assoc, drop-cons, add-one, slice_index_or}
use Rattle.std.specs.Prelude.{slice_set}
use Rattle.std.proofs.lemmas.List.{length-take-le, take_more}
use Rattle.apron_base.specs.declared.numbers.PartId.{PartId}
use Rattle.apron_base.specs.declared.numbers.VisitNo.{VisitNo}
use Rattle.visit_book.specs.declared.visits.Part.{Part}
use Rattle.bump_core.specs.declared.ranks.Conflict.{Conflict}
use Rattle.bump_core.specs.Lists.{part_by, parts_by}

set_seam : (pre post : List Part) (old part : Part) (i : ℕ) → i ≡ length pre → slice_set (pre ++ old ∷ post) i part ≡ pre ++ part ∷ post
set_seam [] post old part zero e = refl
set_seam [] post old part (suc i) e = absurd (omega arith)
set_seam (x ∷ pre) post old part zero e = absurd (omega arith)
set_seam (x ∷ pre) post old part (suc i) e = ap (λ ps. x ∷ ps) (set_seam pre post old part i (omega arith))

take_long : (parts : List Part) (number : ℕ) → number < length parts → length (take number parts) ≡ number
take_long parts number h = omega (arith, length-take-le number parts)

length_by : (entry : ℕ) (found : List Conflict) (visit : VisitNo) (number : ℕ) (parts : List Part)
    → length (parts_by entry found visit number parts) ≡ length parts
length_by entry found visit number [] = refl
length_by entry found visit number (part ∷ parts) = omega (arith, length_by entry found visit (number + 1) parts)

abbrev part_id : VisitNo → ℕ → PartId
part_id visit number = record { visit = visit; part = number }

by_push : (entry : ℕ) (found : List Conflict) (visit : VisitNo) (number j : ℕ) (parts : List Part) (part : Part) → j ≡ number + length parts
    → parts_by entry found visit number (parts ++ part ∷ []) ≡ parts_by entry found visit number parts ++ part_by entry found (part_id visit j) part ∷ []
by_push entry found visit number j [] part e = let same : j ≡ number = omega arith in rw same refl
by_push entry found visit number j (x ∷ parts) part e =
    ap (λ ps. part_by entry found (part_id visit number) x ∷ ps) (by_push entry found visit (number + 1) j parts part (omega arith))

-- one more part by what blocks it
pub by_more : (entry : ℕ) (found : List Conflict) (visit : VisitNo) (parts : List Part) (i : ℕ) (d : Part) (before after : List Part) (new : Part) → i < length parts
    → before ≡ parts_by entry found visit 1 (take i parts) ++ drop i parts → new ≡ part_by entry found (part_id visit (i + 1)) (slice_index_or parts i d)
    → after ≡ slice_set before (i + 1 - 1) new → after ≡ parts_by entry found visit 1 (take (i + 1) parts) ++ drop (i + 1) parts
by_more entry found visit parts i d before after new within so_far is put =
    let part : Part = slice_index_or parts i d in
    let done : List Part = parts_by entry found visit 1 (take i parts) in
    let rest : drop i parts ≡ part ∷ drop (i + 1) parts = rw (add-one i) (drop-cons parts i d within) in
    let long : length done ≡ i = length_by entry found visit 1 (take i parts) ∙ take_long parts i within in
    let next : parts_by entry found visit 1 (take (i + 1) parts) ≡ done ++ part_by entry found (part_id visit (i + 1)) part ∷ [] =
    rw (take_more parts i d within) (by_push entry found visit 1 (i + 1) (take i parts) part (omega (arith, length-take-le i parts))) in
    put ∙ (ap (λ ps. slice_set ps (i + 1 - 1) new) (so_far ∙ ap (λ ps. done ++ ps) rest)
    ∙ (set_seam done (drop (i + 1) parts) part new (i + 1 - 1) (omega arith)
    ∙ (ap (λ p. done ++ p ∷ drop (i + 1) parts) is
    ∙ (sym (append_assoc done (part_by entry found (part_id visit (i + 1)) part ∷ []) (drop (i + 1) parts))
    ∙ ap (λ ps. ps ++ drop (i + 1) parts) (sym next)))))
