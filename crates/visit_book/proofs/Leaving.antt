-- Parts that are left one by one.
use Rattle.std.proofs.Common.{◌≡◌, ◌≤◌, ◌+◌, ◌-◌, ◌++◌, ◌∷◌, ◌∙◌, [], ℕ, zero, suc, Bool, true, false, cond, List, length, take, drop, map, max, refl, sym, ap, arith}
use Rattle.std.specs.Prelude.{Some, filter, insert, slice_get, slice_index_or, slice_set}
use Rattle.std.proofs.Math.Seq.{drop-length, take-length}
use Rattle.std.proofs.lemmas.Option.{slice_get-get_or}
use Rattle.visit_book.specs.declared.visits.Part.{Part}
use Rattle.visit_book.specs.Movements.{last_ended, last_expected, made_actual, starts_before}
use Rattle.visit_book.specs.PartFields.{no_part}

actual_more : (index : ℕ) (parts : List Part) (part : Part) → slice_get parts index ≡ Some part
    → slice_set (map made_actual (take index parts) ++ drop index parts) index (made_actual part) ≡ map made_actual (take (suc index) parts) ++ drop (suc index) parts
actual_more index [] part found = absurd (cc)
actual_more zero (first ∷ parts) part found =
    let is : part ≡ first = cc in
    rw is refl
actual_more (suc index) (first ∷ parts) part found = ap (λ ps. made_actual first ∷ ps) (actual_more index parts part found)

-- one more part is on its stand in fact
pub actual_next : (index : ℕ) (parts made set : List Part) (part next : Part) → slice_get parts index ≡ Some part
    → made ≡ map made_actual (take index parts) ++ drop index parts → next ≡ made_actual part → set ≡ slice_set made (index + 1 - 1) next
    → set ≡ map made_actual (take (index + 1) parts) ++ drop (index + 1) parts
actual_next index parts made set part next found before is put =
    let back : index + 1 - 1 ≡ index = omega arith in
    let more : index + 1 ≡ suc index = omega arith in
    rw (put, before, is, back, more) (actual_more index parts part found)

cond_behind : (b : Bool) (part : Part) (parts more : List Part) → cond b (part ∷ parts) parts ++ more ≡ cond b (part ∷ (parts ++ more)) (parts ++ more)
cond_behind true part parts more = refl
cond_behind false part parts more = refl

filter_more : (p : Part → Bool) (index : ℕ) (parts : List Part) (part : Part) → slice_get parts index ≡ Some part
    → filter p (take (suc index) parts) ≡ filter p (take index parts) ++ cond (p part) (part ∷ []) []
filter_more p index [] part found = absurd (cc)
filter_more p zero (first ∷ parts) part found =
    let is : part ≡ first = cc in
    rw is refl
filter_more p (suc index) (first ∷ parts) part found =
    ap (λ rest. cond (p first) (first ∷ rest) rest) (filter_more p index parts part found)
    ∙ sym (cond_behind (p first) first (filter p (take index parts)) (cond (p part) (part ∷ []) []))

append_nil : (parts : List Part) → parts ++ [] ≡ parts
append_nil [] = refl
append_nil (part ∷ parts) = ap (λ ps. part ∷ ps) (append_nil parts)

-- one more part starts before the minute
pub started_next : (at index : ℕ) (parts started : List Part) (part : Part) → slice_get parts index ≡ Some part
    → started ≡ filter (starts_before at) (take index parts) → starts_before at part ≡ true
    → insert started (length started) part ≡ filter (starts_before at) (take (index + 1) parts)
started_next at index parts started part found before is =
    let more : index + 1 ≡ suc index = omega arith in
    let grown : filter (starts_before at) (take (suc index) parts) ≡ started ++ part ∷ [] =
    filter_more (starts_before at) index parts part found ∙ rw (is, ← before) refl in
    rw (more, grown, take-length started, drop-length started) refl

-- or it does not
pub started_same : (at index : ℕ) (parts started : List Part) (part : Part) → slice_get parts index ≡ Some part
    → started ≡ filter (starts_before at) (take index parts) → starts_before at part ≡ false
    → started ≡ filter (starts_before at) (take (index + 1) parts)
started_same at index parts started part found before is =
    let more : index + 1 ≡ suc index = omega arith in
    let grown : filter (starts_before at) (take (suc index) parts) ≡ started ++ [] = filter_more (starts_before at) index parts part found ∙ rw (is, ← before) refl in
    rw (more, grown) (sym (append_nil started))

expected_last : (end least at place : ℕ) (parts : List Part) (last : Part) → slice_get parts place ≡ Some last → place + 1 ≡ length parts
    → end ≡ max at (last.from + least) → last_ended end parts ≡ last_expected least at parts
expected_last end least at place [] last found all is = absurd (cc)
expected_last end least at zero (first ∷ []) last found all is =
    let same : last ≡ first = cc in
    rw (is, same) refl
expected_last end least at zero (first ∷ (next ∷ parts)) last found all is = absurd (omega arith)
expected_last end least at (suc place) (first ∷ []) last found all is = absurd (cc)
expected_last end least at (suc place) (first ∷ (next ∷ parts)) last found all is =
    ap (λ ps. first ∷ ps) (expected_last end least at place (next ∷ parts) last found (omega arith) is)

-- the last of all parts ends when it is expected to
pub expected_made : (end least at : ℕ) (parts slice made : List Part) → slice ≡ parts → 1 ≤ length parts
    → end ≡ max at ((slice_index_or slice (length slice - 1) no_part).from + least)
    → made ≡ last_ended end (take (length slice) parts) ++ drop (length slice) parts → made ≡ last_expected least at parts
expected_made end least at parts slice made same some is put =
    let last : slice_get parts (length parts - 1) ≡ Some (slice_index_or parts (length parts - 1) no_part) = slice_get-get_or parts (length parts - 1) no_part (omega arith) in
    rw (put, same, take-length parts, drop-length parts, append_nil (last_ended end parts))
    (expected_last end least at (length parts - 1) parts (slice_index_or parts (length parts - 1) no_part) last (omega arith) (rw same at is))
