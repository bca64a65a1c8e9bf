-- Parts put in place one by one are the parts of a change.
use Rattle.std.proofs.Common.{◌≡◌, ◌<◌, ◌+◌, ◌-◌, ◌++◌, ◌∷◌, [], ℕ, zero, suc, List, length, take, drop, max, refl, ap, arith}
use Rattle.std.specs.Prelude.{Some, slice_get, slice_index_or, slice_set}
use Rattle.std.proofs.lemmas.Option.{slice_get-get_or}
use Rattle.visit_book.specs.declared.visits.Part.{Part}
use Rattle.visit_book.specs.Changes.{part_from, pushed_behind, pushed_from}
use Rattle.visit_book.specs.PartFields.{no_part}

-- the part in this place starts at a minute, and those after it were delayed
pub push_is : (tow least from place earliest : ℕ) (parts : List Part) (part : Part) → slice_get parts place ≡ Some part
    → earliest ≡ max part.to (from + least) + tow
    → slice_set (take (suc place) parts ++ pushed_behind tow least earliest (drop (suc place) parts)) place (part_from least from part)
    ≡ take place parts ++ pushed_from tow least from (drop place parts)
push_is tow least from place earliest [] part found e = absurd (cc)
push_is tow least from zero earliest (first ∷ parts) part found e =
    let is : part ≡ first = cc in
    rw (e, is) refl
push_is tow least from (suc place) earliest (first ∷ parts) part found e = ap (λ ps. first ∷ ps) (push_is tow least from place earliest parts part found e)

-- one more part is pushed
pub pushed_more : (tow least earliest later index : ℕ) (old new : List Part) (part : Part) → slice_get old index ≡ Some part → length new ≡ length old
    → later ≡ max part.to (max earliest part.from + least) + tow
    → take (suc index) (slice_set new index (part_from least (max earliest part.from) part)) ++ pushed_behind tow least later (drop (suc index) old)
    ≡ take index new ++ pushed_behind tow least earliest (drop index old)
pushed_more tow least earliest later index [] new part found same e = absurd (cc)
pushed_more tow least earliest later index (first ∷ old) [] part found same e = absurd (omega arith)
pushed_more tow least earliest later zero (first ∷ old) (other ∷ new) part found same e =
    let is : part ≡ first = cc in
    rw (e, is) refl
pushed_more tow least earliest later (suc index) (first ∷ old) (other ∷ new) part found same e =
    ap (λ ps. other ∷ ps) (pushed_more tow least earliest later index old new part found (omega arith) e)

-- the part that is read from a slice of the parts
pub found_in : (parts slice : List Part) (place : ℕ) → slice ≡ parts → place < length parts → slice_get parts place ≡ Some (slice_index_or slice place no_part)
found_in parts slice place same inside = rw same (slice_get-get_or parts place no_part inside)

-- the part of this number is put before the later ones, which are pushed
pub push_made : (tow least from number place earliest : ℕ) (parts set behind : List Part) (part first : Part) → number ≡ suc place
    → slice_get parts place ≡ Some part → first ≡ part_from least from part → earliest ≡ first.to + tow
    → behind ≡ take number parts ++ pushed_behind tow least earliest (drop number parts) → set ≡ slice_set behind place first
    → set ≡ take place parts ++ pushed_from tow least from (drop place parts)
push_made tow least from number place earliest parts set behind part first next found is later made put =
    let end : earliest ≡ max part.to (from + least) + tow = rw is at later in
    rw (put, made, next, is) (push_is tow least from place earliest parts part found end)

-- one more part is put after those that were pushed
pub pushed_next : (tow least earliest index : ℕ) (old new set : List Part) (part first : Part) → slice_get old index ≡ Some part → length new ≡ length old
    → first ≡ part_from least (max earliest part.from) part → set ≡ slice_set new (index + 1 - 1) first
    → take (index + 1) set ++ pushed_behind tow least (first.to + tow) (drop (index + 1) old) ≡ take index new ++ pushed_behind tow least earliest (drop index old)
pushed_next tow least earliest index old new set part first found same is put =
    let back : index + 1 - 1 ≡ index = omega arith in
    let next : index + 1 ≡ suc index = omega arith in
    rw (put, is, back, next) (pushed_more tow least earliest (max part.to (max earliest part.from + least) + tow) index old new part found same refl)
