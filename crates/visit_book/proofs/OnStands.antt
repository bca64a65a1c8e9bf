-- When parts come on block, are expected to end, or are left, what holds of each stand stays true,
-- and so does the number of parts.
use Rattle.std.proofs.Common.{◌≡◌, ◌+◌, ◌++◌, ◌∷◌, [], ℕ, zero, suc, Bool, true, false, cond, List, None, length, take, drop, map, refl, arith, length-append}
use Rattle.std.specs.Prelude.{Option, Some, IfSome, filter}
use Rattle.apron_base.specs.declared.numbers.StandNo.{StandNo}
use Rattle.visit_book.specs.declared.visits.Part.{Part}
use Rattle.visit_book.specs.declared.visits.Place.{Place}
use Rattle.visit_book.specs.declared.visits.Place.TheVariants.{Planned}
use Rattle.visit_book.specs.Changes.{pushed_from}
use Rattle.visit_book.specs.Movements.{first_on_block, in_fact, last_ended, last_expected, made_actual, on_given, starts_before}
use Rattle.visit_book.proofs.Stands.{AllPlaces, push_length, push_places}

ended_places : (Holds : Place → Type 0) (end : ℕ) (parts : List Part) → AllPlaces Holds parts → AllPlaces Holds (last_ended end parts)
ended_places Holds end [] h = tt
ended_places Holds end (part ∷ []) h = h
ended_places Holds end (part ∷ (next ∷ parts)) h = (h.0, ended_places Holds end (next ∷ parts) h.1)

pub expected_places : (Holds : Place → Type 0) (least at : ℕ) (parts : List Part) → AllPlaces Holds parts → AllPlaces Holds (last_expected least at parts)
expected_places Holds least at [] h = tt
expected_places Holds least at (part ∷ []) h = h
expected_places Holds least at (part ∷ (next ∷ parts)) h = (h.0, expected_places Holds least at (next ∷ parts) h.1)

actual_places : (Holds : Place → Type 0) (parts : List Part) → ((place : Place) → Holds place → Holds (in_fact place)) → AllPlaces Holds parts
    → AllPlaces Holds (map made_actual parts)
actual_places Holds [] kept h = tt
actual_places Holds (part ∷ parts) kept h = (kept part.place h.0, actual_places Holds parts kept h.1)

taken_places : (Holds : Place → Type 0) (count : ℕ) (parts : List Part) → AllPlaces Holds parts → AllPlaces Holds (take count parts)
taken_places Holds zero parts h = tt
taken_places Holds (suc count) [] h = tt
taken_places Holds (suc count) (part ∷ parts) h = (h.0, taken_places Holds count parts h.1)

dropped_places : (Holds : Place → Type 0) (count : ℕ) (parts : List Part) → AllPlaces Holds parts → AllPlaces Holds (drop count parts)
dropped_places Holds zero parts h = h
dropped_places Holds (suc count) [] h = tt
dropped_places Holds (suc count) (part ∷ parts) h = dropped_places Holds count parts h.1

both_places : (Holds : Place → Type 0) (parts others : List Part) → AllPlaces Holds parts → AllPlaces Holds others → AllPlaces Holds (parts ++ others)
both_places Holds [] others h k = k
both_places Holds (part ∷ parts) others h k = (h.0, both_places Holds parts others h.1 k)

given_place : (Holds : Place → Type 0) (given : Option StandNo) (part : Part) → IfSome given (λ stand. Holds (Planned stand)) → Holds part.place
    → Holds (on_given given part).place
given_place Holds None part stand h = h
given_place Holds (Some found) part stand h = stand

first_places : (Holds : Place → Type 0) (given : Option StandNo) (parts : List Part) → ((place : Place) → Holds place → Holds (in_fact place))
    → IfSome given (λ stand. Holds (Planned stand)) → AllPlaces Holds parts → AllPlaces Holds (first_on_block given parts)
first_places Holds given [] kept stand h = tt
first_places Holds given (part ∷ parts) kept stand h = (kept (on_given given part).place (given_place Holds given part stand h.0), h.1)

pub arrive_places : (Holds : Place → Type 0) (tow least place end at : ℕ) (given : Option StandNo) (parts : List Part)
    → ((place : Place) → Holds place → Holds (in_fact place)) → IfSome given (λ stand. Holds (Planned stand)) → AllPlaces Holds parts
    → AllPlaces Holds (map made_actual (last_ended end (take place parts)) ++ pushed_from tow least at (first_on_block given (drop place parts)))
arrive_places Holds tow least place end at given parts kept stand h =
    both_places Holds (map made_actual (last_ended end (take place parts))) (pushed_from tow least at (first_on_block given (drop place parts)))
    (actual_places Holds (last_ended end (take place parts)) kept (ended_places Holds end (take place parts) (taken_places Holds place parts h)))
    (push_places Holds tow least at zero (first_on_block given (drop place parts)) (first_places Holds given (drop place parts) kept stand (dropped_places Holds place parts h)))

filtered_when : (Holds : Place → Type 0) (b : Bool) (part : Part) (parts : List Part) → Holds part.place → AllPlaces Holds parts
    → AllPlaces Holds (cond b (part ∷ parts) parts)
filtered_when Holds true part parts h k = (h, k)
filtered_when Holds false part parts h k = k

filtered_places : (Holds : Place → Type 0) (at : ℕ) (parts : List Part) → AllPlaces Holds parts → AllPlaces Holds (filter (starts_before at) parts)
filtered_places Holds at [] h = tt
filtered_places Holds at (part ∷ parts) h = filtered_when Holds (starts_before at part) part (filter (starts_before at) parts) h.0 (filtered_places Holds at parts h.1)

pub depart_places : (Holds : Place → Type 0) (at : ℕ) (parts : List Part) → ((place : Place) → Holds place → Holds (in_fact place)) → AllPlaces Holds parts
    → AllPlaces Holds (map made_actual (last_ended at (filter (starts_before at) parts)))
depart_places Holds at parts kept h =
    actual_places Holds (last_ended at (filter (starts_before at) parts)) kept (ended_places Holds at (filter (starts_before at) parts) (filtered_places Holds at parts h))

pub left_length : (end : ℕ) (parts : List Part) → length (map made_actual (last_ended end parts)) ≡ length parts
left_length end [] = refl
left_length end (part ∷ []) = refl
left_length end (part ∷ (next ∷ parts)) = omega (arith, left_length end (next ∷ parts))

pub expected_length : (least at : ℕ) (parts : List Part) → length (last_expected least at parts) ≡ length parts
expected_length least at [] = refl
expected_length least at (part ∷ []) = refl
expected_length least at (part ∷ (next ∷ parts)) = omega (arith, expected_length least at (next ∷ parts))

split_length : (place : ℕ) (parts : List Part) → length (take place parts) + length (drop place parts) ≡ length parts
split_length zero parts = omega arith
split_length (suc place) [] = refl
split_length (suc place) (part ∷ parts) = omega (arith, split_length place parts)

first_length : (given : Option StandNo) (parts : List Part) → length (first_on_block given parts) ≡ length parts
first_length given [] = refl
first_length given (part ∷ parts) = omega arith

pub arrive_length : (tow least place end at : ℕ) (given : Option StandNo) (parts : List Part)
    → length (map made_actual (last_ended end (take place parts)) ++ pushed_from tow least at (first_on_block given (drop place parts))) ≡ length parts
arrive_length tow least place end at given parts =
    let before : List Part = map made_actual (last_ended end (take place parts)) in
    let rest : List Part = first_on_block given (drop place parts) in
    let pushed : length (pushed_from tow least at rest) ≡ length rest = push_length tow least at zero rest in
    omega (
      arith,
      length-append before (pushed_from tow least at rest),
      left_length end (take place parts),
      pushed,
      first_length given (drop place parts),
      split_length place parts,
    )
