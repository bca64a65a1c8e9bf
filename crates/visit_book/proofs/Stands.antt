-- Changes keep what holds of each place of a visit's parts, and how many parts there are.
use Rattle.std.proofs.Common.{◌≡◌, ◌≤◌, ◌+◌, ◌++◌, ◌∷◌, [], ℕ, zero, suc, List, None, length, take, drop, max, refl, arith}
use Rattle.std.specs.List.{AllByRecursion}
use Rattle.std.specs.Prelude.{Some, slice_get}
use Rattle.visit_book.specs.declared.visits.Part.{Part}
use Rattle.visit_book.specs.declared.visits.Place.{Place}
use Rattle.visit_book.specs.declared.visits.Place.TheVariants.{Unplaced}
use Rattle.visit_book.specs.Changes.{cut_first, join_first, pushed_behind, pushed_from}

-- this holds of the place of each part
abbrev pub AllPlaces : (Place → Type 0) → List Part → Type 0
AllPlaces Holds parts = AllByRecursion (λ part. Holds part.place) parts

pub places_by : (Holds Other : Place → Type 0) (parts : List Part) → ((place : Place) → Holds place → Other place) → AllPlaces Holds parts → AllPlaces Other parts
places_by Holds Other [] turn h = tt
places_by Holds Other (part ∷ parts) turn h = (turn part.place h.0, places_by Holds Other parts turn h.1)

behind_places : (Holds : Place → Type 0) (tow least earliest : ℕ) (parts : List Part) → AllPlaces Holds parts → AllPlaces Holds (pushed_behind tow least earliest parts)
behind_places Holds tow least earliest [] h = tt
behind_places Holds tow least earliest (part ∷ parts) h =
    (h.0, behind_places Holds tow least (max part.to (max earliest part.from + least) + tow) parts h.1)

pub push_places : (Holds : Place → Type 0) (tow least from place : ℕ) (parts : List Part) → AllPlaces Holds parts
    → AllPlaces Holds (take place parts ++ pushed_from tow least from (drop place parts))
push_places Holds tow least from zero [] h = tt
push_places Holds tow least from zero (part ∷ parts) h = (h.0, behind_places Holds tow least (max part.to (from + least) + tow) parts h.1)
push_places Holds tow least from (suc place) [] h = tt
push_places Holds tow least from (suc place) (part ∷ parts) h = (h.0, push_places Holds tow least from place parts h.1)

pub cut_places : (Holds : Place → Type 0) (tow at place : ℕ) (parts : List Part) → Holds (Unplaced None) → AllPlaces Holds parts
    → AllPlaces Holds (take place parts ++ cut_first tow at (drop place parts))
cut_places Holds tow at zero [] none h = tt
cut_places Holds tow at zero (part ∷ parts) none h = (h.0, (none, h.1))
cut_places Holds tow at (suc place) [] none h = tt
cut_places Holds tow at (suc place) (part ∷ parts) none h = (h.0, cut_places Holds tow at place parts none h.1)

pub join_places : (Holds : Place → Type 0) (place : ℕ) (parts : List Part) → AllPlaces Holds parts → AllPlaces Holds (take place parts ++ join_first (drop place parts))
join_places Holds zero [] h = tt
join_places Holds zero (part ∷ []) h = h
join_places Holds zero (part ∷ (next ∷ parts)) h = (h.0, h.1.1)
join_places Holds (suc place) [] h = tt
join_places Holds (suc place) (part ∷ parts) h = (h.0, join_places Holds place parts h.1)

pub behind_length : (tow least earliest : ℕ) (parts : List Part) → length (pushed_behind tow least earliest parts) ≡ length parts
behind_length tow least earliest [] = refl
behind_length tow least earliest (part ∷ parts) = omega (arith, behind_length tow least (max part.to (max earliest part.from + least) + tow) parts)

pub push_length : (tow least from place : ℕ) (parts : List Part) → length (take place parts ++ pushed_from tow least from (drop place parts)) ≡ length parts
push_length tow least from zero [] = refl
push_length tow least from zero (part ∷ parts) = omega (arith, behind_length tow least (max part.to (from + least) + tow) parts)
push_length tow least from (suc place) [] = refl
push_length tow least from (suc place) (part ∷ parts) = omega (arith, push_length tow least from place parts)

-- a cut adds one part
pub cut_length : (tow at place : ℕ) (parts : List Part) (part : Part) → slice_get parts place ≡ Some part
    → length (take place parts ++ cut_first tow at (drop place parts)) ≡ length parts + 1
cut_length tow at place [] part found = absurd (cc)
cut_length tow at zero (first ∷ parts) part found = omega arith
cut_length tow at (suc place) (first ∷ parts) part found = omega (arith, cut_length tow at place parts part found)

-- some part is left when parts are joined
pub join_length : (place : ℕ) (parts : List Part) → 1 ≤ length parts
    → (1 ≤ length (take place parts ++ join_first (drop place parts))) × (length (take place parts ++ join_first (drop place parts)) ≤ length parts)
join_length zero [] some = absurd (omega arith)
join_length zero (part ∷ []) some = (omega arith, omega arith)
join_length zero (part ∷ (next ∷ parts)) some = (omega arith, omega arith)
join_length (suc place) [] some = absurd (omega arith)
join_length (suc place) (part ∷ parts) some = (omega arith, omega (arith, rest place parts))
  where
    rest : (place : ℕ) (parts : List Part) → length (take place parts ++ join_first (drop place parts)) ≤ length parts
    rest zero [] = omega arith
    rest zero (part ∷ []) = omega arith
    rest zero (part ∷ (next ∷ parts)) = omega arith
    rest (suc place) [] = omega arith
    rest (suc place) (part ∷ parts) = omega (arith, rest place parts)
