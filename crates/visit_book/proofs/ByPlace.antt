-- A visit has the place of its number.
use Rattle.std.proofs.Common.{◌≡◌, ◌<◌, ◌≤◌, ◌+◌, ◌-◌, ◌∙◌, ℕ, suc, Bool, true, false, List, [], ◌∷◌, refl, sym, arith, length, nat_lt, None, Some}
use Rattle.std.specs.Prelude.{slice_get, slice_index_or}
use Rattle.std.proofs.lemmas.Option.{slice_get-get_or, slice_get_past}
use Rattle.std.proofs.lemmas.Bool.Decides.{nat_tests}
use Rattle.apron_base.specs.declared.numbers.VisitNo.{VisitNo}
use Rattle.visit_book.specs.declared.visits.Visit.{Visit}
use Rattle.visit_book.specs.Numbers.{IsNumbered, IsNumberedAbove, has_number, visit_at}

-- there is no visit of a number below the first
pub visit_at-below : (low : ℕ) (visits : List Visit) (number : VisitNo) → IsNumberedAbove low visits → number.0 ≤ low → visit_at visits number ≡ None
visit_at-below low [] number h below = refl
visit_at-below low (visit ∷ visits) number h below =
    let other : has_number number visit ≡ false = grind (arith, nat_tests, h.0) in
    rw other (visit_at-below (low + 1) visits number h.1 (omega arith))

place_next : (visits : List Visit) (visit : Visit) (i j : ℕ) → j ≡ i + 1 → slice_get (visit ∷ visits) j ≡ slice_get visits i
place_next visits visit i j e = rw (e, add_one i) refl
  where
    add_one : (n : ℕ) → n + 1 ≡ suc n
    add_one n = omega arith

place_first : (visits : List Visit) (visit : Visit) (j : ℕ) → j ≡ 0 → slice_get (visit ∷ visits) j ≡ Some visit
place_first visits visit j e = rw e refl

at_first : (low : ℕ) (visit : Visit) (visits : List Visit) (number : VisitNo) (here : Bool) → has_number number visit ≡ here
    → visit.number.0 ≡ low + 1 → low < number.0
    → (low + 1 < number.0 → visit_at visits number ≡ slice_get visits (number.0 - (low + 1 + 1)))
    → visit_at (visit ∷ visits) number ≡ slice_get (visit ∷ visits) (number.0 - (low + 1))
at_first low visit visits number true is first above rest =
    let here : number.0 - (low + 1) ≡ 0 = grind (arith, nat_tests) in
    rw is (sym (place_first visits visit (number.0 - (low + 1)) here))
at_first low visit visits number false is first above rest =
    let later : low + 1 < number.0 = grind (arith, nat_tests) in
    rw is (rest later ∙ sym (place_next visits visit (number.0 - (low + 1 + 1)) (number.0 - (low + 1)) (omega arith)))

-- the visit of a number is as many places on as the number is above the one before the first
pub visit_at-place : (low : ℕ) (visits : List Visit) (number : VisitNo) → IsNumberedAbove low visits → low < number.0
    → visit_at visits number ≡ slice_get visits (number.0 - (low + 1))
visit_at-place low [] number h above = refl
visit_at-place low (visit ∷ visits) number h above =
    at_first low visit visits number (has_number number visit) refl h.0 above (λ later. visit_at-place (low + 1) visits number h.1 later)

-- there is a visit of each number from 1 to the number of visits
pub visit_at-within : (visits : List Visit) (number : VisitNo) (d : Visit) → IsNumbered visits → 1 ≤ number.0 → number.0 ≤ length visits
    → visit_at visits number ≡ Some (slice_index_or visits (number.0 - 1) d)
visit_at-within visits number d h some within =
    visit_at-place 0 visits number h (omega arith) ∙ slice_get-get_or visits (number.0 - 1) d (omega arith)

-- there is none of any other number
pub visit_at-outside : (visits : List Visit) (number : VisitNo) → IsNumbered visits → (1 ≤ number.0 → length visits < number.0) → visit_at visits number ≡ None
visit_at-outside visits number h outside = first_or_later visits number h outside (nat_lt 0 number.0) refl
  where
    first_or_later : (visits : List Visit) (number : VisitNo) → IsNumbered visits → (1 ≤ number.0 → length visits < number.0)
        → (b : Bool) → nat_lt 0 number.0 ≡ b → visit_at visits number ≡ None
    first_or_later visits number h outside true is =
        let above : 0 < number.0 = grind (arith, nat_tests) in
        let past : length visits < number.0 = outside (omega arith) in
        visit_at-place 0 visits number h above ∙ slice_get_past visits (number.0 - 1) (omega arith)
    first_or_later visits number h outside false is = visit_at-below 0 visits number h (grind (arith, nat_tests))
