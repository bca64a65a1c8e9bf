-- Lists in order of parts: if no two items are of the same part, there is one such list.
use Rattle.std.proofs.Common.{◌≡◌, ◌≤◌, ◌<◌, ◌==◌, ◌&&◌, inl, inr, ℕ, suc, Bool, true, false, cond, List, [], ◌∷◌, refl, subst, arith, length, get_or}
use Rattle.std.specs.Cmp.{IsStrictWeakOrder}
use Rattle.std.specs.List.Sorted.{ties}
use Rattle.std.specs.Prelude.{AllPairs, Contains, ◌↔◌, count_by}
use Rattle.std.proofs.lemmas.Bool.Decides.{nat_tests}
use Rattle.std.proofs.lemmas.List.Sums.{sum_by-cons}
use Rattle.apron_base.specs.declared.numbers.PartId.{PartId}
use Rattle.apron_base.specs.declared.slot.Slot.{Slot}
use Rattle.apron_base.proofs.Sorting as sorting
use Rattle.apron_base.proofs.Sorting.{sorted_count, sorted_from, sorted_to}
use Rattle.apron_rules.specs.Clash.{IsBefore}
use Rattle.clash_check.specs.Clear.{HasPartsOnce}
use Rattle.clash_check.specs.Meetings.{by_part, is_smaller}

-- the second part is the first
abbrev pub is_part : PartId → PartId → Bool
is_part part other = (other.visit.0 == part.visit.0) && (other.part == part.part)

smaller_one_way : (p q : PartId) → is_smaller p q ≡ true → is_smaller q p ≡ false
smaller_one_way p q h = grind (arith, nat_tests)

smaller_chain : (p q r : PartId) → is_smaller p q ≡ false → is_smaller q r ≡ false → is_smaller p r ≡ false
smaller_chain p q r h k = grind (arith, nat_tests)

tied_part : (p q : PartId) → is_smaller p q ≡ false → is_smaller q p ≡ false → is_part p q ≡ true
tied_part p q h k = grind (arith, nat_tests)

smaller_if_before : (p q : PartId) → IsBefore p q → is_smaller p q ≡ true
smaller_if_before p q (inl less) = grind (arith, nat_tests)
smaller_if_before p q (inr (same, less)) = grind (arith, nat_tests)

module _ {X : Type 0} (key : X → PartId) where
  -- one is of a smaller part than the other
  abbrev pub before : X → X → Bool
  before x y = is_smaller (key x) (key y)

  order : IsStrictWeakOrder before
  order = record { one_way = λ x y h. smaller_one_way (key x) (key y) h; chain = λ x y z h k. smaller_chain (key x) (key y) (key z) h k }

  -- no item is of a smaller part than one before it
  abbrev pub NeverFalls : List X → Type 0
  NeverFalls xs = sorting.NeverFalls before xs

  -- each item is of a smaller part than those after it
  abbrev pub Rises : List X → Type 0
  Rises xs = sorting.Rises before xs

  -- of each part there is at most one item
  abbrev pub IsOnce : List X → Type 0
  IsOnce xs = (part : PartId) → count_by (λ x. is_part part (key x)) xs ≤ 1

  -- items that tie are of the same part
  tied_by : (x y : X) (a b : Bool) → is_smaller (key x) (key y) ≡ a → is_smaller (key y) (key x) ≡ b → cond (ties before x y) 1 0 ≤ cond (is_part (key x) (key y)) 1 0
  tied_by x y true b e f = rw e (omega arith)
  tied_by x y false true e f = rw (e, f) (omega arith)
  tied_by x y false false e f = rw (e, f, tied_part (key x) (key y) e f) (omega arith)

  fewer_tie : (x : X) (xs : List X) → count_by (ties before x) xs ≤ count_by (λ y. is_part (key x) (key y)) xs
  fewer_tie x [] = omega arith
  fewer_tie x (y ∷ ys) =
      omega (
        arith,
        tied_by x y (is_smaller (key x) (key y)) (is_smaller (key y) (key x)) refl refl,
        fewer_tie x ys,
        sum_by-cons (λ z. cond (ties before x z) 1 0) y ys,
        sum_by-cons (λ z. cond (is_part (key x) (key z)) 1 0) y ys,
      )

  -- items in order, of which no two are of the same part, rise
  pub rises_once : (xs : List X) → NeverFalls xs → IsOnce xs → Rises xs
  rises_once xs falls once = sorting.rises_once before order xs falls (λ x. omega (arith, once (key x), fewer_tie x xs))

  -- two lists that rise and have the same items are the same
  pub rises_one : (xs ys : List X) → Rises xs → Rises ys → ((x : X) → Contains xs x → Contains ys x) → ((x : X) → Contains ys x → Contains xs x) → xs ≡ ys
  rises_one xs ys up up2 to from = sorting.rises_one before order xs ys up up2 to from

  -- items of which none is of a smaller part than the one before it
  pub falls_nowhere : (xs : List X) → ((k : ℕ) (d : X) → suc k < length xs → is_smaller (key (get_or xs (suc k) d)) (key (get_or xs k d)) ≡ false) → NeverFalls xs
  falls_nowhere xs h = sorting.falls_nowhere before order xs h

  -- the pairs of a list that rises
  pub rises_pairs : (xs : List X) → AllPairs (λ x y. IsBefore (key x) (key y)) xs → Rises xs
  rises_pairs [] pairs = tt
  rises_pairs (x ∷ xs) pairs = (
    λ y (k, inside, at). subst (λ z. is_smaller (key x) (key z) ≡ true) at (smaller_if_before (key x) (key (get_or xs k y)) (pairs 0 (suc k) y (omega arith) (omega (arith, inside)))),
    rises_pairs xs (λ i j d less inside. pairs (suc i) (suc j) d (omega (arith, less)) (omega (arith, inside))),
  )

abbrev pub part_of : Slot → PartId
part_of slot = slot.part

-- slots in order of their parts are those slots
pub ordered_from : (slots : List Slot) (y : Slot) → Contains (by_part slots) y → Contains slots y
ordered_from slots y h = sorted_from (before part_of) slots y h

pub ordered_to : (slots : List Slot) (y : Slot) → Contains slots y → Contains (by_part slots) y
ordered_to slots y h = sorted_to (before part_of) slots y h

-- slots of which no two are of the same part rise in order of their parts
pub ordered_rises : (slots : List Slot) → HasPartsOnce slots → Rises part_of (by_part slots)
ordered_rises slots once =
    rises_once part_of (by_part slots) (sorting.sorted_falls (before part_of) (order part_of) slots)
    (λ part. omega (arith, once part, sorted_count (before part_of) (λ (slot : Slot). cond (is_part part slot.part) 1 0) slots))

-- there is one order
pub order_one : (slots ordered : List Slot) → HasPartsOnce slots → AllPairs (λ slot other. IsBefore slot.part other.part) ordered → ((slot : Slot) → Contains slots slot ↔ Contains ordered slot) → by_part slots ≡ ordered
order_one slots ordered once pairs same =
    rises_one part_of (by_part slots) ordered (ordered_rises slots once) (rises_pairs part_of ordered pairs)
    (λ y h. (same y).0 (ordered_from slots y h)) (λ y h. ordered_to slots y ((same y).1 h))
