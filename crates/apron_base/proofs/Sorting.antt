-- Lists in an order: what is in them, and that the same items make only one such list if no two
-- tie.
use Rattle.std.proofs.Common.{◌≡◌, ◌∙◌, ◌<◌, ◌≤◌, ◌+◌, ◌&&◌, ◌⊎◌, inl, inr, ℕ, zero, suc, Bool, true, false, cond, List, [], ◌∷◌, refl, sym, ap, subst, arith, length, get_or}
use Rattle.std.specs.Prelude.{Contains, count_by, not, sum_by}
use Rattle.std.specs.Cmp.{IsStrictWeakOrder}
use Rattle.std.specs.List.Sorted.{IsPermutation, ties}
use Rattle.std.proofs.lemmas.List.Sorted.{Contains-permutation, IsPermutation-sym, sum_by-IsPermutation}
use Rattle.std.proofs.lemmas.List.Sums.{get_or-le-sum_by, sum_by-cons}
use Rattle.apron_base.specs.Sorting.{insert_by, sorted_by}

-- an item of a list is its first, or after it
pub listed_first : {X : Type 0} (x : X) (xs : List X) → Contains (x ∷ xs) x
listed_first x xs = (0, omega arith, refl)

pub listed_later : {X : Type 0} (x : X) (xs : List X) (y : X) → Contains xs y → Contains (x ∷ xs) y
listed_later x xs y (k, inside, at) = (suc k, omega (arith, inside), at)

pub listed_cases : {X : Type 0} (x : X) (xs : List X) (y : X) → Contains (x ∷ xs) y → (x ≡ y) ⊎ Contains xs y
listed_cases x xs y (zero, inside, at) = inl at
listed_cases x xs y (suc k, inside, at) = inr (k, omega (arith, inside), at)

tied : (a b : Bool) → a ≡ false → b ≡ false → (not a && not b) ≡ true
tied false false e f = refl
tied false true e f = absurd (cc)
tied true b e f = absurd (cc)

module _ {X : Type 0} (before : X → X → Bool) where
  -- no item ought to come before one that is in front of it
  abbrev pub NeverFalls : List X → Type 0
  NeverFalls [] = Unit {0}
  NeverFalls (x ∷ xs) = ((y : X) → Contains xs y → before y x ≡ false) × NeverFalls xs

  -- each item comes before those after it
  abbrev pub Rises : List X → Type 0
  Rises [] = Unit {0}
  Rises (x ∷ xs) = ((y : X) → Contains xs y → before x y ≡ true) × Rises xs

  -- each item ties with at most one item
  abbrev pub IsOnce : List X → Type 0
  IsOnce xs = (x : X) → count_by (ties before x) xs ≤ 1

  -- an item that is put among others
  insert_cases : (item : X) (xs : List X) (y : X) → Contains (insert_by before item xs) y → (item ≡ y) ⊎ Contains xs y
  insert_cases item [] y h = listed_cases item [] y h
  insert_cases item (x ∷ xs) y h = cases (insert_cases item xs y) (before x item) h
    where
      cases : (Contains (insert_by before item xs) y → (item ≡ y) ⊎ Contains xs y) → (b : Bool) → Contains (cond b (x ∷ insert_by before item xs) (item ∷ x ∷ xs)) y → (item ≡ y) ⊎ Contains (x ∷ xs) y
      cases rest true k = elim (listed_cases x (insert_by before item xs) y k) [
        | inl first ↦ inr (subst (Contains (x ∷ xs)) first (listed_first x xs))
        | inr later ↦ elim (rest later) [ inl own ↦ inl own | inr old ↦ inr (listed_later x xs y old) ]
      ]
      cases rest false k = listed_cases item (x ∷ xs) y k

  insert_listed : (item : X) (xs : List X) (y : X) → (item ≡ y) ⊎ Contains xs y → Contains (insert_by before item xs) y
  insert_listed item [] y h = elim h [ inl own ↦ subst (Contains (item ∷ [])) own (listed_first item []) | inr old ↦ listed_later item [] y old ]
  insert_listed item (x ∷ xs) y h = cases (insert_listed item xs y) (before x item) h
    where
      cases : ((item ≡ y) ⊎ Contains xs y → Contains (insert_by before item xs) y) → (b : Bool) → (item ≡ y) ⊎ Contains (x ∷ xs) y → Contains (cond b (x ∷ insert_by before item xs) (item ∷ x ∷ xs)) y
      cases rest true (inl own) = listed_later x (insert_by before item xs) y (rest (inl own))
      cases rest true (inr old) = elim (listed_cases x xs y old) [
        | inl first ↦ subst (Contains (x ∷ insert_by before item xs)) first (listed_first x (insert_by before item xs))
        | inr later ↦ listed_later x (insert_by before item xs) y (rest (inr later))
      ]
      cases rest false (inl own) = subst (Contains (item ∷ x ∷ xs)) own (listed_first item (x ∷ xs))
      cases rest false (inr old) = listed_later item (x ∷ xs) y old

  -- items in order are those items
  pub sorted_from : (items : List X) (y : X) → Contains (sorted_by before items) y → Contains items y
  sorted_from [] y h = h
  sorted_from (item ∷ items) y h = elim (insert_cases item (sorted_by before items) y h) [
    | inl own ↦ subst (Contains (item ∷ items)) own (listed_first item items)
    | inr old ↦ listed_later item items y (sorted_from items y old)
  ]

  pub sorted_to : (items : List X) (y : X) → Contains items y → Contains (sorted_by before items) y
  sorted_to [] y h = h
  sorted_to (item ∷ items) y h =
      insert_listed item (sorted_by before items) y (elim (listed_cases item items y h) [ inl own ↦ inl own | inr later ↦ inr (sorted_to items y later) ])

  insert_count : (f : X → ℕ) (item : X) (xs : List X) → sum_by f (insert_by before item xs) ≡ f item + sum_by f xs
  insert_count f item [] = sum_by-cons f item []
  insert_count f item (x ∷ xs) = cases (insert_count f item xs) (before x item)
    where
      cases : sum_by f (insert_by before item xs) ≡ f item + sum_by f xs → (b : Bool) → sum_by f (cond b (x ∷ insert_by before item xs) (item ∷ x ∷ xs)) ≡ f item + sum_by f (x ∷ xs)
      cases rest true = omega (arith, sum_by-cons f x (insert_by before item xs), rest, sum_by-cons f x xs)
      cases rest false = sum_by-cons f item (x ∷ xs)

  pub sorted_count : (f : X → ℕ) (items : List X) → sum_by f (sorted_by before items) ≡ sum_by f items
  sorted_count f [] = refl
  sorted_count f (item ∷ items) = omega (arith, insert_count f item (sorted_by before items), sorted_count f items, sum_by-cons f item items)

  module _ (order : IsStrictWeakOrder before) where
    insert_falls : (item : X) (xs : List X) → NeverFalls xs → NeverFalls (insert_by before item xs)
    insert_falls item [] falls = (λ y h. absurd (omega (arith, h.1)), tt)
    insert_falls item (x ∷ xs) falls = cases (insert_falls item xs falls.1) (before x item) refl
      where
        behind : before x item ≡ true → (y : X) → (item ≡ y) ⊎ Contains xs y → before y x ≡ false
        behind e y (inl own) = subst (λ (z : X). before z x ≡ false) own (order.one_way x item e)
        behind e y (inr old) = falls.0 y old

        ahead : before x item ≡ false → (y : X) → (x ≡ y) ⊎ Contains xs y → before y item ≡ false
        ahead e y (inl first) = subst (λ (z : X). before z item ≡ false) first e
        ahead e y (inr later) = order.chain y x item (falls.0 y later) e

        cases : NeverFalls (insert_by before item xs) → (b : Bool) → before x item ≡ b → NeverFalls (cond b (x ∷ insert_by before item xs) (item ∷ x ∷ xs))
        cases rest true e = (λ y h. behind e y (insert_cases item xs y h), rest)
        cases rest false e = (λ y h. ahead e y (listed_cases x xs y h), falls)

    pub sorted_falls : (items : List X) → NeverFalls (sorted_by before items)
    sorted_falls [] = tt
    sorted_falls (item ∷ items) = insert_falls item (sorted_by before items) (sorted_falls items)

    itself : (x : X) (b : Bool) → before x x ≡ b → before x x ≡ false
    itself x false e = e
    itself x true e = order.one_way x x e

    once_later : (x : X) (xs : List X) → IsOnce (x ∷ xs) → IsOnce xs
    once_later x xs once y = omega (arith, once y, sum_by-cons (λ z. cond (ties before y z) 1 0) x xs)

    counted : (p : X → Bool) (xs : List X) (y : X) → Contains xs y → p y ≡ true → 1 ≤ count_by p xs
    counted p xs y (k, inside, at) h =
        let f : X → ℕ = λ x. cond (p x) 1 0 in
        let one : f (get_or xs k y) ≡ 1 = ap f at ∙ ap (λ b. cond b 1 0) h in
        omega (arith, get_or-le-sum_by f xs k y inside, one)

    before_by : (x : X) (xs : List X) (y : X) (b : Bool) → before x y ≡ b → before y x ≡ false → IsOnce (x ∷ xs) → Contains xs y → before x y ≡ true
    before_by x xs y true e falls once h = e
    before_by x xs y false e falls once h =
        let f : X → ℕ = λ z. cond (ties before x z) 1 0 in
        let own : f x ≡ 1 = ap (λ b. cond b 1 0) (tied (before x x) (before x x) (itself x (before x x) refl) (itself x (before x x) refl)) in
        absurd (omega (arith, once x, sum_by-cons f x xs, own, counted (ties before x) xs y h (tied (before x y) (before y x) e falls)))

    -- items in order, of which no two tie, rise
    pub rises_once : (xs : List X) → NeverFalls xs → IsOnce xs → Rises xs
    rises_once [] falls once = tt
    rises_once (x ∷ xs) falls once =
        (λ y h. before_by x xs y (before x y) refl (falls.0 y h) once h, rises_once xs falls.1 (once_later x xs once))

    first_same : (x y : X) (xs ys : List X) → Rises (x ∷ xs) → Rises (y ∷ ys) → (y ≡ x) ⊎ Contains ys x → (x ≡ y) ⊎ Contains xs y → x ≡ y
    first_same x y xs ys up up2 (inl same) h = sym same
    first_same x y xs ys up up2 (inr later) (inl same) = same
    first_same x y xs ys up up2 (inr later) (inr later2) =
        let one : before y x ≡ true = up2.0 x later in
        let no : before x y ≡ false = order.one_way y x one in
        absurd (cc (up.0 y later2))

    rest_by : (x y z : X) (xs ys : List X) → Rises (x ∷ xs) → x ≡ y → Contains xs z → (y ≡ z) ⊎ Contains ys z → Contains ys z
    rest_by x y z xs ys up same h (inr later) = later
    rest_by x y z xs ys up same h (inl first) =
        let own : before x x ≡ true = subst (λ w. before x w ≡ true) (sym (same ∙ first)) (up.0 z h) in
        let no : before x x ≡ false = order.one_way x x own in
        absurd (cc)

    -- two lists that rise and have the same items are one
    pub rises_one : (xs ys : List X) → Rises xs → Rises ys → ((x : X) → Contains xs x → Contains ys x) → ((x : X) → Contains ys x → Contains xs x) → xs ≡ ys
    rises_one [] [] up up2 to from = refl
    rises_one [] (y ∷ ys) up up2 to from = absurd (let h = from y (listed_first y ys) in omega (arith, h.1))
    rises_one (x ∷ xs) [] up up2 to from = absurd (let h = to x (listed_first x xs) in omega (arith, h.1))
    rises_one (x ∷ xs) (y ∷ ys) up up2 to from =
        let same : x ≡ y = first_same x y xs ys up up2 (listed_cases y ys x (to x (listed_first x xs))) (listed_cases x xs y (from y (listed_first y ys))) in
        let rest : xs ≡ ys = rises_one xs ys up.1 up2.1
        (λ z h. rest_by x y z xs ys up same h (listed_cases y ys z (to z (listed_later x xs z h))))
        (λ z h. rest_by y x z ys xs up2 (sym same) h (listed_cases x xs z (from z (listed_later y ys z h)))) in
        ap (λ w. w ∷ xs) same ∙ ap (λ ws. y ∷ ws) rest

    far : (x : X) (xs : List X) → ((k : ℕ) (d : X) → suc k < length (x ∷ xs) → before (get_or (x ∷ xs) (suc k) d) (get_or (x ∷ xs) k d) ≡ false)
        → (k : ℕ) (d : X) → k < length xs → before (get_or xs k d) x ≡ false
    far x xs h zero d inside = h zero d (omega (arith, inside))
    far x xs h (suc k) d inside = order.chain (get_or xs (suc k) d) (get_or xs k d) x (h (suc k) d (omega (arith, inside))) (far x xs h k d (omega (arith, inside)))

    -- no item ought to come before the one just in front of it
    pub falls_nowhere : (xs : List X) → ((k : ℕ) (d : X) → suc k < length xs → before (get_or xs (suc k) d) (get_or xs k d) ≡ false) → NeverFalls xs
    falls_nowhere [] h = tt
    falls_nowhere (x ∷ xs) h =
        (λ y (k, inside, at). subst (λ z. before z x ≡ false) at (far x xs h k y inside), falls_nowhere xs (λ k d inside. h (suc k) d (omega (arith, inside))))

    -- the same items, of which no two tie, once they are in order
    pub one_order : (found sorted : List X) → IsOnce found → IsPermutation found sorted → NeverFalls sorted → sorted ≡ sorted_by before found
    one_order found sorted once moved falls =
        let same_count : IsOnce sorted = λ x.
        omega (arith, once x, sum_by-IsPermutation (λ (y : X). cond (ties before x y) 1 0) found sorted moved) in
        let count_sorted : IsOnce (sorted_by before found) = λ x.
        omega (arith, once x, sorted_count (λ (y : X). cond (ties before x y) 1 0) found) in
        rises_one sorted (sorted_by before found)
        (rises_once sorted falls same_count)
        (rises_once (sorted_by before found) (sorted_falls found) count_sorted)
        (λ x listed. sorted_to found x (Contains-permutation sorted found x (IsPermutation-sym found sorted moved) listed))
        (λ x listed. Contains-permutation found sorted x moved (sorted_from found x listed))
