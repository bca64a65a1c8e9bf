-- A stable sort of a list is the list in order, for any order.
use Rattle.std.proofs.Common.{◌≡◌, ◌∙◌, ◌<◌, ◌≤◌, ◌⊎◌, inl, inr, ℕ, suc, Bool, true, false, not, ◌&&◌, cond, List, [], ◌∷◌, refl, sym, ap, subst, arith, length, get_or}
use Rattle.std.specs.Prelude.{Contains, filter}
use Rattle.std.specs.Cmp.{IsStrictWeakOrder}
use Rattle.std.specs.List.Sorted.{IsSortedBy, IsStableBy, ties}
use Rattle.std.proofs.lemmas.List.Sorted.{sorted_far}
use Rattle.apron_base.specs.Sorting.{insert_by, sorted_by}
use Rattle.apron_base.proofs.Sorting.{NeverFalls, listed_cases, listed_first, listed_later, sorted_falls}

module _ {X : Type 0} (lt : X → X → Bool) (o : IsStrictWeakOrder lt) where
  -- what a sort ensures of neighbours
  falls_nowhere : (xs : List X) → ((i j : ℕ) (d : X) → i ≤ j → j < length xs → lt (get_or xs j d) (get_or xs i d) ≡ false) → NeverFalls lt xs
  falls_nowhere [] h = tt
  falls_nowhere (x ∷ xs) h = (
    λ y (k, inside, at). subst (λ z. lt z x ≡ false) at (h 0 (suc k) y (omega arith) (omega (arith, inside))),
    falls_nowhere xs (λ i j d less inside. h (suc i) (suc j) d (omega (arith, less)) (omega (arith, inside))),
  )

  itself : (x : X) (b : Bool) → lt x x ≡ b → b ≡ false
  itself x false e = refl
  itself x true e = sym e ∙ o.one_way x x e

  tied_itself : (x : X) → ties lt x x ≡ true
  tied_itself x = let own : lt x x ≡ false = itself x (lt x x) refl in rw own refl

  tied : (x y : X) → lt x y ≡ false → lt y x ≡ false → ties lt x y ≡ true
  tied x y e f = rw (e, f) refl

  tied_by : (p q : Bool) → (not p && not q) ≡ true → (p ≡ false) × (q ≡ false)
  tied_by false false e = (refl, refl)
  tied_by false true e = absurd (cc)
  tied_by true q e = absurd (cc)

  -- items that tie with one tie with each other
  tied_both : (x y z : X) → ties lt x y ≡ true → ties lt x z ≡ true → lt y z ≡ false
  tied_both x y z e f = o.chain y x z (tied_by (lt x y) (lt y x) e).1 (tied_by (lt x z) (lt z x) f).0

  passed_over : (x : X) (f : Bool) (g : Bool) (first item : X) (others : List X) → ties lt x first ≡ f → ties lt x item ≡ g → lt first item ≡ true
      → cond f (first ∷ cond g (item ∷ others) others) (cond g (item ∷ others) others) ≡ cond g (item ∷ cond f (first ∷ others) others) (cond f (first ∷ others) others)
  passed_over x true true first item others e h before = let no : lt first item ≡ false = tied_both x first item e h in absurd (cc)
  passed_over x true false first item others e h before = refl
  passed_over x false true first item others e h before = refl
  passed_over x false false first item others e h before = refl

  insert_stable : (x item : X) (xs : List X) → filter (ties lt x) (insert_by lt item xs) ≡ filter (ties lt x) (item ∷ xs)
  insert_stable x item [] = refl
  insert_stable x item (first ∷ others) = cases (insert_stable x item others) (lt first item) refl
    where
      cases : filter (ties lt x) (insert_by lt item others) ≡ filter (ties lt x) (item ∷ others) → (b : Bool) → lt first item ≡ b
          → filter (ties lt x) (cond b (first ∷ insert_by lt item others) (item ∷ first ∷ others)) ≡ filter (ties lt x) (item ∷ first ∷ others)
      cases rest true e =
          ap (λ (ys : List X). cond (ties lt x first) (first ∷ ys) ys) rest
          ∙ passed_over x (ties lt x first) (ties lt x item) first item (filter (ties lt x) others) refl refl e
      cases rest false e = refl

  -- items that tie stay in their order
  sorted_stable : (x : X) (xs : List X) → filter (ties lt x) (sorted_by lt xs) ≡ filter (ties lt x) xs
  sorted_stable x [] = refl
  sorted_stable x (y ∷ ys) =
      insert_stable x y (sorted_by lt ys) ∙ ap (λ (zs : List X). cond (ties lt x y) (y ∷ zs) zs) (sorted_stable x ys)

  passed_listed : (p : X → Bool) (xs : List X) (y : X) → Contains (filter p xs) y → Contains xs y
  passed_listed p [] y h = h
  passed_listed p (x ∷ xs) y h = cases (λ k. passed_listed p xs y k) (p x) h
    where
      cases : (Contains (filter p xs) y → Contains xs y) → (b : Bool) → Contains (cond b (x ∷ filter p xs) (filter p xs)) y → Contains (x ∷ xs) y
      cases rest true k = elim (listed_cases x (filter p xs) y k) [
        | inl first ↦ subst (Contains (x ∷ xs)) first (listed_first x xs)
        | inr later ↦ listed_later x xs y (rest later)
      ]
      cases rest false k = listed_later x xs y (rest k)

  -- an item that ties with itself and is at the head of one list is at the head of the other, or
  -- before nothing there
  head_of : (y : X) (ys : List X) → filter (ties lt y) (y ∷ ys) ≡ y ∷ filter (ties lt y) ys
  head_of y ys = let own = tied_itself y in rw own refl

  found_in : (y z : X) (ys zs : List X) (b : Bool) → ties lt y z ≡ b → y ∷ filter (ties lt y) ys ≡ cond b (z ∷ filter (ties lt y) zs) (filter (ties lt y) zs)
      → (y ≡ z) ⊎ Contains zs y
  found_in y z ys zs true e same = inl (cc)
  found_in y z ys zs false e same = inr (passed_listed (ties lt y) zs y (subst (λ (ws : List X). Contains ws y) same (listed_first y (filter (ties lt y) ys))))

  rest_same : (x y : X) (b : Bool) (ys zs : List X) → cond b (y ∷ ys) ys ≡ cond b (y ∷ zs) zs → ys ≡ zs
  rest_same x y true ys zs e = cc
  rest_same x y false ys zs e = e

  first_same : (y z : X) (ys zs : List X) → NeverFalls lt (y ∷ ys) → NeverFalls lt (z ∷ zs) → ((x : X) → filter (ties lt x) (y ∷ ys) ≡ filter (ties lt x) (z ∷ zs))
      → (y ≡ z) ⊎ Contains zs y → (z ≡ y) ⊎ Contains ys z → y ≡ z
  first_same y z ys zs falls falls2 same (inl e) h = e
  first_same y z ys zs falls falls2 same (inr later) (inl e) = sym e
  first_same y z ys zs falls falls2 same (inr later) (inr later2) =
      let tie : ties lt y z ≡ true = tied y z (falls2.0 y later) (falls.0 z later2) in
      let heads : y ∷ filter (ties lt y) ys ≡ cond (ties lt y z) (z ∷ filter (ties lt y) zs) (filter (ties lt y) zs) = sym (head_of y ys) ∙ same y in
      let both : y ∷ filter (ties lt y) ys ≡ z ∷ filter (ties lt y) zs = rw tie at heads in
      cc

  -- two lists that never fall, and have the items that tie in the same order, are the same
  pub sorted_one : (ys zs : List X) → NeverFalls lt ys → NeverFalls lt zs → ((x : X) → filter (ties lt x) ys ≡ filter (ties lt x) zs) → ys ≡ zs
  sorted_one [] [] falls falls2 same = refl
  sorted_one [] (z ∷ zs) falls falls2 same = let none : [] ≡ z ∷ filter (ties lt z) zs = same z ∙ head_of z zs in absurd (cc)
  sorted_one (y ∷ ys) [] falls falls2 same = let none : y ∷ filter (ties lt y) ys ≡ [] = sym (head_of y ys) ∙ same y in absurd (cc)
  sorted_one (y ∷ ys) (z ∷ zs) falls falls2 same =
      let one : y ≡ z = first_same y z ys zs falls falls2 same
      (found_in y z ys zs (ties lt y z) refl (sym (head_of y ys) ∙ same y))
      (found_in z y zs ys (ties lt z y) refl (sym (head_of z zs) ∙ sym (same z))) in
      let rest : ys ≡ zs = sorted_one ys zs falls.1 falls2.1 (λ x. rest_same x y (ties lt x y) (filter (ties lt x) ys) (filter (ties lt x) zs)
      (same x ∙ ap (λ (w : X). cond (ties lt x w) (w ∷ filter (ties lt x) zs) (filter (ties lt x) zs)) (sym one))) in
      ap (λ w. w ∷ ys) one ∙ ap (λ ws. z ∷ ws) rest

  -- what a stable sort leaves is the list in order
  pub sorted_is : (xs ys : List X) → IsSortedBy lt ys → IsStableBy lt xs ys → ys ≡ sorted_by lt xs
  sorted_is xs ys up stable =
      sorted_one ys (sorted_by lt xs) (falls_nowhere ys (sorted_far lt o ys up)) (sorted_falls lt o xs) (λ x. stable x ∙ sym (sorted_stable x xs))
