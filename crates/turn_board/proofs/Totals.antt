-- Totals over seats, and numbers below a bound.
use Rattle.std.proofs.Common.{◌≡◌, ◌≢◌, ℕ, zero, suc, ◌+◌, ◌<◌, ◌≤◌, List, [], ◌∷◌, ◌++◌, length, set, Option, Some, None, sym, ap, ◌∙◌, refl, arith}
use mathlib.Core.Logic.{dite}
use mathlib.Core.Option.{some, some-injective, some-ne-none}
use native.Mathlib.Decide.{ℕ_discrete}
use lib.ListN.{get_elem?}
use Rattle.std.proofs.lemmas.Bool.Decides.{nat_tests}
use Rattle.std.specs.List.{Any}
use Rattle.apron_base.specs.Histories.{Every}
use Rattle.turn_board.specs.declared.view.Call.{Call}
use Rattle.turn_board.specs.Totals.{below, same, times, total}

-- an option has one value
pub same_inside : {X : Type 0} {o : Option X} (x y : X) → o ≡ Some x → o ≡ Some y → x ≡ y
same_inside {X} x y a b = ap (inner x) (sym a ∙ b)
  where
    inner : X → Option X → X
    inner d (Some z) = z
    inner d None = d

pub below_suc : (x n : ℕ) → below x (n + 1) ≡ below x n + same x n
below_suc x n = grind (arith, nat_tests)

pub below_more : (x n m : ℕ) → n ≤ m → below x n ≤ below x m
below_more x n m h = grind (arith, nat_tests)

pub below_here : (n m : ℕ) → n < m → below n m ≡ 1
below_here n m h = grind (arith, nat_tests)

pub not_below : (n m : ℕ) → m ≤ n → below n m ≡ 0
not_below n m h = grind (arith, nat_tests)

pub below_most : (n m : ℕ) → below n m ≤ 1
below_most n m = grind (arith, nat_tests)

pub same_here : (n : ℕ) → same n n ≡ 1
same_here n = grind (arith, nat_tests)

pub times_append : {E : Type 0} (x : ℕ) (cs ds : List (Call E)) → times x (cs ++ ds) ≡ times x cs + times x ds
times_append x [] ds = omega arith
times_append x (c ∷ cs) ds = let h = times_append x cs ds in omega arith

-- if a number was called, one of the calls has it
pub called : {E : Type 0} (x : ℕ) (cs : List (Call E)) → 0 < times x cs → Any (λ (c : Call E). c.number ≡ x) cs
called x [] more = absurd (omega arith)
called x (c ∷ cs) more = dite (ℕ_discrete c.number x) (λ (e : c.number ≡ x). (0, c, omega arith, refl, e))
    (λ (ne : c.number ≢ x). let a : same x c.number ≡ 0 = grind (arith, nat_tests) in let rest = called x cs (omega arith) in (suc rest.0, rest.1, (let b = rest.2 in omega arith), rest.3, rest.4))

module _ {V : Type 0} where
  pub total_set : (f : V → ℕ) (views : List V) (j : ℕ) (v w : V) → get_elem? views j ≡ some v → total f (set views j w) + f v ≡ total f views + f w
  total_set f [] j v w e = absurd (some-ne-none v (sym e))
  total_set f (x ∷ xs) zero v w e = let h : f x ≡ f v = ap f (some-injective x v e) in omega arith
  total_set f (x ∷ xs) (suc j) v w e = let h = total_set f xs j v w e in omega arith

  pub total_snoc : (f : V → ℕ) (views : List V) (w : V) → total f (views ++ w ∷ []) ≡ total f views + f w
  total_snoc f [] w = omega arith
  total_snoc f (x ∷ xs) w = let h = total_snoc f xs w in omega arith

  pub total_le : (f g : V → ℕ) (views : List V) → ((j : ℕ) (v : V) → get_elem? views j ≡ some v → f v ≤ g v) → total f views ≤ total g views
  total_le f g [] h = omega arith
  total_le f g (x ∷ xs) h = let a : f x ≤ g x = h 0 x refl in let b = total_le f g xs (λ j v e. h (suc j) v e) in omega arith

  -- the same, and the seat i makes the difference that it has
  pub total_apart : (f g : V → ℕ) (views : List V) (i : ℕ) (u : V) → get_elem? views i ≡ some u → ((j : ℕ) (v : V) → get_elem? views j ≡ some v → f v ≤ g v) → total f views + g u ≤ total g views + f u
  total_apart f g [] i u e h = absurd (some-ne-none u (sym e))
  total_apart f g (x ∷ xs) zero u e h = let is : x ≡ u = some-injective x u e in let a : f x ≡ f u = ap f is in let b : g x ≡ g u = ap g is in let c = total_le f g xs (λ j v k. h (suc j) v k) in omega arith
  total_apart f g (x ∷ xs) (suc i) u e h = let a : f x ≤ g x = h 0 x refl in let c = total_apart f g xs i u e (λ j v k. h (suc j) v k) in omega arith

  pub total_at : (f : V → ℕ) (views : List V) (i : ℕ) (u : V) → get_elem? views i ≡ some u → f u ≤ total f views
  total_at f [] i u e = absurd (some-ne-none u (sym e))
  total_at f (x ∷ xs) zero u e = let a : f x ≡ f u = ap f (some-injective x u e) in omega arith
  total_at f (x ∷ xs) (suc i) u e = let c = total_at f xs i u e in omega arith

module _ {X : Type 0} where
  pub every_append : (P : X → Type 0) (xs ys : List X) → Every P xs → Every P ys → Every P (xs ++ ys)
  every_append P [] ys a b = b
  every_append P (x ∷ xs) ys a b = (a.0, every_append P xs ys a.1 b)

  pub every_more : (P Q : X → Type 0) → ((x : X) → P x → Q x) → (xs : List X) → Every P xs → Every Q xs
  every_more P Q f [] a = tt
  every_more P Q f (x ∷ xs) a = (f x a.0, every_more P Q f xs a.1)

  pub every_rest : (P : X → Type 0) (xs ys : List X) → Every P (xs ++ ys) → Every P ys
  every_rest P [] ys a = a
  every_rest P (x ∷ xs) ys a = every_rest P xs ys a.1

  pub every_front : (P : X → Type 0) (xs ys : List X) → Every P (xs ++ ys) → Every P xs
  every_front P [] ys a = tt
  every_front P (x ∷ xs) ys a = (a.0, every_front P xs ys a.1)

  -- if P and Q hold of every element, so does what follows from both
  pub every_both : (P Q R : X → Type 0) → ((x : X) → P x → Q x → R x) → (xs : List X) → Every P xs → Every Q xs → Every R xs
  every_both P Q R f [] a b = tt
  every_both P Q R f (x ∷ xs) a b = (f x a.0 b.0, every_both P Q R f xs a.1 b.1)

  pub every_always : (P : X → Type 0) → ((x : X) → P x) → (xs : List X) → Every P xs
  every_always P f [] = tt
  every_always P f (x ∷ xs) = (f x, every_always P f xs)

module _ {V : Type 0} where
  pub total_two : (f : V → ℕ) (views : List V) (i j : ℕ) (u v : V) → j ≢ i → get_elem? views i ≡ some u → get_elem? views j ≡ some v → f u + f v ≤ total f views
  total_two f [] i j u v n e h = absurd (some-ne-none u (sym e))
  total_two f (x ∷ xs) zero zero u v n e h = absurd (n refl)
  total_two f (x ∷ xs) zero (suc j) u v n e h = let a : f x ≡ f u = ap f (some-injective x u e) in let b = total_at f xs j v h in omega arith
  total_two f (x ∷ xs) (suc i) zero u v n e h = let a : f x ≡ f v = ap f (some-injective x v h) in let b = total_at f xs i u e in omega arith
  total_two f (x ∷ xs) (suc i) (suc j) u v n e h = let a = total_two f xs i j u v (λ k. n (ap suc k)) e h in omega arith

  pub total_only : (f : V → ℕ) (views : List V) (i : ℕ) (u : V) → get_elem? views i ≡ some u → ((j : ℕ) (v : V) → j ≢ i → get_elem? views j ≡ some v → f v ≡ 0) → total f views ≡ f u
  total_only f [] i u e h = absurd (some-ne-none u (sym e))
  total_only f (x ∷ xs) zero u e h = let a : f x ≡ f u = ap f (some-injective x u e) in let b = total_none f xs (λ j v k. h (suc j) v (λ z. omega arith) k) in omega arith
    where
      total_none : (f : V → ℕ) (views : List V) → ((j : ℕ) (v : V) → get_elem? views j ≡ some v → f v ≡ 0) → total f views ≡ 0
      total_none f [] h = refl
      total_none f (x ∷ xs) h = let a : f x ≡ 0 = h 0 x refl in let b = total_none f xs (λ j v k. h (suc j) v k) in omega arith
  total_only f (x ∷ xs) (suc i) u e h = let a : f x ≡ 0 = h 0 x (λ z. omega arith) refl in let b = total_only f xs i u e (λ j v ne k. h (suc j) v (λ z. ne (omega arith)) k) in omega arith

  pub set_at : (l : List V) (i : ℕ) (v w : V) → get_elem? l i ≡ some v → get_elem? (set l i w) i ≡ some w
  set_at [] i v w e = absurd (some-ne-none v (sym e))
  set_at (x ∷ xs) zero v w e = refl
  set_at (x ∷ xs) (suc i) v w e = set_at xs i v w e

-- of two beginnings of one list, the shorter begins the longer, and what follows the longer follows
-- the shorter too
pub later_rest : {E : Type 0} (xs ys a b : List E) → xs ++ a ≡ ys ++ b → length xs ≤ length ys → (mid : List E) × (ys ≡ xs ++ mid) × (a ≡ mid ++ b)
later_rest [] ys a b e h = (ys, refl, e)
later_rest (x ∷ xs) [] a b e h = absurd (omega arith)
later_rest {E} (x ∷ xs) (y ∷ ys) a b e h =
    let tails : xs ++ a ≡ ys ++ b = ap tail e in
    let r = later_rest xs ys a b tails (omega arith) in
    let heads : y ≡ x = ap (head y) (sym e) in
    (r.0, (λ i. heads i ∷ r.1 i), r.2)
  where
    tail : List E → List E
    tail [] = []
    tail (z ∷ zs) = zs

    head : E → List E → E
    head d [] = d
    head d (z ∷ zs) = z
