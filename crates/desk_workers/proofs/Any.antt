-- `Any` of a list, by its parts.
use Rattle.std.proofs.Common.{◌⊎◌, zero, suc, List, [], ◌∷◌, ◌++◌, refl, sym, subst, inl, inr, ⊎_elim, arith}
use Rattle.std.specs.List.{Any}

module _ {X : Type 0} (P : X → Type 0) where
  pub any_here : (x : X) (xs : List X) → P x → Any P (x ∷ xs)
  any_here x xs p = (0, x, omega arith, refl, p)

  pub any_there : (x : X) (xs : List X) → Any P xs → Any P (x ∷ xs)
  any_there x xs any = (suc any.0, any.1, (let few = any.2 in omega arith), any.3, any.4)

  pub any_none : Any P [] → ⊥
  any_none any = let few = any.2 in absurd (omega arith)

  pub any_cons : (x : X) (xs : List X) → Any P (x ∷ xs) → P x ⊎ Any P xs
  any_cons x xs (zero, y, few, is, p) = inl (subst P (sym is) p)
  any_cons x xs (suc k, y, few, is, p) = inr (k, y, omega arith, is, p)

  pub any_append : (xs ys : List X) → Any P (xs ++ ys) → Any P xs ⊎ Any P ys
  any_append [] ys any = inr any
  any_append (x ∷ xs) ys any = ⊎_elim
      (λ (here : P x). inl (any_here x xs here))
      (λ (rest : Any P (xs ++ ys)). ⊎_elim (λ (front : Any P xs). inl (any_there x xs front)) (λ (back : Any P ys). inr back) (any_append xs ys rest))
      (any_cons x (xs ++ ys) any)
