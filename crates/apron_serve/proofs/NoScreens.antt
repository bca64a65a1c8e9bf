-- Serving without screens, as serving with a list of none.
use Rattle.std.proofs.Common.{◌≡◌, ◌∙◌, ℕ, Bool, true, false, List, [], ◌∷◌, ◌++◌, length, refl, sym, ap, subst, arith, Option, None, Some, if◌then◌else◌}
use Rattle.std.specs.Prelude.{IfSome, IsSome, is_some}
use Rattle.std.specs.Option.{option_and_then}
use Rattle.apron_serve.specs.Orders.{Order, may_have, order_of, order_of_words}

-- what holds of listeners that were cut in none and all of them holds of all
pub of_all : {L : Type 0} (P : List L → List L → List L → List L → Type 0) (all front desks left shown : List L) → all ≡ front ++ desks
    → length front ≡ 0 → length left ≡ 0 → P desks front shown left → P all [] (left ++ shown) []
of_all P all [] desks [] shown is none empty holds = subst (λ list. P list [] shown []) (sym is) holds
of_all P all (x ∷ front) desks left shown is none empty holds = absurd (omega arith)
of_all P all [] desks (x ∷ left) shown is none empty holds = absurd (omega arith)

-- if there is no screen none is ordered
with_none : (order : Order) (day : Option (List ℕ)) → order.day ≡ day → IfSome (if may_have 0 order.day then Some order else None) (λ order. IsSome order.day)
    → (if may_have 0 order.day then Some order else None) ≡ None
with_none order None is some =
    let test : may_have 0 order.day ≡ true = ap (may_have 0) is in
    let same : IsSome order.day = subst (λ (b : Bool). IfSome (if b then Some order else None) (λ order. IsSome order.day)) test some in
    let no : false ≡ true = ap is_some (sym is) ∙ same in absurd cc
with_none order (Some digits) is some = ap (λ (b : Bool). if b then Some order else None) (ap (may_have 0) is)

none_ordered : (order : Option Order) → IfSome (option_and_then (λ (o : Order). if may_have 0 o.day then Some o else None) order) (λ order. IsSome order.day)
    → option_and_then (λ (o : Order). if may_have 0 o.day then Some o else None) order ≡ None
none_ordered None some = refl
none_ordered (Some order) some = with_none order order.day refl some

with_listeners : (fits : Bool) (order : Option Order)
    → IfSome (if fits then option_and_then (λ (o : Order). if may_have 0 o.day then Some o else None) order else None) (λ order. IsSome order.day)
    → (if fits then option_and_then (λ (o : Order). if may_have 0 o.day then Some o else None) order else None) ≡ None
with_listeners true order some = none_ordered order some
with_listeners false order some = refl

pub no_screen_order : (words : List (List ℕ)) (listeners : ℕ) → IfSome (order_of words listeners 0) (λ order. IsSome order.day) → order_of words listeners 0 ≡ None
no_screen_order words listeners some = with_listeners _ (order_of_words words) some
