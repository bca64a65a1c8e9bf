-- The visit that a message means is well formed and live, and none of its parts is actual before it
-- is on block.
use Rattle.std.proofs.Common.{◌≡◌, ℕ, zero, suc, Bool, true, false, cond, List, [], ◌∷◌, drop, refl, arith}
use Rattle.std.specs.Prelude.{◌&&◌, All, Option, Some, IfSome, find}
use Rattle.std.specs.List.{AllByRecursion, list_any}
use Rattle.std.proofs.lemmas.Bool.Decides.{nat_tests}
use Rattle.std.proofs.lemmas.List.Elements.{recursion_from_All}
use Rattle.mvt_grammar.specs.declared.message.Flight.{Flight}
use Rattle.apron_rules.specs.declared.parts.AirportParts.{AirportParts}
use Rattle.visit_effects.specs.declared.effects.Happening.{Happening}
use Rattle.visit_book.specs.declared.visits.End.{End}
use Rattle.visit_book.specs.declared.visits.End.TheVariants.{Live, Gone, Cancelled}
use Rattle.visit_book.specs.declared.visits.Part.{Part}
use Rattle.visit_book.specs.declared.visits.Visit.{Visit}
use Rattle.visit_book.specs.Changes.{has_actual_behind}
use Rattle.visit_effects.specs.Effects.{is_meant}
use Rattle.visit_book.specs.Ends.{is_live, is_open}
use Rattle.visit_book.specs.Places.{is_actual}
use Rattle.visit_book.specs.WellFormed.{IsWellFormed}

found_when : {X : Type 0} (Holds : X → Type 0) (b : Bool) (x : X) (later : Option X) → (b ≡ true → Holds x) → IfSome later Holds → IfSome (cond b (Some x) later) Holds
found_when Holds true x later h k = h refl
found_when Holds false x later h k = k

-- what holds of each element that passes the test holds of the first of them
found_holds : {X : Type 0} (Base Holds : X → Type 0) (test : X → Bool) (xs : List X) → ((x : X) → test x ≡ true → Base x → Holds x) → AllByRecursion Base xs
    → IfSome (find test xs) Holds
found_holds Base Holds test [] turn h = tt
found_holds Base Holds test (x ∷ xs) turn h =
    found_when Holds (test x) x (find test xs) (λ passed. turn x passed h.0) (found_holds Base Holds test xs turn h.1)

live_of : (end : End) → is_open end ≡ true → end ≡ Live
live_of Live is = refl
live_of Gone is = absurd (cc)
live_of Cancelled is = absurd (cc)

first_of : (a b : Bool) → (a && b) ≡ true → a ≡ true
first_of a b h = grind (arith, nat_tests)

-- the visit that is meant is one of the visits
pub meant_well_formed : (airport : AirportParts) (visits : List Visit) (moment : Happening) (flight : Flight) (day : ℕ) → All (IsWellFormed airport) visits
    → IfSome (find (is_meant moment flight day) visits) (IsWellFormed airport)
meant_well_formed airport visits moment flight day h =
    found_holds (IsWellFormed airport) (IsWellFormed airport) (is_meant moment flight day) visits (λ visit passed well. well)
    (recursion_from_All (IsWellFormed airport) visits h)

-- and live
pub meant_live : (airport : AirportParts) (visits : List Visit) (moment : Happening) (flight : Flight) (day : ℕ) → All (IsWellFormed airport) visits
    → IfSome (find (is_meant moment flight day) visits) (λ visit. visit.end ≡ Live)
meant_live airport visits moment flight day h =
    found_holds (IsWellFormed airport) (λ visit. visit.end ≡ Live) (is_meant moment flight day) visits
    (λ visit passed well. live_of visit.end (first_of (is_live visit) _ passed)) (recursion_from_All (IsWellFormed airport) visits h)

none_actual : (number : ℕ) (parts : List Part) → AllByRecursion (λ part. is_actual part.place ≡ false) parts
    → list_any (λ part. is_actual part.place) (drop number parts) ≡ false
none_actual zero [] h = refl
none_actual zero (part ∷ parts) h = rw h.0 (none_actual zero parts h.1)
none_actual (suc number) [] h = refl
none_actual (suc number) (part ∷ parts) h = none_actual number parts h.1

-- no part is actual before the visit is on block
pub planned_of : (airport : AirportParts) (visit : Visit) (number : ℕ) → IsWellFormed airport visit → visit.on_block ≡ false → has_actual_behind number visit ≡ false
planned_of airport visit number h off =
    none_actual number visit.parts (recursion_from_All (λ (part : Part). is_actual part.place ≡ false) visit.parts (h.facts off))
