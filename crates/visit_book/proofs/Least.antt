-- Each type of an airport has a least minute.
use Rattle.std.proofs.Common.{◌≡◌, ◌≤◌, ◌<◌, ℕ, zero, suc, Bool, true, false, List, [], ◌∷◌, length, refl, arith, Option, None, Some}
use Rattle.std.specs.List.{AllByRecursion, list_all}
use Rattle.std.specs.Option.{option_map}
use Rattle.std.specs.Prelude.{slice_get, slice_index_or}
use Rattle.std.proofs.lemmas.Bool.Decides.{nat_tests}
use Rattle.std.proofs.lemmas.List.Elements.{recursion_from_All}
use Rattle.std.proofs.lemmas.Option.{slice_get-get_or}
use Rattle.apron_base.specs.declared.numbers.TypeNo.{TypeNo}
use Rattle.apron_rules.specs.declared.limits.TheConstants.{MAX_LEAST}
use Rattle.apron_rules.specs.declared.parts.AirportParts.{AirportParts}
use Rattle.apron_rules.specs.declared.parts.TypeRow.{TypeRow}
use Rattle.apron_rules.specs.declared.refusals.Limit.{Limit}
use Rattle.apron_rules.specs.declared.refusals.Limit.TheVariants as limit
use Rattle.apron_rules.specs.Refusals.{airport_fault, bad_fold_of, bad_half_of, bad_span_of, first_reason, first_some, is_between, later_fault_of, limit_of, passed_limits, unknown_of, unless_kept}
use Rattle.apron_rules.specs.Rules.{IsAirport, least_of, least_of_row}
use Rattle.apron_rules.proofs.Airports.{left_none, right_none}

unmapped : {A B : Type 0} (f : A → B) (found : Option A) → option_map f found ≡ None → found ≡ None
unmapped f None none = refl
unmapped f (Some x) none = absurd (cc)

kept : (which : Limit) (b : Bool) → unless_kept which b ≡ None → b ≡ true
kept which true none = refl
kept which false none = absurd (cc)

limit_none : (airport : AirportParts) → airport_fault airport ≡ None → limit_of airport ≡ None
unfolding airport_fault later_fault_of
limit_none airport none =
    let later = right_none _ (first_reason (unknown_of airport) (bad_half_of airport) (limit_of airport) (bad_span_of airport) (bad_fold_of airport)) none in
    unmapped _ (limit_of airport) (left_none _ _ (right_none _ _ (right_none _ _ later)))

-- each of these is missing
abbrev AllNone : {A : Type 0} → List (Option A) → Type 0
AllNone [] = Unit {0}
AllNone (found ∷ others) = (found ≡ None) × AllNone others

all_none : {A : Type 0} (found : List (Option A)) → first_some found ≡ None → AllNone found
all_none [] none = tt
all_none (first ∷ others) none = (left_none first _ none, all_none others (right_none first _ none))

least_from : (airport : AirportParts) → AllNone (passed_limits airport) → list_all (λ row. is_between 1 MAX_LEAST row.least) airport.types ≡ true
least_from airport (days, (taxi_in, (tow, (frontages, (objects, (stands, (centre, (buffers, (pairs, (types, (least, none))))))))))) = kept limit.Least _ least

within_some : (low high n : ℕ) → is_between low high n ≡ true → low ≤ n
within_some low high n h = grind (arith, nat_tests)

least_some : (rows : List TypeRow) (i : ℕ) → i < length rows → list_all (λ row. is_between 1 MAX_LEAST row.least) rows ≡ true → 1 ≤ least_of_row (slice_get rows i)
least_some [] i inside h = absurd (omega arith)
least_some (row ∷ rows) zero inside h = within_some 1 MAX_LEAST row.least (grind (arith, nat_tests))
least_some (row ∷ rows) (suc i) inside h = least_some rows i (omega arith) (grind (arith, nat_tests))

-- a type of the airport has at least one least minute
pub least_of_some : (airport : AirportParts) (kind : TypeNo) → IsAirport airport → kind.0 < length airport.types → 1 ≤ least_of airport kind
least_of_some airport kind h inside = least_some airport.types kind.0 inside (least_from airport (all_none (passed_limits airport) (limit_none airport h.faultless)))

-- the same for its row
pub least_at_some : (airport : AirportParts) (kind : TypeNo) (row : TypeRow) → IsAirport airport → kind.0 < length airport.types
    → 1 ≤ (slice_index_or airport.types kind.0 row).least
least_at_some airport kind row h inside =
    let found : slice_get airport.types kind.0 ≡ Some (slice_index_or airport.types kind.0 row) = slice_get-get_or airport.types kind.0 row inside in
    let some : 1 ≤ least_of_row (slice_get airport.types kind.0) = least_of_some airport kind h inside in
    rw found at some

least_few : (rows : List TypeRow) (i : ℕ) → AllByRecursion (λ row. row.least ≤ MAX_LEAST) rows → least_of_row (slice_get rows i) ≤ MAX_LEAST
least_few [] i h = omega arith
least_few (row ∷ rows) zero h = h.0
least_few (row ∷ rows) (suc i) h = least_few rows i h.1

-- and it is at most the greatest least minutes
pub least_of_few : (airport : AirportParts) (kind : TypeNo) → IsAirport airport → least_of airport kind ≤ MAX_LEAST
least_of_few airport kind h = least_few airport.types kind.0 (recursion_from_All (λ (row : TypeRow). row.least ≤ MAX_LEAST) airport.types h.least)
