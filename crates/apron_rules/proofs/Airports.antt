-- Parts that are refused for no reason are an airport.
use Rattle.std.proofs.Common.{◌≡◌, ◌<◌, ◌≤◌, ℕ, Bool, true, false, List, [], ◌∷◌, length, refl, arith, Option, None, Some}
use Rattle.std.specs.Prelude.{IsTrue, nat_le, find, is_none, not}
use Rattle.apron_base.specs.Letter.{letter_for}
use Rattle.std.specs.Option.{option_map, option_or}
use Rattle.std.specs.List.{list_all, AllByRecursion}
use Rattle.std.proofs.lemmas.Bool.Decides.{nat_tests}
use Rattle.std.proofs.lemmas.List.Elements.{All-from_recursion}
use Rattle.apron_dates.specs.Dates.{IsFirstDay}
use Rattle.apron_rules.specs.declared.parts.AirportParts.{AirportParts}
use Rattle.apron_rules.specs.declared.parts.Frontage.{Frontage}
use Rattle.apron_rules.specs.declared.parts.StandRow.{StandRow}
use Rattle.apron_rules.specs.declared.parts.TypeRow.{TypeRow}
use Rattle.apron_rules.specs.Limits.{most_buffer, most_days, most_least, most_objects, most_stands, most_tow, most_types}
use Rattle.apron_rules.specs.declared.refusals.Limit.{Limit}
use Rattle.apron_rules.specs.declared.refusals.Limit.TheVariants as limit
use Rattle.apron_rules.specs.declared.refusals.AirportFault.TheVariants.{UnknownName, BadHalf, LimitPassed, BadSpan, BadFold}
use Rattle.apron_rules.specs.Names.{is_station, frontage_names, stand_names, first_repeated}
use Rattle.apron_rules.specs.Refusals.{duplicate_of, unknown_of, bad_half_of, limit_of, bad_fold_of, bad_span_of, is_fold_kept, first_reason, first_some, later_fault_of, airport_fault, passed_limits, unless_kept, is_between, are_objects_kept}
use Rattle.apron_rules.specs.Rules.{IsAirport}

pub left_none : {A : Type 0} (o p : Option A) → option_or o p ≡ None → o ≡ None
left_none None p h = refl
left_none (Some x) p h = absurd (cc)

pub right_none : {A : Type 0} (o p : Option A) → option_or o p ≡ None → p ≡ None
right_none None p h = h
right_none (Some x) p h = absurd (cc)

unmapped : {A B : Type 0} (f : A → B) (o : Option A) → option_map f o ≡ None → o ≡ None
unmapped f None h = refl
unmapped f (Some x) h = absurd (cc)

kept : (which : Limit) (b : Bool) → unless_kept which b ≡ None → b ≡ true
kept which true h = refl
kept which false h = absurd (cc)

each : {X : Type 0} (P : X → Type 0) (p : X → Bool) (xs : List X) → ((x : X) → p x ≡ true → P x) → list_all p xs ≡ true → AllByRecursion P xs
each P p [] f h = tt
each P p (x ∷ xs) f h = (f x (grind (arith, nat_tests)), each P p xs f (grind (arith, nat_tests)))

-- no limit is exceeded
pub record IsLimited (parts : AirportParts) : Type 0 where
  pub days : is_between 1 most_days parts.days ≡ true
  pub tow : is_between 1 most_tow parts.tow ≡ true
  pub objects : list_all are_objects_kept parts.frontages ≡ true
  pub stands : is_between 1 most_stands (length parts.stands) ≡ true
  pub buffers : list_all (λ row. nat_le row.buffer most_buffer) parts.stands ≡ true
  pub types : is_between 1 most_types (length parts.types) ≡ true
  pub least : list_all (λ row. is_between 1 most_least row.least) parts.types ≡ true

-- none is given
abbrev AllNone : {A : Type 0} → List (Option A) → Type 0
AllNone [] = Unit {0}
AllNone (found ∷ others) = (found ≡ None) × AllNone others

all_none : {A : Type 0} (found : List (Option A)) → first_some found ≡ None → AllNone found
all_none [] none = tt
all_none (first ∷ others) none = (left_none first _ none, all_none others (right_none first _ none))

limited_from : (parts : AirportParts) → AllNone (passed_limits parts) → IsLimited parts
limited_from parts (days, (taxi_in, (tow, (frontages, (objects, (stands, (centre, (buffers, (pairs, (types, (least, none))))))))))) = record {
  days = kept limit.Days _ days;
  tow = kept limit.Tow _ tow;
  objects = kept limit.Objects _ objects;
  stands = kept limit.Stands _ stands;
  buffers = kept limit.Buffer _ buffers;
  types = kept limit.Types _ types;
  least = kept limit.Least _ least;
}

limited : (parts : AirportParts) → limit_of parts ≡ None → IsLimited parts
limited parts none = limited_from parts (all_none (passed_limits parts) none)

limit_none : (parts : AirportParts) → airport_fault parts ≡ None → limit_of parts ≡ None
unfolding airport_fault later_fault_of
limit_none parts h =
    let later = right_none _ (first_reason (unknown_of parts) (bad_half_of parts) (limit_of parts) (bad_span_of parts) (bad_fold_of parts)) h in
    let third = right_none _ _ (right_none _ _ later) in
    unmapped _ (limit_of parts) (left_none _ _ third)

-- each name that is looked up is known
pub unknown_none : (parts : AirportParts) → airport_fault parts ≡ None → unknown_of parts ≡ None
unfolding airport_fault later_fault_of
unknown_none parts h =
    let later = right_none _ (first_reason (unknown_of parts) (bad_half_of parts) (limit_of parts) (bad_span_of parts) (bad_fold_of parts)) h in
    unmapped _ (unknown_of parts) (left_none _ _ later)

-- no name of a stand occurs twice
pub stands_once : (parts : AirportParts) → airport_fault parts ≡ None → first_repeated (stand_names parts) ≡ None
unfolding airport_fault
stands_once parts h =
    let once = unmapped _ (duplicate_of parts) (left_none _ (later_fault_of parts) h) in
    left_none (first_repeated (stand_names parts)) _ (right_none (first_repeated (frontage_names parts)) _ once)

within : (low high n : ℕ) → is_between low high n ≡ true → n ≤ high
within low high n h = grind (arith, nat_tests)

pub airport_of : (parts : AirportParts) → IsTrue (is_station parts.station) → IsFirstDay parts.first → airport_fault parts ≡ None → IsAirport parts
airport_of parts station first none =
    let l = limited parts (limit_none parts none) in
    record {
      station = station;
      first = first;
      faultless = none;
      stands = within 1 most_stands _ l.stands;
      types = within 1 most_types _ l.types;
      days = within 1 most_days _ l.days;
      tow = within 1 most_tow _ l.tow;
      least = All-from_recursion _ _ (each (λ (row : TypeRow). row.least ≤ most_least) _ parts.types (λ row h. within 1 most_least row.least h) l.least);
      buffers = All-from_recursion _ _ (each (λ (row : StandRow). row.buffer ≤ most_buffer) _ parts.stands (λ row h. grind (arith, nat_tests)) l.buffers);
      objects = All-from_recursion _ _ (each (λ (f : Frontage). length f.objects ≤ most_objects) _ parts.frontages (λ f h. grind (arith, nat_tests)) l.objects);
    }

-- none of the reasons after a name that occurs twice
reasons_none : (parts : AirportParts) → airport_fault parts ≡ None
    → AllNone (option_map UnknownName (unknown_of parts) ∷ option_map BadHalf (bad_half_of parts) ∷ option_map LimitPassed (limit_of parts) ∷ option_map BadSpan (bad_span_of parts) ∷ option_map BadFold (bad_fold_of parts) ∷ [])
unfolding airport_fault later_fault_of
reasons_none parts h =
    all_none (option_map UnknownName (unknown_of parts) ∷ option_map BadHalf (bad_half_of parts) ∷ option_map LimitPassed (limit_of parts) ∷ option_map BadSpan (bad_span_of parts) ∷ option_map BadFold (bad_fold_of parts) ∷ [])
    (right_none _ (first_reason (unknown_of parts) (bad_half_of parts) (limit_of parts) (bad_span_of parts) (bad_fold_of parts)) h)

-- each type has a letter
pub spans_known : (parts : AirportParts) → airport_fault parts ≡ None → find (λ (row : TypeRow). is_none (letter_for row.span)) parts.types ≡ None
spans_known parts h =
    unmapped (λ (row : TypeRow). row.name) (find (λ (row : TypeRow). is_none (letter_for row.span)) parts.types) (unmapped BadSpan (bad_span_of parts) (reasons_none parts h).1.1.1.0)

-- each type folds its wing tips to a span of at most its own
pub folds_kept : (parts : AirportParts) → airport_fault parts ≡ None → find (λ (row : TypeRow). not (is_fold_kept row)) parts.types ≡ None
folds_kept parts h =
    unmapped (λ (row : TypeRow). row.name) (find (λ (row : TypeRow). not (is_fold_kept row)) parts.types) (unmapped BadFold (bad_fold_of parts) (reasons_none parts h).1.1.1.1.0)

-- there is a type
pub some_type : (parts : AirportParts) → airport_fault parts ≡ None → 0 < length parts.types
some_type parts h = let kept = (limited parts (limit_none parts h)).types in grind (arith, nat_tests)
