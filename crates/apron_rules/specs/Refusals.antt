-- Why an airport is refused: the first reason in a fixed order, and the first name that it is
-- about.
use Rattle.std.specs.Prelude.{ℕ, Bool, false, ◌&&◌, ◌||◌, not, nat_le, nat_lt, List, [], ◌∷◌, length, Option, None, Some, is_some, is_none, find, count_by, option_and_then, if◌then◌else◌}
use Rattle.std.specs.Option.{option_map, option_or}
use Rattle.std.specs.List.{list_all}
use Rattle.std.specs.Str.{bytes_eq}
use Rattle.apron_base.specs.Letter.{letter_for}
use Rattle.apron_rules.specs.declared.parts.AirportParts.{AirportParts}
use Rattle.apron_rules.specs.declared.parts.StandRow.{StandRow}
use Rattle.apron_rules.specs.declared.parts.PairRow.{PairRow}
use Rattle.apron_rules.specs.declared.parts.Frontage.{Frontage}
use Rattle.apron_rules.specs.declared.parts.TypeRow.{TypeRow}
use Rattle.apron_rules.specs.Names.{frontage_names, stand_names, type_names, is_known, is_named, first_repeated}
use Rattle.apron_rules.specs.Limits.{greatest_place, most_buffer, most_days, most_fold, most_frontages, most_halves, most_least, most_objects, most_pairs, most_stands, most_taxi_in, most_tow, most_types}
use Rattle.apron_rules.specs.declared.refusals.Limit.{Limit}
use Rattle.apron_rules.specs.declared.refusals.Limit.TheVariants as limit
use Rattle.apron_rules.specs.declared.refusals.AirportFault.{AirportFault}
use Rattle.apron_rules.specs.declared.refusals.AirportFault.TheVariants.{DuplicateName, UnknownName, BadHalf, LimitPassed, BadSpan, BadFold}

-- the first that is given
abbrev pub first_some : {A : Type 0} → List (Option A) → Option A
first_some [] = None
first_some (found ∷ others) = option_or found (first_some others)

-- a name that occurs twice among the frontages, or else among the stands, or else among the types
abbrev pub duplicate_of : AirportParts → Option (List ℕ)
duplicate_of parts =
    option_or (first_repeated (frontage_names parts))
    (option_or (first_repeated (stand_names parts)) (first_repeated (type_names parts)))

-- what f finds in the first row in which it finds something
abbrev pub first_found : {Row Found : Type 0} → (Row → Option Found) → List Row → Option Found
first_found f rows = option_and_then f (find (λ row. is_some (f row)) rows)

-- the name, if it is none of these
abbrev pub unless_known : List (List ℕ) → List ℕ → Option (List ℕ)
unless_known names name = if is_known name names then None else Some name

-- the stand's frontage, or else the stand that it is a half of, if unknown
abbrev pub unknown_of_stand : List (List ℕ) → List (List ℕ) → StandRow → Option (List ℕ)
unknown_of_stand frontages stands row =
    option_or (unless_known frontages row.frontage)
    (option_and_then (unless_known stands) row.half_of)

-- one of the two stands of the restriction, if unknown
abbrev pub unknown_of_pair : List (List ℕ) → PairRow → Option (List ℕ)
unknown_of_pair stands pair = option_or (unless_known stands pair.a) (unless_known stands pair.b)

-- a name that doesn't exist: the one of the first stand that names such a one, or else of the first
-- pair restriction
abbrev pub unknown_of : AirportParts → Option (List ℕ)
unknown_of parts =
    option_or
    (first_found (unknown_of_stand (frontage_names parts) (stand_names parts)) parts.stands)
    (first_found (unknown_of_pair (stand_names parts)) parts.pairs)

-- how many stands are halves of the stand of this name
abbrev pub halves_of : List ℕ → List StandRow → ℕ
halves_of name stands = count_by (λ row. is_named row.half_of name) stands

-- the stand is a half itself, or is on another frontage, or has more than two halves
abbrev pub is_bad_whole : List StandRow → StandRow → Option StandRow → Bool
is_bad_whole stands half None = false
is_bad_whole stands half (Some whole) =
    is_some whole.half_of || not (bytes_eq half.frontage whole.frontage)
    || nat_lt most_halves (halves_of whole.name stands)

-- the row of the stand of this name
abbrev pub stand_row_named : List StandRow → List ℕ → Option StandRow
stand_row_named stands name = find (λ row. bytes_eq name row.name) stands

-- the stand is a half, but not of a proper whole
abbrev pub is_bad_half : List StandRow → StandRow → Bool
is_bad_half stands half =
    is_bad_whole stands half (option_and_then (stand_row_named stands) half.half_of)

-- the first stand that is a half, but not of a proper whole
abbrev pub bad_half_of : AirportParts → Option (List ℕ)
bad_half_of parts = option_map (λ row. row.name) (find (is_bad_half parts.stands) parts.stands)

-- the number is not below the first and not above the second
abbrev pub is_between : ℕ → ℕ → ℕ → Bool
is_between low high number = nat_le low number && nat_le number high

-- the limit, unless it is kept
abbrev pub unless_kept : Limit → Bool → Option Limit
unless_kept which kept = if kept then None else Some which

-- a place on a frontage, within its limit
abbrev pub is_place_kept : ℕ → Bool
is_place_kept place = nat_le place greatest_place

-- few objects, each at a place within its limit
abbrev pub are_objects_kept : Frontage → Bool
are_objects_kept frontage =
    nat_le (length frontage.objects) most_objects && list_all is_place_kept frontage.objects

-- the limits in their order, each unless it is kept
abbrev pub passed_limits : AirportParts → List (Option Limit)
passed_limits parts =
    unless_kept limit.Days (is_between 1 most_days parts.days)
    ∷ unless_kept limit.TaxiIn (nat_le parts.taxi_in most_taxi_in)
    ∷ unless_kept limit.Tow (is_between 1 most_tow parts.tow)
    ∷ unless_kept limit.Frontages (nat_le (length parts.frontages) most_frontages)
    ∷ unless_kept limit.Objects (list_all are_objects_kept parts.frontages)
    ∷ unless_kept limit.Stands (is_between 1 most_stands (length parts.stands))
    ∷ unless_kept limit.Centre (list_all (λ row. is_place_kept row.centre) parts.stands)
    ∷ unless_kept limit.Buffer (list_all (λ row. nat_le row.buffer most_buffer) parts.stands)
    ∷ unless_kept limit.Pairs (nat_le (length parts.pairs) most_pairs)
    ∷ unless_kept limit.Types (is_between 1 most_types (length parts.types))
    ∷ unless_kept limit.Least (list_all (λ row. is_between 1 most_least row.least) parts.types)
    ∷ []

-- the first limit that is exceeded
abbrev pub limit_of : AirportParts → Option Limit
limit_of parts = first_some (passed_limits parts)

-- the first type whose span has no code letter
abbrev pub bad_span_of : AirportParts → Option (List ℕ)
bad_span_of parts =
    option_map (λ row. row.name) (find (λ row. is_none (letter_for row.span)) parts.types)

-- the span with folded wing tips is 1 to the wing span, and the minutes to fold are within their
-- limit
abbrev pub is_fold_kept : TypeRow → Bool
is_fold_kept row = is_between 1 row.span row.parked && nat_le row.fold most_fold

-- the first type whose folded span or minutes to fold are not within these
abbrev pub bad_fold_of : AirportParts → Option (List ℕ)
bad_fold_of parts = option_map (λ row. row.name) (find (λ row. not (is_fold_kept row)) parts.types)

-- the first reason in this order
abbrev pub first_reason : Option (List ℕ) → Option (List ℕ) → Option Limit → Option (List ℕ)
    → Option (List ℕ) → Option AirportFault
first_reason unknown half passed span fold =
    first_some (
    option_map UnknownName unknown
    ∷ option_map BadHalf half
    ∷ option_map LimitPassed passed
    ∷ option_map BadSpan span
    ∷ option_map BadFold fold
    ∷ []
    )

-- the refusals that come after that of a name that occurs twice
unfoldable pub later_fault_of : AirportParts → Option AirportFault
later_fault_of parts =
    first_reason (unknown_of parts) (bad_half_of parts) (limit_of parts)
    (bad_span_of parts) (bad_fold_of parts)

-- why the airport is refused; none if it is an airport
unfoldable pub airport_fault : AirportParts → Option AirportFault
airport_fault parts =
    option_or (option_map DuplicateName (duplicate_of parts)) (later_fault_of parts)
