-- A season file that is written is read back.
use Rattle.std.proofs.Common.{◌≡◌, ℕ, zero, suc, ◌+◌, ◌<◌, ◌≤◌, ◌^◌, List, [], ◌∷◌, ◌++◌, length, map, refl, ap, subst, arith, Some, Ok, All, add-one}
use Rattle.std.specs.List.{filter, flat_map, AllByRecursion}
use Rattle.std.proofs.lemmas.List.{length-append}
use Rattle.std.proofs.lemmas.List.Elements.{All-filter, All-map, All-weaker, recursion_from_All}
use Rattle.apron_rules.specs.Rules.{IsAirport}
use Rattle.apron_rules.specs.declared.parts.AirportParts.{AirportParts}
use Rattle.csv.specs.Machine.{next_record}
use Rattle.csv.specs.Reading.{default_config, records_from, strip_bom}
use Rattle.csv.specs.declared.parser.State.TheVariants as st
use Rattle.csv.proofs.RoundTrip.{read-write-many}
use Rattle.csv_records.specs.Tables.{each_from, rows_from, table_of}
use Rattle.visit_book.specs.NewVisits.{new_of}
use Rattle.visit_book.specs.declared.visits.NewVisit.{NewVisit}
use Rattle.visit_book.specs.declared.visits.Visit.{Visit}
use Rattle.season_files.specs.Laws.{HasName, IsVisitOf, SeasonIsReadBack}
use Rattle.season_files.specs.Records.{visit_of_fields}
use Rattle.season_files.specs.Seasons.{season_in, visits_after}
use Rattle.season_files.specs.Texts.{columns, is_uncancelled, line, season_of, season_text, visit_fields, visit_line}
use Rattle.season_files.proofs.Lines.{header_row, plain-fields, visit_row}
use Rattle.season_files.proofs.Numbers.{key-back, name-back, number-back, small-back}
use Rattle.season_files.proofs.Times.{IsSeasonVisit, day-within, times_of}
use Rattle.season_files.proofs.TypeNames.{type-back, type_row}

module _ (airport : AirportParts) (is : IsAirport airport) (named : All HasName airport.types) where
  -- the fields of a visit give that visit
  visit-back : (new : NewVisit) → IsSeasonVisit airport new → visit_of_fields airport (visit_fields airport new) ≡ Some new
  unfolding visit_of_fields
  visit-back new h =
      let times = times_of airport new h.of_airport.in_time in
      let row = type_row airport new.kind named h.of_airport.kind in
      let days = is.days in
      let class = h.of_airport.new_visit.class in
      let on : new.on < 10 ^ 9 = omega (arith, times.on) in
      let off : new.off < 10 ^ 9 = omega (arith, times.off) in
      rw (
        name-back new.name h.name,
        type-back airport new.kind row.0 is.faultless row.1,
        small-back 9 new.class class (omega arith),
        number-back new.on on,
        number-back new.off off,
        key-back new.arr h.of_airport.new_visit.arr (day-within 255 airport.days new.arr (omega arith) times.arr),
        key-back new.dep h.of_airport.new_visit.dep (day-within 255 airport.days new.dep (omega arith) times.dep),
        h.of_airport.in_time,
      ) refl

  -- the records of the lines, with any number of turns that is large enough
  lines-back : (visits : List NewVisit) (turns : ℕ) → AllByRecursion (IsSeasonVisit airport) visits → length visits ≤ turns
      → records_from default_config turns st.StartRecord (flat_map (visit_line airport) visits) ≡ map (visit_fields airport) visits
  unfolding records_from next_record
  lines-back [] zero all h = refl
  lines-back [] (suc n) all h = refl
  lines-back (new ∷ visits) zero all h = absurd (omega arith)
  lines-back (new ∷ visits) (suc n) all h =
      let row = type_row airport new.kind named all.0.of_airport.kind in
      rw (← visit_row airport new (plain-fields airport is new row.0 all.0 row.1), read-write-many _ _ _ (flat_map (visit_line airport) visits))
      (ap (λ more. visit_fields airport new ∷ more) (lines-back visits n all.1 (omega arith)))

  visits-back : (visits : List NewVisit) (k : ℕ) → AllByRecursion (IsSeasonVisit airport) visits → rows_from (visit_of_fields airport) k (map (visit_fields airport) visits) ≡ Ok visits
  unfolding each_from
  visits-back [] k all = refl
  visits-back (new ∷ visits) k all = rw (visit-back new all.0, visits-back visits (k + 1) all.1) refl

some_bytes : (fields : List (List ℕ)) → 1 ≤ length (line fields)
some_bytes fields = omega (arith, length-append {A = ℕ})

lines-length : (airport : AirportParts) (visits : List NewVisit) → length visits ≤ length (flat_map (visit_line airport) visits)
unfolding visit_line
lines-length airport [] = omega arith
lines-length airport (new ∷ visits) =
    omega (arith, length-append (visit_line airport new) (flat_map (visit_line airport) visits), some_bytes (visit_fields airport new), lines-length airport visits)

no_mark : (lines : List ℕ) → strip_bom (line columns ++ lines) ≡ line columns ++ lines
unfolding strip_bom
no_mark lines = refl

-- the records of a text, with any number of turns that is large enough
text-records : (airport : AirportParts) (visits : List NewVisit) (turns : ℕ) → IsAirport airport → All HasName airport.types → AllByRecursion (IsSeasonVisit airport) visits → length visits ≤ turns
    → records_from default_config (turns + 1) st.StartRecord (strip_bom (season_text airport visits)) ≡ columns ∷ map (visit_fields airport) visits
unfolding season_text records_from
text-records airport visits turns is named all h =
    let lines = flat_map (visit_line airport) visits in
    let read : next_record default_config st.StartRecord [] [] (line columns ++ lines) ≡ Some (columns, st.StartRecord, lines) = subst (λ t. next_record default_config st.StartRecord [] [] (t ++ lines) ≡ Some (columns, st.StartRecord, lines)) header_row (read-write-many _ _ _ lines) in
    rw (add-one, no_mark lines, read) (ap (λ more. columns ∷ more) (lines-back airport is named visits turns all h))

text-length : (airport : AirportParts) (visits : List NewVisit) → length visits ≤ length (season_text airport visits)
unfolding season_text
text-length airport visits = omega (arith, length-append (line columns) (flat_map (visit_line airport) visits), lines-length airport visits)

header-first : (airport : AirportParts) (rows : List (List (List ℕ))) → table_of (visits_after airport) (columns ∷ rows) ≡ rows_from (visit_of_fields airport) 2 rows
unfolding table_of
header-first airport rows = refl

text-back : (airport : AirportParts) (visits : List NewVisit) → IsAirport airport → All HasName airport.types → AllByRecursion (IsSeasonVisit airport) visits → season_in airport (season_text airport visits) ≡ Ok visits
text-back airport visits is named all =
    rw (text-records airport visits (length (season_text airport visits)) is named all (text-length airport visits), header-first airport (map (visit_fields airport) visits)) (visits-back airport is named visits 2 all)

season_visit : (airport : AirportParts) (visit : Visit) → IsVisitOf airport visit → IsSeasonVisit airport (new_of visit)
season_visit airport visit h = record { name = h.name; of_airport = h.new }

pub season-back : SeasonIsReadBack
season-back airport visits is named all =
    let each = All-weaker (IsVisitOf airport) (λ visit. IsSeasonVisit airport (new_of visit)) (season_visit airport) visits all in
    let live = All-map (IsSeasonVisit airport) new_of (filter is_uncancelled visits) (All-filter is_uncancelled (λ visit. IsSeasonVisit airport (new_of visit)) visits each) in
    text-back airport (season_of visits) is named (recursion_from_All (IsSeasonVisit airport) (season_of visits) live)
