-- The lines of a season file, one after the other.
use Rattle.std.proofs.Common.{◌≡◌, ℕ, ◌+◌, ◌<◌, ◌^◌, cond, true, false, List, [], ◌∷◌, ◌++◌, length, codes, decimal, map, take, get_or, refl, ap, ◌∙◌, append_assoc, arith, Some}
use Rattle.std.specs.Prelude.{IfSome}
use Rattle.std.specs.List.{flat_map}
use Rattle.std.proofs.lemmas.Grind.{flat_map-append}
use Rattle.std.proofs.lemmas.List.{append-nil, map-append}
use Rattle.std.proofs.lemmas.List.Elements.{filter_more}
use Rattle.apron_base.specs.Name.{IsName}
use Rattle.apron_rules.specs.Rules.{IsAirport}
use Rattle.apron_rules.specs.declared.parts.AirportParts.{AirportParts}
use Rattle.apron_rules.specs.declared.parts.TypeRow.{TypeRow}
use Rattle.csv.specs.Writing.{default_writer, row_text}
use Rattle.visit_book.specs.NewVisits.{HasFlight, new_of}
use Rattle.visit_book.specs.declared.visits.NewVisit.{NewVisit}
use Rattle.visit_book.specs.declared.visits.Visit.{Visit}
use Rattle.season_files.specs.Texts.{columns, day_field, flight_field, is_uncancelled, line, name_of_type, season_of, season_text, visit_fields, visit_line}
use Rattle.season_files.proofs.Plain.{ArePlain, day-plain, decimal-plain, flight-plain, name-plain, row-plain}
use Rattle.season_files.proofs.Times.{IsSeasonVisit, day-below, times_of}
use Rattle.season_files.proofs.TypeNames.{IsRowOf, name_of_type-is}

-- what makes the fields of a visit plain
pub record HasPlainFields (airport : AirportParts) (new : NewVisit) : Type 0 where
  pub name : IsName new.name
  pub kind : IsName (name_of_type airport new.kind)
  pub class : new.class < 2 ^ 64
  pub on : new.on < 2 ^ 64
  pub off : new.off < 2 ^ 64
  pub arr : IfSome new.arr HasFlight
  pub dep : IfSome new.dep HasFlight
  pub arr_day : IfSome new.arr (λ key. key.day < 2 ^ 64)
  pub dep_day : IfSome new.dep (λ key. key.day < 2 ^ 64)

-- a visit of an airport, of a type with a name, has such fields
pub plain-fields : (airport : AirportParts) → IsAirport airport → (new : NewVisit) (row : TypeRow) → IsSeasonVisit airport new → IsRowOf airport new.kind row → HasPlainFields airport new
plain-fields airport is new row h at =
    let times = times_of airport new h.of_airport.in_time in
    let days = is.days in
    let class = h.of_airport.new_visit.class in
    record {
      name = h.name;
      kind = rw (name_of_type-is airport new.kind row at.at) at.name;
      class = omega arith;
      on = omega (arith, times.on);
      off = omega (arith, times.off);
      arr = h.of_airport.new_visit.arr;
      dep = h.of_airport.new_visit.dep;
      arr_day = day-below airport.days new.arr times.arr (omega arith);
      dep_day = day-below airport.days new.dep times.dep (omega arith);
    }

-- the header as it is written
pub header_row : row_text default_writer columns ≡ line columns
header_row =
    let plain : ArePlain columns = (refl, (refl, (refl, (refl, (refl, (refl, (refl, (refl, (refl, tt))))))))) in
    row-plain (codes "name") (codes "type") (codes "class" ∷ codes "on" ∷ codes "off" ∷ codes "arr" ∷ codes "arrday" ∷ codes "dep" ∷ codes "depday" ∷ []) plain

-- the record of a visit as it is written
pub visit_row : (airport : AirportParts) (new : NewVisit) → HasPlainFields airport new → row_text default_writer (visit_fields airport new) ≡ visit_line airport new
unfolding visit_line
visit_row airport new h =
    let plain : ArePlain (visit_fields airport new) = (
      name-plain _ h.name,
      (
        name-plain _ h.kind,
        (
          decimal-plain _ h.class,
          (
            decimal-plain _ h.on,
            (
              decimal-plain _ h.off,
              (flight-plain _ h.arr, (day-plain _ h.arr_day, (flight-plain _ h.dep, (day-plain _ h.dep_day, tt)))),
            ),
          ),
        ),
      ),
    ) in
    row-plain new.name (name_of_type airport new.kind) (decimal new.class ∷ decimal new.on ∷ decimal new.off ∷ flight_field new.arr ∷ day_field new.arr ∷ flight_field new.dep ∷ day_field new.dep ∷ []) plain

-- the same for fields that are those of the visit
pub fields_row : (airport : AirportParts) (new : NewVisit) (name kind class on off arr arr_day dep dep_day : List ℕ) → name ≡ new.name → kind ≡ name_of_type airport new.kind → class ≡ decimal new.class → on ≡ decimal new.on → off ≡ decimal new.off
    → arr ≡ flight_field new.arr → arr_day ≡ day_field new.arr → dep ≡ flight_field new.dep → dep_day ≡ day_field new.dep → HasPlainFields airport new
    → row_text default_writer (name ∷ kind ∷ class ∷ on ∷ off ∷ arr ∷ arr_day ∷ dep ∷ dep_day ∷ []) ≡ visit_line airport new
fields_row airport new name kind class on off arr arr_day dep dep_day n k c b e a x d y h = rw (n, k, c, b, e, a, x, d, y) (visit_row airport new h)

pub text-none : (airport : AirportParts) → season_text airport [] ≡ line columns
unfolding season_text
text-none airport = append-nil (line columns)

text-append : (airport : AirportParts) (before after : List NewVisit) → season_text airport (before ++ after) ≡ season_text airport before ++ flat_map (visit_line airport) after
unfolding season_text
text-append airport before after = rw (flat_map-append (visit_line airport) before after, append_assoc (line columns))

season-more : (visits : List Visit) (i : ℕ) (visit : Visit) → i < length visits → season_of (take (i + 1) visits) ≡ season_of (take i visits) ++ map new_of (cond (is_uncancelled (get_or visits i visit)) (get_or visits i visit ∷ []) [])
season-more visits i visit h = ap (map new_of) (filter_more is_uncancelled visits i visit h) ∙ map-append new_of _ _

-- one more visit, which isn't cancelled
pub text-more : (airport : AirportParts) (visits : List Visit) (i : ℕ) (visit : Visit) → i < length visits → visit ≡ get_or visits i visit → is_uncancelled visit ≡ true
    → season_text airport (season_of (take (i + 1) visits)) ≡ season_text airport (season_of (take i visits)) ++ visit_line airport (new_of visit)
text-more airport visits i visit h here live =
    rw (season-more visits i visit h, ← here, live) (text-append airport (season_of (take i visits)) (new_of visit ∷ []) ∙ ap (λ t. season_text airport (season_of (take i visits)) ++ t) (append-nil (visit_line airport (new_of visit))))

-- one more visit, which is cancelled
pub text-same : (airport : AirportParts) (visits : List Visit) (i : ℕ) (visit : Visit) → i < length visits → visit ≡ get_or visits i visit → is_uncancelled visit ≡ false
    → season_text airport (season_of (take (i + 1) visits)) ≡ season_text airport (season_of (take i visits))
text-same airport visits i visit h here cancelled =
    rw (season-more visits i visit h, ← here, cancelled) (ap (season_text airport) (append-nil (season_of (take i visits))))

-- what was written, and one more line
pub grown : (old new so_far here after : List ℕ) → Some old ≡ Some so_far → new ≡ old ++ here → after ≡ so_far ++ here → Some new ≡ Some after
grown old new so_far here after e f g = let was : old ≡ so_far = cc in rw (f, was, g) refl
