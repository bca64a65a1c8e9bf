-- What is asked is of the airport of the day.
use Rattle.std.proofs.Common.{◌≡◌, ℕ, zero, suc, ◌+◌, ◌<◌, ◌≤◌, List, [], ◌∷◌, length, refl, arith, lit≤, Some, None, All, inl, inr, sym, ◌∙◌}
use Rattle.std.specs.Prelude.{◌⊎◌, IsTrue, Option}
use Rattle.std.proofs.lemmas.Bool.{le-leb, lt-ltb}
use Rattle.std.proofs.lemmas.List.Elements.{All-cons, All-nil}
use Rattle.std.proofs.lemmas.List.FromFn.{length-map-range_with_len}
use Rattle.apron_base.specs.declared.numbers.TypeNo.{TypeNo}
use Rattle.apron_dates.specs.Dates.{IsFirstDay}
use Rattle.apron_rules.specs.Names.{is_station, repeated_after}
use Rattle.apron_rules.specs.Refusals.{airport_fault, later_fault_of}
use Rattle.apron_rules.specs.Rules.{least_of}
use Rattle.apron_rules.specs.declared.parts.AirportParts.{AirportParts}
use Rattle.apron_rules.specs.declared.refusals.AirportFault.{AirportFault}
use Rattle.apron_rules.specs.declared.refusals.AirportFault.TheVariants as refused
use Rattle.mvt_grammar.specs.Readable.{IsFlight}
use Rattle.mvt_grammar.specs.declared.message.Flight.{Flight}
use Rattle.visit_book.specs.Edits.{IsEditOf, most_edits}
use Rattle.visit_book.specs.NewVisits.{IsNewVisitOf}
use Rattle.visit_book.specs.declared.edits.Edit.{Edit}
use Rattle.generated_day.specs.DayAirport.{day_airport, day_stand}

abbrev kind_of : ℕ → TypeNo
kind_of k = record { 0 = k }

-- the first five types are for an hour or less
least_small : (k : ℕ) → k < 5 → least_of day_airport (kind_of k) ≤ 60
unfolding day_airport
least_small zero h = lit≤ tt
least_small (suc zero) h = lit≤ tt
least_small (suc (suc zero)) h = lit≤ tt
least_small (suc (suc (suc zero))) h = lit≤ tt
least_small (suc (suc (suc (suc zero)))) h = lit≤ tt
least_small (suc (suc (suc (suc (suc k))))) h = absurd (omega arith)

-- a visit within the bounds of the draws
pub new_of_day : (name : List ℕ) (kind class on stay : ℕ) (flight : Flight) → kind < 5 → class < 10 → on < 1330 → stay < 60 → IsFlight flight
    → IsNewVisitOf day_airport (record { name = name; kind = record { 0 = kind }; class = class; on = on; off = on + 90 + stay; arr = Some (record { flight = flight; day = 1 }); dep = None })
unfolding day_airport
new_of_day name kind class on stay flight k c o s f =
    let least = least_small kind k in
    let few : on + least_of day_airport (kind_of kind) ≤ on + 90 + stay = omega arith in
    record {
      new_visit = record { class = omega arith; arr = f; dep = tt };
      kind = omega arith;
      in_time = rw (lt-ltb on 2880 (omega arith), le-leb (on + 90 + stay) 2880 (omega arith), le-leb (on + least_of day_airport (kind_of kind)) (on + 90 + stay) few) refl;
    }

stand_count : length day_airport.stands ≡ 60
unfolding day_airport
stand_count = length-map-range_with_len day_stand 1 60

-- one edit that puts a part on a stand of the airport
pub put_of_day : (edits : List Edit) (put : Edit) → edits ≡ put ∷ [] → IsEditOf day_airport put → (1 ≤ length edits) × (length edits ≤ most_edits) × All (IsEditOf day_airport) edits
put_of_day edits put same h = rw same (lit≤ tt, lit≤ tt, All-cons (IsEditOf day_airport) put [] h (All-nil (IsEditOf day_airport)))

pub stand_of_day : (stand : ℕ) → stand < 60 → stand < length day_airport.stands
stand_of_day stand h = rw stand_count h

station_is : IsTrue (is_station day_airport.station)
unfolding day_airport
station_is = refl

first_is : IsFirstDay day_airport.first
unfolding day_airport
first_is = record { low = lit≤ tt; high = lit≤ tt; date = refl }

-- what the airport of the day is made of makes an airport
pub station_of_day : (parts : AirportParts) → parts ≡ day_airport → IsTrue (is_station parts.station)
station_of_day parts same = rw same station_is

pub first_of_day : (parts : AirportParts) → parts ≡ day_airport → IsFirstDay parts.first
first_of_day parts same = rw same first_is

-- the airport of the day has no fault
faultless : airport_fault day_airport ≡ None
unfolding day_airport airport_fault later_fault_of repeated_after
faultless = refl

-- so only a lack of memory can make it fail
pub only_memory : (parts : AirportParts) (fault : AirportFault) → parts ≡ day_airport → (fault ≡ refused.Memory) ⊎ (airport_fault parts ≡ Some fault) → fault ≡ refused.Memory
only_memory parts fault same (inl memory) = memory
only_memory parts fault same (inr why) = let never : ◌≡◌ {A = Option AirportFault} None (Some fault) = sym faultless ∙ (rw same at why) in absurd (cc)
