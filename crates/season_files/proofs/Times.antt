-- The times of a visit at an airport.
use Rattle.std.proofs.Common.{◌≡◌, ℕ, ◌+◌, ◌<◌, ◌≤◌, ◌^◌, true, ◌++◌, arith, Option, None, Some, IfSome}
use Rattle.std.specs.Prelude.{◌&&◌, nat_le, nat_lt, option_to_list}
use Rattle.std.specs.List.{list_all}
use Rattle.std.proofs.lemmas.Bool.{and_parts, leb-true, ltb-true}
use Rattle.apron_base.specs.Name.{IsName}
use Rattle.apron_rules.specs.Rules.{least_of}
use Rattle.apron_rules.specs.declared.parts.AirportParts.{AirportParts}
use Rattle.visit_book.specs.NewVisits.{IsNewVisitOf, is_in_time, is_key_in_time}
use Rattle.visit_book.specs.WellFormed.{plan_end}
use Rattle.visit_book.specs.declared.visits.Key.{Key}
use Rattle.visit_book.specs.declared.visits.NewVisit.{NewVisit}

-- what is written of the visit can be read
pub record IsSeasonVisit (airport : AirportParts) (new : NewVisit) : Type 0 where
  pub name : IsName new.name
  pub of_airport : IsNewVisitOf airport new

-- the days of the keys are not above the plan's
keys_in_time : (airport : AirportParts) (arr dep : Option Key) → list_all (is_key_in_time airport) (option_to_list arr ++ option_to_list dep) ≡ true
    → IfSome arr (λ key. key.day ≤ airport.days) × IfSome dep (λ key. key.day ≤ airport.days)
keys_in_time airport None None h = (tt, tt)
keys_in_time airport None (Some dep) h = (tt, leb-true _ _ (and_parts _ true h).0)
keys_in_time airport (Some arr) None h = (leb-true _ _ (and_parts _ true h).0, tt)
keys_in_time airport (Some arr) (Some dep) h =
    let both = and_parts (nat_le arr.day airport.days) (nat_le dep.day airport.days && true) h in
    (leb-true _ _ both.0, leb-true _ _ (and_parts (nat_le dep.day airport.days) true both.1).0)

pub day-within : (most least : ℕ) (key : Option Key) → least ≤ most → IfSome key (λ key. key.day ≤ least) → IfSome key (λ key. key.day ≤ most)
day-within most least None h k = tt
day-within most least (Some key) h k = omega arith

pub day-below : (most : ℕ) (key : Option Key) → IfSome key (λ key. key.day ≤ most) → most < 2 ^ 64 → IfSome key (λ key. key.day < 2 ^ 64)
day-below most None h k = tt
day-below most (Some key) h k = omega arith

-- the times of a visit at the airport
pub record AreTimes (airport : AirportParts) (new : NewVisit) : Type 0 where
  pub on : new.on < plan_end airport
  pub off : new.off ≤ plan_end airport
  pub arr : IfSome new.arr (λ key. key.day ≤ airport.days)
  pub dep : IfSome new.dep (λ key. key.day ≤ airport.days)

pub times_of : (airport : AirportParts) (new : NewVisit) → is_in_time airport new ≡ true → AreTimes airport new
times_of airport new h =
    let on = nat_lt new.on (plan_end airport) in
    let off = nat_le new.off (plan_end airport) in
    let least = nat_le (new.on + least_of airport new.kind) new.off in
    let keys = list_all (is_key_in_time airport) (option_to_list new.arr ++ option_to_list new.dep) in
    let all = and_parts (on && off && least) keys h in
    let three = and_parts (on && off) least all.0 in
    let two = and_parts on off three.0 in
    let days = keys_in_time airport new.arr new.dep all.1 in
    record { on = ltb-true _ _ two.0; off = leb-true _ _ two.1; arr = days.0; dep = days.1 }
