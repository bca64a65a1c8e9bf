-- What is read is in its range.
use Rattle.std.proofs.Common.{◌≡◌, ℕ, ◌+◌, ◌-◌, ◌*◌, ◌<◌, cond, Bool, true, false, List, length, take, drop, refl, sym, subst, Option, Some, None, arith}
use Rattle.std.specs.Prelude.{IsTrue, IfSome, nat_le, nat_lt, ◌==◌, ◌&&◌, option_and_then, slice_index}
use Rattle.std.proofs.lemmas.Bool.{and_parts, leb-true, ltb-true}
use Rattle.std.proofs.lemmas.Option.{cond_some, option_and_then_some, same_Some}
use Rattle.apron_base.proofs.SmallNumbers.{digits_small}
use Rattle.mvt_grammar.specs.Bytes.{is_capital, is_station, two_digits, split_once}
use Rattle.std.specs.Str.Parse.{digits_value}
use Rattle.mvt_grammar.specs.Clocks.{read_day, read_minute, time_without_day, time_with_day, clock_of, times_parted, times_of}
use Rattle.mvt_grammar.specs.Flights.{is_airline, airline_len, is_number, flight_with, flight_of}
use Rattle.mvt_grammar.specs.Reading.{is_registration, message_head, heading_of}
use Rattle.mvt_grammar.specs.Readable.{IsDayOfMonth, IsClock, IsFlight, AreTimes, IsReadable}
use Rattle.mvt_grammar.specs.declared.message.Clock.{Clock}
use Rattle.mvt_grammar.specs.declared.message.Flight.{Flight}
use Rattle.mvt_grammar.specs.declared.message.Mvt.{Mvt}

day-range : (text : List ℕ) (day : ℕ) → read_day text ≡ Some day → IsDayOfMonth day
day-range text day h =
    option_and_then_some (λ n. cond (nat_le 1 n && nat_le n 31) (Some n) None) (two_digits text) day h (λ n e k.
    let kept = cond_some (nat_le 1 n && nat_le n 31) n day k in
    let tests = and_parts (nat_le 1 n) (nat_le n 31) kept.0 in
    let low = leb-true 1 n tests.0 in
    let high = leb-true n 31 tests.1 in
    (omega arith, omega arith))

minute-range : (text : List ℕ) (minute : ℕ) → read_minute text ≡ Some minute → minute < 1440
minute-range text minute h =
    option_and_then_some (λ hours. option_and_then (λ minutes. cond (nat_lt hours 24 && nat_lt minutes 60) (Some (60 * hours + minutes)) None) (two_digits (drop 2 text))) (two_digits (take 2 text)) minute h (λ hours e k.
    option_and_then_some (λ minutes. cond (nat_lt hours 24 && nat_lt minutes 60) (Some (60 * hours + minutes)) None) (two_digits (drop 2 text)) minute k (λ minutes e' k'.
    let kept = cond_some (nat_lt hours 24 && nat_lt minutes 60) (60 * hours + minutes) minute k' in
    let tests = and_parts (nat_lt hours 24) (nat_lt minutes 60) kept.0 in
    let low = ltb-true hours 24 tests.0 in
    let high = ltb-true minutes 60 tests.1 in
    omega arith))

abbrev clock_at : Option ℕ → ℕ → Clock
clock_at day minute = record { day = day; minute = minute }

IsClock-at : (clock : Clock) (day : Option ℕ) (minute : ℕ) → IfSome day IsDayOfMonth → minute < 1440 → clock_at day minute ≡ clock → IsClock clock
IsClock-at clock day minute h k e = subst IsClock e (record { day = h; minute = k })

undated-range : (text : List ℕ) (clock : Clock) → time_without_day text ≡ Some clock → IsClock clock
undated-range text clock h =
    option_and_then_some (λ minute. Some (clock_at None minute)) (read_minute text) clock h (λ minute e k.
    IsClock-at clock None minute tt (minute-range text minute e) (same_Some (clock_at None minute) clock k))

dated-range : (text : List ℕ) (clock : Clock) → time_with_day text ≡ Some clock → IsClock clock
dated-range text clock h =
    option_and_then_some (λ day. option_and_then (λ minute. Some (clock_at (Some day) minute)) (read_minute (drop 2 text))) (read_day (take 2 text)) clock h (λ day e k.
    option_and_then_some (λ minute. Some (clock_at (Some day) minute)) (read_minute (drop 2 text)) clock k (λ minute e' k'.
    IsClock-at clock (Some day) minute (day-range (take 2 text) day e) (minute-range (drop 2 text) minute e') (same_Some (clock_at (Some day) minute) clock k')))

either_form : (b : Bool) (text : List ℕ) (clock : Clock) → cond b (time_with_day text) (time_without_day text) ≡ Some clock → IsClock clock
either_form true text clock h = dated-range text clock h
either_form false text clock h = undated-range text clock h

pub clock-range : (text : List ℕ) (clock : Clock) → clock_of text ≡ Some clock → IsClock clock
clock-range text clock h = either_form (length text == 6) text clock h

abbrev one_time : Clock → Clock × Option Clock
one_time clock = (clock, None)

times_parted-range : (text : List ℕ) (parts : Option (List ℕ × List ℕ)) (times : Clock × Option Clock) → times_parted text parts ≡ Some times → AreTimes times
times_parted-range text None times h =
    option_and_then_some (λ clock. Some (one_time clock)) (clock_of text) times h (λ clock e k.
    subst AreTimes (same_Some (one_time clock) times k) (record { first = clock-range text clock e; second = tt }))
times_parted-range text (Some parts) times h =
    option_and_then_some (λ first. option_and_then (λ second. Some (first, Some second)) (clock_of parts.1)) (clock_of parts.0) times h (λ first e k.
    option_and_then_some (λ second. Some (first, Some second)) (clock_of parts.1) times k (λ second e' k'.
    subst AreTimes (same_Some (first, Some second) times k') (record { first = clock-range parts.0 first e; second = clock-range parts.1 second e' })))

pub times-range : (text : List ℕ) (times : Clock × Option Clock) → times_of text ≡ Some times → AreTimes times
times-range text times h = times_parted-range text (split_once 47 text) times h

number-range : (text : List ℕ) → is_number text ≡ true → digits_value 10 text < 10000
number-range text h = digits_small text 4 h

abbrev flight_at : List ℕ → ℕ → Option ℕ → Flight
flight_at airline number suffix = record { airline = airline; number = number; suffix = suffix }

flight_with-range : (airline number : List ℕ) (suffix : Option ℕ) (flight : Flight) → IfSome suffix (λ b. IsTrue (is_capital b)) → flight_with airline number suffix ≡ Some flight → IsFlight flight
flight_with-range airline number suffix flight s h =
    let kept = cond_some (is_airline airline && is_number number) (flight_at airline (digits_value 10 number) suffix) flight h in
    let tests = and_parts (is_airline airline) (is_number number) kept.0 in
    subst IsFlight kept.1 (record { airline = tests.0; number = number-range number tests.1; suffix = s })

flight_after-range : (airline text : List ℕ) (last : ℕ) (b : Bool) (flight : Flight) → is_capital last ≡ b → cond b (flight_with airline (take (length text - 1) text) (Some last)) (flight_with airline text None) ≡ Some flight → IsFlight flight
flight_after-range airline text last true flight e h = flight_with-range airline (take (length text - 1) text) (Some last) flight e h
flight_after-range airline text last false flight e h = flight_with-range airline text None flight tt h

pub flight-range : (text : List ℕ) (flight : Flight) → flight_of text ≡ Some flight → IsFlight flight
flight-range text flight h =
    let airline = take (airline_len text) text in
    let rest = drop (airline_len text) text in
    let last = slice_index rest (length rest - 1) in
    flight_after-range airline rest last (is_capital last) flight refl h

heading_checked : (flight : Flight) (day : ℕ) (registration station : List ℕ) (message : Mvt) → IsFlight flight → IsDayOfMonth day → cond (is_registration registration && is_station station) (Some (message_head flight day registration station)) None ≡ Some message → IsReadable message
heading_checked flight day registration station message f d h =
    let kept = cond_some (is_registration registration && is_station station) (message_head flight day registration station) message h in
    let tests = and_parts (is_registration registration) (is_station station) kept.0 in
    subst IsReadable kept.1 (record { flight = f; day = d; registration = tests.0; station = tests.1; ad = tt; aa = tt; ea = tt; ed = tt })

pub heading-range : (line : List ℕ) (message : Mvt) → heading_of line ≡ Some message → IsReadable message
heading-range line message h =
    option_and_then_some (λ slash. option_and_then (λ dot. option_and_then (λ dots. option_and_then (λ flight. option_and_then (λ day. cond (is_registration dots.0 && is_station dots.1) (Some (message_head flight day dots.0 dots.1)) None) (read_day dot.0)) (flight_of slash.0)) (split_once 46 dot.1)) (split_once 46 slash.1)) (split_once 47 line) message h (λ slash e1 k1.
    option_and_then_some (λ dot. option_and_then (λ dots. option_and_then (λ flight. option_and_then (λ day. cond (is_registration dots.0 && is_station dots.1) (Some (message_head flight day dots.0 dots.1)) None) (read_day dot.0)) (flight_of slash.0)) (split_once 46 dot.1)) (split_once 46 slash.1) message k1 (λ dot e2 k2.
    option_and_then_some (λ dots. option_and_then (λ flight. option_and_then (λ day. cond (is_registration dots.0 && is_station dots.1) (Some (message_head flight day dots.0 dots.1)) None) (read_day dot.0)) (flight_of slash.0)) (split_once 46 dot.1) message k2 (λ dots e3 k3.
    option_and_then_some (λ flight. option_and_then (λ day. cond (is_registration dots.0 && is_station dots.1) (Some (message_head flight day dots.0 dots.1)) None) (read_day dot.0)) (flight_of slash.0) message k3 (λ flight e4 k4.
    option_and_then_some (λ day. cond (is_registration dots.0 && is_station dots.1) (Some (message_head flight day dots.0 dots.1)) None) (read_day dot.0) message k4 (λ day e5 k5.
    heading_checked flight day dots.0 dots.1 message (flight-range slash.0 flight e4) (day-range dot.0 day e5) k5)))))

pub IfSome-flight : (text : List ℕ) (o : Option Flight) → o ≡ flight_of text → IfSome o IsFlight
IfSome-flight text None h = tt
IfSome-flight text (Some flight) h = flight-range text flight (sym h)
