-- Times that are written are read back.
use Rattle.std.proofs.Common.{◌≡◌, ℕ, ◌+◌, ◌*◌, ◌/◌, ◌%◌, ◌≤◌, ◌<◌, cond, true, false, List, ◌∷◌, ◌++◌, refl, ap, ◌∙◌, Option, Some, None, arith}
use Rattle.std.specs.Prelude.{IfSome, ◌&&◌, nat_le, nat_lt, option_and_then, slice_index}
use Rattle.std.specs.List.{list_all}
use Rattle.std.proofs.lemmas.Bool.{and_from, le-leb, lt-ltb}
use Rattle.std.proofs.lemmas.List.{append-nil}
use Rattle.mvt_grammar.specs.Bytes.{is_capital, is_digit, two_digits}
use Rattle.mvt_grammar.specs.Clocks.{read_day, read_minute, clock_of, times_parted, times_of}
use Rattle.mvt_grammar.specs.Canonical.{two_text, day_text, clock_text, times_text}
use Rattle.mvt_grammar.specs.Readable.{IsDayOfMonth, IsClock, AreTimes}
use Rattle.mvt_grammar.specs.declared.message.Clock.{Clock}
use Rattle.mvt_grammar.proofs.Digits.{digit-not_capital, two_text-digits, two_digits-back}
use Rattle.mvt_grammar.proofs.Parts.{lacks-kind, list_all-both, parted-at, parted-none}

pub day_of-back : (day : ℕ) → IsDayOfMonth day → read_day (two_text day) ≡ Some day
day_of-back day h =
    let low : 1 ≤ day = h.0 in
    let high : day ≤ 31 = h.1 in
    let tests = and_from (nat_le 1 day) (nat_le day 31) (le-leb 1 day low) (le-leb day 31 high) in
    ap (option_and_then (λ n. cond (nat_le 1 n && nat_le n 31) (Some n) None)) (two_digits-back day (omega arith)) ∙ ap (λ t. cond t (Some day) None) tests

minute_of-back : (minute : ℕ) → minute < 1440 → read_minute (two_text (minute / 60) ++ two_text (minute % 60)) ≡ Some minute
minute_of-back minute h =
    let hours = minute / 60 in
    let minutes = minute % 60 in
    let low : minute / 60 < 24 = omega arith in
    let high : minute % 60 < 60 = omega arith in
    let tests = and_from (nat_lt hours 24) (nat_lt minutes 60) (lt-ltb hours 24 low) (lt-ltb minutes 60 high) in
    let value : 60 * (minute / 60) + minute % 60 ≡ minute = omega arith in
    ap (option_and_then (λ n. option_and_then (λ k. cond (nat_lt n 24 && nat_lt k 60) (Some (60 * n + k)) None) (two_digits (two_text minutes)))) (two_digits-back hours (omega arith))
    ∙ ap (option_and_then (λ k. cond (nat_lt hours 24 && nat_lt k 60) (Some (60 * hours + k)) None)) (two_digits-back minutes (omega arith))
    ∙ ap (λ t. cond t (Some (60 * hours + minutes)) None) tests
    ∙ ap Some value

abbrev clock_at : Option ℕ → ℕ → Clock
clock_at day minute = record { day = day; minute = minute }

clock_at-back : (day : Option ℕ) (minute : ℕ) → IfSome day IsDayOfMonth → minute < 1440 → clock_of (clock_text (clock_at day minute)) ≡ Some (clock_at day minute)
clock_at-back None minute h k = ap (option_and_then (λ m. Some (clock_at None m))) (minute_of-back minute k)
clock_at-back (Some day) minute h k =
    ap (option_and_then (λ d. option_and_then (λ m. Some (clock_at (Some d) m)) (read_minute (two_text (minute / 60) ++ two_text (minute % 60))))) (day_of-back day h)
    ∙ ap (option_and_then (λ m. Some (clock_at (Some day) m))) (minute_of-back minute k)

pub clock_of-back : (clock : Clock) → IsClock clock → clock_of (clock_text clock) ≡ Some clock
clock_of-back clock h = clock_at-back clock.day clock.minute h.day h.minute

day_text-digits : (day : Option ℕ) → IfSome day IsDayOfMonth → list_all is_digit (day_text day) ≡ true
day_text-digits None h = refl
day_text-digits (Some day) h = let high : day ≤ 31 = h.1 in two_text-digits day (omega arith)

pub clock_text-digits : (clock : Clock) → IsClock clock → list_all is_digit (clock_text clock) ≡ true
clock_text-digits clock h =
    let small : clock.minute < 1440 = h.minute in
    list_all-both is_digit (day_text clock.day ++ two_text (clock.minute / 60)) (two_text (clock.minute % 60))
    (list_all-both is_digit (day_text clock.day) (two_text (clock.minute / 60)) (day_text-digits clock.day h.day) (two_text-digits (clock.minute / 60) (omega arith)))
    (two_text-digits (clock.minute % 60) (omega arith))

-- a time begins with a digit
clock_at-first : (day : Option ℕ) (minute : ℕ) (more : List ℕ) → IfSome day IsDayOfMonth → minute < 1440 → is_capital (slice_index (clock_text (clock_at day minute) ++ more) 0) ≡ false
clock_at-first None minute more h k = digit-not_capital (minute / 60 / 10) (omega arith)
clock_at-first (Some day) minute more h k = let high : day ≤ 31 = h.1 in digit-not_capital (day / 10) (omega arith)

pub clock_text-first : (clock : Clock) (more : List ℕ) → IsClock clock → is_capital (slice_index (clock_text clock ++ more) 0) ≡ false
clock_text-first clock more h = clock_at-first clock.day clock.minute more h.day h.minute

times_at-back : (first : Clock) (second : Option Clock) → IsClock first → IfSome second IsClock → times_of (times_text (first, second)) ≡ Some (first, second)
times_at-back first None h k =
    let text = clock_text first in
    ap times_of (append-nil text)
    ∙ ap (times_parted text) (parted-none 47 text (lacks-kind is_digit 47 text refl (clock_text-digits first h)))
    ∙ ap (option_and_then (λ clock. Some (clock, None))) (clock_of-back first h)
times_at-back first (Some second) h k =
    let front = clock_text first in
    let rest = clock_text second in
    ap (times_parted (front ++ 47 ∷ rest)) (parted-at 47 front rest (lacks-kind is_digit 47 front refl (clock_text-digits first h)))
    ∙ ap (option_and_then (λ a. option_and_then (λ b. Some (a, Some b)) (clock_of rest))) (clock_of-back first h)
    ∙ ap (option_and_then (λ b. Some (first, Some b))) (clock_of-back second k)

pub times_of-back : (times : Clock × Option Clock) → AreTimes times → times_of (times_text times) ≡ Some times
times_of-back times h = times_at-back times.0 times.1 h.first h.second
