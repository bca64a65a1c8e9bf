-- How long the canonical text is.
use Rattle.std.proofs.Common.{◌≡◌, ℕ, ◌≤◌, ltb, cond, true, false, Bool, List, [], ◌∷◌, ◌++◌, length, refl, ap, Option, Some, None, inl, inr, arith, lit≤, ◌/◌, ◌%◌, length-append}
use Rattle.std.specs.Prelude.{IsTrue, IfSome, option_to_list, codes, nat_le, ◌==◌, ◌&&◌}
use Rattle.std.specs.List.{list_all, list_any}
use Rattle.std.proofs.lemmas.Bool.{and_parts, or_cases, eqb-true, leb-true}
use Rattle.mvt_grammar.specs.Bytes.{is_capital, is_station}
use Rattle.mvt_grammar.specs.Flights.{is_airline, is_airline_byte}
use Rattle.mvt_grammar.specs.Reading.{is_registration}
use Rattle.apron_base.specs.Name.{is_name}
use Rattle.mvt_grammar.specs.Canonical.{digit, two_text, number_text, flight_text, clock_text, day_text, second_text, times_text, times_words, ea_words, ed_words, heading_text, element_words, canonical}
use Rattle.mvt_grammar.specs.Led.{words_after, gap_after}
use Rattle.mvt_grammar.specs.Readable.{IsReadable, IsFlight, IsEstimate}
use Rattle.mvt_grammar.specs.declared.message.Clock.{Clock}
use Rattle.mvt_grammar.specs.declared.message.Flight.{Flight}
use Rattle.mvt_grammar.specs.declared.message.Mvt.{Mvt}
use Rattle.mvt_grammar.proofs.Written.{led-append, canonical-led}

length-cond : (b : Bool) (xs ys : List ℕ) (n : ℕ) → length xs ≤ n → length ys ≤ n → length (cond b xs ys) ≤ n
length-cond true xs ys n h k = h
length-cond false xs ys n h k = k

length-number : (n : ℕ) → length (number_text n) ≤ 4
length-number n =
    let most = two_text (n / 100) ++ two_text (n % 100) in
    let three = digit (n / 100) ∷ two_text (n % 100) in
    let one = digit n ∷ [] in
    length-cond (ltb n 10) one (cond (ltb n 100) (two_text n) (cond (ltb n 1000) three most)) 4 (lit≤ tt)
    (length-cond (ltb n 100) (two_text n) (cond (ltb n 1000) three most) 4 (lit≤ tt)
    (length-cond (ltb n 1000) three most 4 (lit≤ tt) (lit≤ tt)))

length-suffix : (o : Option ℕ) → length (option_to_list o) ≤ 1
length-suffix None = omega arith
length-suffix (Some b) = omega arith

length-day : (o : Option ℕ) → length (day_text o) ≤ 2
length-day None = omega arith
length-day (Some day) = omega arith

length-clock : (c : Clock) → length (clock_text c) ≤ 6
length-clock c =
    let day = length-day c.day in
    simp length-append (omega arith)

length-second : (o : Option Clock) → length (second_text o) ≤ 7
length-second None = omega arith
length-second (Some c) = let clock = length-clock c in omega arith

length-times : (t : Clock × Option Clock) → length (times_text t) ≤ 13
length-times t =
    let first = length-clock t.0 in
    let second = length-second t.1 in
    omega (arith, length-append (clock_text t.0) (second_text t.1))

length-times_words : (gap : ℕ) (pair : List ℕ) (o : Option (Clock × Option Clock)) → length pair ≡ 2 → length (words_after gap (times_words pair o)) ≤ 16
length-times_words gap pair None h = omega arith
length-times_words gap pair (Some t) h =
    let times = length-times t in
    omega (arith, length-append (pair ++ times_text t) [], length-append pair (times_text t))

length-station : (text : List ℕ) → IsTrue (is_station text) → length text ≡ 3
length-station text h = eqb-true (length text) 3 (and_parts (length text == 3) (list_all is_capital text) h).0

length-ea_words : (gap : ℕ) (o : Option (Clock × List ℕ)) → IfSome o IsEstimate → length (words_after gap (ea_words o)) ≤ 13
length-ea_words gap None h = omega arith
length-ea_words gap (Some e) h =
    let clock = length-clock e.0 in
    let station = length-station e.1 h.station in
    omega (arith, length-append (clock_text e.0) (32 ∷ (e.1 ++ [])), length-append e.1 [])

length-ed_words : (gap : ℕ) (o : Option Clock) → length (words_after gap (ed_words o)) ≤ 9
length-ed_words gap None = omega arith
length-ed_words gap (Some c) =
    let clock = length-clock c in
    omega (arith, length-append (clock_text c) [])

length-airline : (text : List ℕ) → IsTrue (is_airline text) → length text ≤ 3
length-airline text h = elim (or_cases (length text == 3 && list_all is_capital text) (length text == 2 && list_all is_airline_byte text && list_any is_capital text) h) [
  | inl three ↦ let n = eqb-true (length text) 3 (and_parts (length text == 3) (list_all is_capital text) three).0 in omega arith
  | inr two ↦ let n = eqb-true (length text) 2 (and_parts (length text == 2) (list_all is_airline_byte text) (and_parts (length text == 2 && list_all is_airline_byte text) (list_any is_capital text) two).0).0 in omega arith
]

length-flight : (f : Flight) → IsFlight f → length (flight_text f) ≤ 8
length-flight f h =
    let airline = length-airline f.airline h.airline in
    let number = length-number f.number in
    let suffix = length-suffix f.suffix in
    omega (arith, length-append (f.airline ++ number_text f.number) (option_to_list f.suffix), length-append f.airline (number_text f.number))

length-registration : (text : List ℕ) → IsTrue (is_registration text) → length text ≤ 10
length-registration text h = leb-true (length text) 10 (and_parts (is_name text) (nat_le (length text) 10) h).1

length-heading : (m : Mvt) → IsReadable m → length (heading_text m) ≤ 26
length-heading m h =
    let flight = length-flight m.flight h.flight in
    let registration = length-registration m.registration h.registration in
    let station = length-station m.station h.station in
    let front = flight_text m.flight ++ 47 ∷ two_text m.day in
    omega (arith, length-append (front ++ 46 ∷ m.registration) (46 ∷ m.station), length-append front (46 ∷ m.registration), length-append (flight_text m.flight) (47 ∷ two_text m.day))

length-elements : (m : Mvt) → IsReadable m → length (words_after 10 (element_words m)) ≤ 54
length-elements m h =
    let ad = times_words (codes "AD") m.ad in
    let aa = times_words (codes "AA") m.aa in
    let ea = ea_words m.ea in
    let first = led-append 10 ad (aa ++ (ea ++ ed_words m.ed)) in
    let second = led-append (gap_after 10 ad) aa (ea ++ ed_words m.ed) in
    let third = led-append (gap_after (gap_after 10 ad) aa) ea (ed_words m.ed) in
    let a = length-times_words 10 (codes "AD") m.ad refl in
    let b = length-times_words (gap_after 10 ad) (codes "AA") m.aa refl in
    let c = length-ea_words (gap_after (gap_after 10 ad) aa) m.ea h.ea in
    let d = length-ed_words (gap_after (gap_after (gap_after 10 ad) aa) ea) m.ed in
    let led_ad = words_after 10 ad in
    let led_aa = words_after (gap_after 10 ad) aa in
    let led_ea = words_after (gap_after (gap_after 10 ad) aa) ea in
    let led_ed = words_after (gap_after (gap_after (gap_after 10 ad) aa) ea) (ed_words m.ed) in
    rw (first, second, third) (omega (arith, length-append led_ad (led_aa ++ (led_ea ++ led_ed)), length-append led_aa (led_ea ++ led_ed), length-append led_ea led_ed))

-- the canonical text has at most 85 bytes
pub length-canonical : (m : Mvt) → IsReadable m → length (canonical m) ≤ 85
length-canonical m h =
    let heading = length-heading m h in
    let elements = length-elements m h in
    let led_words = words_after 10 (element_words m) in
    let written = ap length (canonical-led m) in
    omega (arith, written, length-append (heading_text m) (led_words ++ 10 ∷ []), length-append led_words (10 ∷ []))
