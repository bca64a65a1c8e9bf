-- The canonical text of a message is read as the message.
use Rattle.std.proofs.Common.{◌≡◌, ℕ, ◌+◌, ◌≤◌, cond, ltb, true, false, List, [], ◌∷◌, ◌++◌, length, refl, ap, ◌∙◌, sym, Option, Some, None, Result, Ok, Err, inl, inr, arith, append_assoc}
use Rattle.std.specs.Prelude.{IfSome, ◌&&◌, ◌==◌, not, codes, nat_le, slice_index, option_and_then}
use Rattle.std.specs.List.{list_all, flat_map, join_with_byte}
use Rattle.std.proofs.lemmas.Bool.{or_cases, and_parts, and_from, le-ltb, lt-ltb, leb-true, eqb-true}
use Rattle.std.proofs.lemmas.List.{append-nil}
use Rattle.apron_base.specs.Name.{is_name, is_name_byte}
use Rattle.mvt_grammar.specs.Bytes.{is_capital, is_digit, is_station, split_once}
use Rattle.apron_base.specs.OptionChain.{◌>>=◌}
use Rattle.mvt_grammar.specs.Clocks.{read_day}
use Rattle.mvt_grammar.specs.Flights.{is_airline_byte, flight_of}
use Rattle.mvt_grammar.specs.Pieces.{piece, placed_texts, is_empty, lines_of, words_of}
use Rattle.mvt_grammar.specs.Words.{begins, begins_element, marks_of_words, marks_of_line}
use Rattle.mvt_grammar.specs.Reading.{◌>>-◌, is_registration, message_head, heading_of, with_heading, after_heading, with_marks, read_lines, read_mvt_of}
use Rattle.mvt_grammar.specs.Canonical.{two_text, flight_text, clock_text, second_text, times_text, times_words, ea_words, ed_words, element_words, element_lines, heading_text, canonical}
use Rattle.mvt_grammar.specs.Led.{words_after}
use Rattle.mvt_grammar.specs.Readable.{IsClock, AreTimes, IsEstimate, IsReadable}
use Rattle.mvt_grammar.specs.declared.message.Clock.{Clock}
use Rattle.mvt_grammar.specs.declared.message.Mvt.{Mvt}
use Rattle.mvt_grammar.specs.declared.message.MvtFault.{MvtFault}
use Rattle.mvt_grammar.specs.declared.message.MvtFault.TheVariants.{TooLong}
use Rattle.mvt_grammar.specs.declared.words.Mark.TheVariants.{End}
use Rattle.mvt_grammar.proofs.Names.{list_all-wider}
use Rattle.mvt_grammar.proofs.Parts.{lacks-kind, list_all-both, parted-at}
use Rattle.mvt_grammar.proofs.Digits.{two_text-digits}
use Rattle.mvt_grammar.proofs.ClocksBack.{day_of-back, clock_text-digits, clock_text-first}
use Rattle.mvt_grammar.proofs.FlightsBack.{flight_of-back, flight_text-bytes}
use Rattle.mvt_grammar.proofs.LinesBack.{is_visible, IsWord, AreWords, AreWords-append, IsLine, AreLines, IsLine-word, IsLine-join, words_of-join, lines_of-written}
use Rattle.mvt_grammar.proofs.MarksBack.{ad-reads, aa-reads, ea-reads, ed-reads}
use Rattle.mvt_grammar.proofs.Written.{join-led}
use Rattle.mvt_grammar.proofs.Lengths.{length-canonical}

-- each kind of byte that is written is visible
above : (low b : ℕ) → 33 ≤ low → nat_le low b ≡ true → is_visible b ≡ true
above low b h k = let more = leb-true low b k in lt-ltb 32 b (omega arith)

digit_visible : (b : ℕ) → is_digit b ≡ true → is_visible b ≡ true
digit_visible b h = above 48 b (omega arith) (and_parts (nat_le 48 b) (nat_le b 57) h).0

capital_visible : (b : ℕ) → is_capital b ≡ true → is_visible b ≡ true
capital_visible b h = above 65 b (omega arith) (and_parts (nat_le 65 b) (nat_le b 90) h).0

airline_visible : (b : ℕ) → is_airline_byte b ≡ true → is_visible b ≡ true
airline_visible b h = elim (or_cases (is_capital b) (is_digit b) h) [
  | inl c ↦ capital_visible b c
  | inr d ↦ digit_visible b d
]

name_visible : (b : ℕ) → is_name_byte b ≡ true → is_visible b ≡ true
name_visible b h = elim (or_cases (is_airline_byte b) (b == 45) h) [
  | inl c ↦ airline_visible b c
  | inr d ↦ let same = eqb-true b 45 d in lt-ltb 32 b (omega arith)
]

-- the words of the elements
digits_visible : (text : List ℕ) → list_all is_digit text ≡ true → list_all is_visible text ≡ true
digits_visible text h = list_all-wider is_digit is_visible digit_visible text h

clock_visible : (clock : Clock) → IsClock clock → list_all is_visible (clock_text clock) ≡ true
clock_visible clock h = digits_visible (clock_text clock) (clock_text-digits clock h)

second_visible : (second : Option Clock) → IfSome second IsClock → list_all is_visible (second_text second) ≡ true
second_visible None h = refl
second_visible (Some clock) h = clock_visible clock h

times_visible : (times : Clock × Option Clock) → AreTimes times → list_all is_visible (times_text times) ≡ true
times_visible times h = list_all-both is_visible (clock_text times.0) (second_text times.1) (clock_visible times.0 h.first) (second_visible times.1 h.second)

station_word : (text : List ℕ) → is_station text ≡ true → IsWord text
station_word [] h = cc
station_word (b ∷ bs) h = record { some = refl; visible = list_all-wider is_capital is_visible capital_visible (b ∷ bs) (and_parts (length (b ∷ bs) == 3) (list_all is_capital (b ∷ bs)) h).1 }

ad_words : (ad : Option (Clock × Option Clock)) → IfSome ad AreTimes → AreWords (times_words (codes "AD") ad)
ad_words None h = tt
ad_words (Some times) h = (record { some = refl; visible = times_visible times h }, tt)

aa_words : (aa : Option (Clock × Option Clock)) → IfSome aa AreTimes → AreWords (times_words (codes "AA") aa)
aa_words None h = tt
aa_words (Some times) h = (record { some = refl; visible = times_visible times h }, tt)

estimate_words : (ea : Option (Clock × List ℕ)) → IfSome ea IsEstimate → AreWords (ea_words ea)
estimate_words None h = tt
estimate_words (Some estimate) h = (record { some = refl; visible = clock_visible estimate.0 h.clock }, (station_word estimate.1 h.station, tt))

departure_words : (ed : Option Clock) → IfSome ed IsClock → AreWords (ed_words ed)
departure_words None h = tt
departure_words (Some clock) h = (record { some = refl; visible = clock_visible clock h }, tt)

elements_words : (message : Mvt) → IsReadable message → AreWords (element_words message)
elements_words message h =
    let ad = times_words (codes "AD") message.ad in
    let aa = times_words (codes "AA") message.aa in
    let ea = ea_words message.ea in
    let ed = ed_words message.ed in
    AreWords-append ad (aa ++ (ea ++ ed)) (ad_words message.ad h.ad) (AreWords-append aa (ea ++ ed) (aa_words message.aa h.aa) (AreWords-append ea ed (estimate_words message.ea h.ea) (departure_words message.ed h.ed)))

-- a word that begins an element line, whatever follows it
pub record Opens (word : List ℕ) : Type 0 where
  pub goes_on : (more : List ℕ) → begins (word ++ more) (codes "SI") ≡ false
  pub element : (more : List ℕ) → begins_element (word ++ more) ≡ true

abbrev FirstOpens : List (List ℕ) → Type 0
FirstOpens [] = Unit {0}
FirstOpens (word ∷ words) = Opens word

FirstOpens-append : (xs ys : List (List ℕ)) → FirstOpens xs → FirstOpens ys → FirstOpens (xs ++ ys)
FirstOpens-append [] ys h k = k
FirstOpens-append (x ∷ xs) ys h k = h

times_first : (times : Clock × Option Clock) (more : List ℕ) → AreTimes times → is_capital (slice_index (times_text times ++ more) 0) ≡ false
times_first times more h = ap (λ t. is_capital (slice_index t 0)) (append_assoc (clock_text times.0) (second_text times.1) more) ∙ clock_text-first times.0 (second_text times.1 ++ more) h.first

ad_opens : (ad : Option (Clock × Option Clock)) → IfSome ad AreTimes → FirstOpens (times_words (codes "AD") ad)
ad_opens None h = tt
ad_opens (Some times) h = record { goes_on = λ more. refl; element = λ more. ap not (times_first times more h) }

aa_opens : (aa : Option (Clock × Option Clock)) → IfSome aa AreTimes → FirstOpens (times_words (codes "AA") aa)
aa_opens None h = tt
aa_opens (Some times) h = record { goes_on = λ more. refl; element = λ more. ap not (times_first times more h) }

ea_opens : (ea : Option (Clock × List ℕ)) → IfSome ea IsEstimate → FirstOpens (ea_words ea)
ea_opens None h = tt
ea_opens (Some estimate) h = record { goes_on = λ more. refl; element = λ more. ap not (clock_text-first estimate.0 more h.clock) }

ed_opens : (ed : Option Clock) → IfSome ed IsClock → FirstOpens (ed_words ed)
ed_opens None h = tt
ed_opens (Some clock) h = record { goes_on = λ more. refl; element = λ more. ap not (clock_text-first clock more h) }

elements_open : (message : Mvt) → IsReadable message → FirstOpens (element_words message)
elements_open message h =
    let ad = times_words (codes "AD") message.ad in
    let aa = times_words (codes "AA") message.aa in
    let ea = ea_words message.ea in
    let ed = ed_words message.ed in
    FirstOpens-append ad (aa ++ (ea ++ ed)) (ad_opens message.ad h.ad) (FirstOpens-append aa (ea ++ ed) (aa_opens message.aa h.aa) (FirstOpens-append ea ed (ea_opens message.ea h.ea) (ed_opens message.ed h.ed)))

-- the lines after the flight line give the marks of the words
line_marks : (at : ℕ) (words : List (List ℕ)) → AreWords words → FirstOpens words → flat_map marks_of_line (placed_texts at (element_lines words ++ [] ∷ [])) ≡ marks_of_words (placed_texts at words)
line_marks at [] h k = refl
line_marks at (word ∷ words) h k =
    let line = join_with_byte 32 (word ∷ words) in
    let joined = join-led word words in
    let goes_on : begins line (codes "SI") ≡ false = ap (λ t. begins t (codes "SI")) joined ∙ k.goes_on (words_after 32 words) in
    let element : begins_element line ≡ true = ap begins_element joined ∙ k.element (words_after 32 words) in
    append-nil (marks_of_line (piece at line))
    ∙ ap (λ t. cond t (End ∷ []) (cond (begins_element line) (marks_of_words (words_of (piece at line))) [])) goes_on
    ∙ ap (λ t. cond t (marks_of_words (words_of (piece at line))) []) element
    ∙ ap marks_of_words (words_of-join at word words h.0 h.1)

-- the elements of a message, read onto its heading, give the message
elements_read : (message : Mvt) (at : ℕ) → IsReadable message → with_marks (message_head message.flight message.day message.registration message.station) (marks_of_words (placed_texts at (element_words message))) ≡ Ok message
elements_read message at h =
    let aa = times_words (codes "AA") message.aa in
    let ea = ea_words message.ea in
    let ed = ed_words message.ed in
    let heading = message_head message.flight message.day message.registration message.station in
    let first = ad-reads heading at message.ad (aa ++ (ea ++ ed)) refl h.ad in
    let with_ad : Mvt = record heading { ad = message.ad } in
    let second = aa-reads with_ad first.place message.aa (ea ++ ed) refl h.aa in
    let with_aa : Mvt = record with_ad { aa = message.aa } in
    let third = ea-reads with_aa second.place message.ea ed refl h.ea in
    let with_ea : Mvt = record with_aa { ea = message.ea } in
    let fourth = ed-reads with_ea third.place message.ed refl h.ed in
    first.same ∙ second.same ∙ third.same ∙ fourth.same

not_empty : (xs : List ℕ) (y : ℕ) (ys : List ℕ) → is_empty (xs ++ y ∷ ys) ≡ false
not_empty [] y ys = refl
not_empty (x ∷ xs) y ys = refl

registration_bytes : (text : List ℕ) → is_registration text ≡ true → list_all is_name_byte text ≡ true
registration_bytes text h = (and_parts (nat_le 1 (length text) && nat_le (length text) 12) (list_all is_name_byte text) (and_parts (is_name text) (nat_le (length text) 10) h).0).1

heading_word : (message : Mvt) → IsReadable message → IsWord (heading_text message)
heading_word message h =
    let flight = flight_text message.flight in
    let day : message.day ≤ 31 = h.day.1 in
    let front = flight ++ 47 ∷ two_text message.day in
    let front_visible = list_all-both is_visible flight (47 ∷ two_text message.day) (list_all-wider is_airline_byte is_visible airline_visible flight (flight_text-bytes message.flight h.flight)) (digits_visible (two_text message.day) (two_text-digits message.day (omega arith))) in
    let middle = front ++ 46 ∷ message.registration in
    let middle_visible = list_all-both is_visible front (46 ∷ message.registration) front_visible (list_all-wider is_name_byte is_visible name_visible message.registration (registration_bytes message.registration h.registration)) in
    record {
      some = not_empty middle 46 message.station;
      visible = list_all-both is_visible middle (46 ∷ message.station) middle_visible ((station_word message.station h.station).visible);
    }

heading_back : (message : Mvt) → IsReadable message → heading_of (heading_text message) ≡ Some (message_head message.flight message.day message.registration message.station)
heading_back message h =
    let flight = flight_text message.flight in
    let day = two_text message.day in
    let registration = message.registration in
    let station = message.station in
    let low : message.day ≤ 31 = h.day.1 in
    let back = registration ++ 46 ∷ station in
    let rest = day ++ 46 ∷ back in
    let regrouped : heading_text message ≡ flight ++ 47 ∷ rest =
    append_assoc (flight ++ 47 ∷ day) (46 ∷ registration) (46 ∷ station) ∙ append_assoc flight (47 ∷ day) (46 ∷ back) in
    let first = parted-at 47 flight rest (lacks-kind is_airline_byte 47 flight refl (flight_text-bytes message.flight h.flight)) in
    let second = parted-at 46 day back (lacks-kind is_digit 46 day refl (two_text-digits message.day (omega arith))) in
    let third = parted-at 46 registration station (lacks-kind is_name_byte 46 registration refl (registration_bytes registration h.registration)) in
    let checked = and_from (is_registration registration) (is_station station) h.registration h.station in
    ap heading_of regrouped
    ∙ ap (option_and_then (λ slash. split_once 46 slash.1 >>= λ dot. split_once 46 dot.1 >>= λ dots. flight_of slash.0 >>= λ f. read_day dot.0 >>= λ d. cond (is_registration dots.0 && is_station dots.1) (Some (message_head f d dots.0 dots.1)) None)) first
    ∙ ap (option_and_then (λ dot. split_once 46 dot.1 >>= λ dots. flight_of flight >>= λ f. read_day dot.0 >>= λ d. cond (is_registration dots.0 && is_station dots.1) (Some (message_head f d dots.0 dots.1)) None)) second
    ∙ ap (option_and_then (λ dots. flight_of flight >>= λ f. read_day day >>= λ d. cond (is_registration dots.0 && is_station dots.1) (Some (message_head f d dots.0 dots.1)) None)) third
    ∙ ap (option_and_then (λ f. read_day day >>= λ d. cond (is_registration registration && is_station station) (Some (message_head f d registration station)) None)) (flight_of-back message.flight h.flight)
    ∙ ap (option_and_then (λ d. cond (is_registration registration && is_station station) (Some (message_head message.flight d registration station)) None)) (day_of-back message.day h.day)
    ∙ ap (λ t. cond t (Some (message_head message.flight message.day registration station)) None) checked

element_line : (words : List (List ℕ)) → AreWords words → AreLines (element_lines words)
element_line [] h = tt
element_line (word ∷ words) h = (IsLine-join word words h.0 h.1, tt)

identifier_line : IsLine (codes "MVT")
identifier_line = record { one = refl; end = refl }

-- reading the canonical text of a readable message gives the message
pub read_mvt_of-canonical : (message : Mvt) → IsReadable message → read_mvt_of (canonical message) ≡ Ok message
read_mvt_of-canonical message h =
    let words = element_words message in
    let heading = heading_text message in
    let lines = codes "MVT" ∷ heading ∷ element_lines words in
    let short = length-canonical message h in
    let fits : ltb 4000 (length (canonical message)) ≡ false = le-ltb 4000 (length (canonical message)) (omega arith) in
    let are_words = elements_words message h in
    let word = heading_word message h in
    let are_lines : AreLines lines = (identifier_line, (IsLine-word heading word, element_line words are_words)) in
    let behind = 4 + length heading + 1 in
    let rest = placed_texts behind (element_lines words ++ [] ∷ []) in
    let opened = message_head message.flight message.day message.registration message.station in
    ap (λ t. cond t (Err TooLong) (read_lines (lines_of (piece 0 (canonical message))))) fits
    ∙ ap read_lines (lines_of-written 0 lines are_lines)
    ∙ ap (λ t. cond t (after_heading rest) (with_heading (heading_of heading) rest) >>- λ o. with_marks o.0 (flat_map marks_of_line o.1)) word.some
    ∙ ap (λ o. with_heading o rest >>- λ p. with_marks p.0 (flat_map marks_of_line p.1)) (heading_back message h)
    ∙ ap (with_marks opened) (line_marks behind words are_words (elements_open message h))
    ∙ elements_read message behind h

same_message : (x y : Mvt) → ◌≡◌ {A = Result Mvt MvtFault} (Ok x) (Ok y) → x ≡ y
same_message x y h = cc

-- two readable messages with the same canonical text are equal
pub canonical-same : (a b : Mvt) → IsReadable a → IsReadable b → canonical a ≡ canonical b → a ≡ b
canonical-same a b h k same =
    let both : ◌≡◌ {A = Result Mvt MvtFault} (Ok a) (Ok b) = sym (read_mvt_of-canonical a h) ∙ ap read_mvt_of same ∙ read_mvt_of-canonical b k in
    same_message a b both
