-- Each message that is read is readable.
use Rattle.std.proofs.Common.{◌≡◌, ℕ, cond, Bool, true, false, List, [], ◌∷◌, ◌++◌, length, drop, refl, sym, subst, Option, Some, None, Result, Ok, Err}
use Rattle.std.specs.Prelude.{IfOk, IfSome, nat_lt, codes}
use Rattle.std.specs.Option.{option_map}
use Rattle.apron_base.specs.OptionChain.{◌>>=◌}
use Rattle.std.specs.List.{flat_map}
use Rattle.mvt_grammar.specs.Bytes.{is_station}
use Rattle.mvt_grammar.specs.Clocks.{clock_of, times_of}
use Rattle.mvt_grammar.specs.Pieces.{Piece, piece, is_empty, lines_of, words_of}
use Rattle.mvt_grammar.specs.Words.{begins, begins_element, element_of, ends_line, estimate_of, estimate_time, mark_of, marks_from, marks_of_words, marks_of_line, with_estimate}
use Rattle.mvt_grammar.specs.Reading.{◌>>-◌, heading_of, after_identifier, with_heading, after_heading, has_element, with_element, with_marks, read_lines, read_mvt_of}
use Rattle.mvt_grammar.specs.Readable.{IsClock, AreTimes, IsEstimate, IsReadable}
use Rattle.mvt_grammar.specs.declared.message.Clock.{Clock}
use Rattle.mvt_grammar.specs.declared.message.Mvt.{Mvt}
use Rattle.mvt_grammar.specs.declared.message.MvtFault.{MvtFault}
use Rattle.mvt_grammar.specs.declared.message.MvtFault.TheVariants.{TooLong, Twice}
use Rattle.mvt_grammar.specs.declared.words.Element.{Element}
use Rattle.mvt_grammar.specs.declared.words.Element.TheVariants.{Ad, Aa, Ea, Ed}
use Rattle.mvt_grammar.specs.declared.words.Mark.{Mark}
use Rattle.mvt_grammar.specs.declared.words.Mark.TheVariants.{Found, Bad, End}
use Rattle.mvt_grammar.proofs.Ranges.{clock-range, times-range, heading-range}

abbrev IsElement : Element → Type 0
IsElement (Ad times) = AreTimes times
IsElement (Aa times) = AreTimes times
IsElement (Ea clock station) = IsEstimate (clock, station)
IsElement (Ed clock) = IsClock clock

abbrev IsMark : Mark → Type 0
IsMark (Found at element) = IsElement element
IsMark (Bad at) = Unit {0}
IsMark End = Unit {0}

abbrev AreMarks : List Mark → Type 0
AreMarks [] = Unit {0}
AreMarks (mark ∷ marks) = IsMark mark × AreMarks marks

AreMarks-append : (xs ys : List Mark) → AreMarks xs → AreMarks ys → AreMarks (xs ++ ys)
AreMarks-append [] ys h k = k
AreMarks-append (x ∷ xs) ys h k = (h.0, AreMarks-append xs ys h.1 k)

either_way : {A : Type 0} (P : A → Type 0) (b : Bool) (x y : A) → P x → P y → P (cond b x y)
either_way P true x y h k = h
either_way P false x y h k = k

some_is : {A : Type 0} (f : A → Element) (o : Option A) → ((x : A) → o ≡ Some x → IsElement (f x)) → IfSome (option_map f o) IsElement
some_is f None h = tt
some_is f (Some x) h = h x refl

element_of_is : (text : List ℕ) → IfSome (element_of text) IsElement
element_of_is text =
    let P : Option Element → Type 0 = λ o. IfSome o IsElement in
    let ad = some_is Ad (times_of (drop 2 text)) (times-range (drop 2 text)) in
    let aa = some_is Aa (times_of (drop 2 text)) (times-range (drop 2 text)) in
    let ed = some_is Ed (clock_of (drop 2 text)) (clock-range (drop 2 text)) in
    either_way P (begins text (codes "AD")) _ _ ad (either_way P (begins text (codes "AA")) _ _ aa (either_way P (begins text (codes "ED")) _ None ed tt))

station_is : (clock : Clock) (next : List ℕ) (b : Bool) → is_station next ≡ b → IsClock clock → IfSome (cond b (Some (Ea clock next)) None) IsElement
station_is clock next true e h = record { clock = h; station = e }
station_is clock next false e h = tt

with_station_is : (o : Option Clock) (next : List ℕ) → ((clock : Clock) → o ≡ Some clock → IsClock clock) → IfSome (o >>= λ clock. cond (is_station next) (Some (Ea clock next)) None) IsElement
with_station_is None next h = tt
with_station_is (Some clock) next h = station_is clock next (is_station next) refl (h clock refl)

estimated_is : (text : List ℕ) (b : Bool) (clock : Clock) → cond b (clock_of (drop 2 text)) None ≡ Some clock → IsClock clock
estimated_is text true clock h = clock-range (drop 2 text) clock h
estimated_is text false clock h = absurd (cc h)

estimate_of_is : (text next : List ℕ) → IfSome (estimate_of text next) IsElement
estimate_of_is text next = with_station_is (estimate_time text) next (estimated_is text (begins text (codes "EA")))

mark_of_is : (at : ℕ) (o : Option Element) → IfSome o IsElement → IsMark (mark_of at o)
mark_of_is at None h = tt
mark_of_is at (Some element) h = h

with_estimate_are : (at : ℕ) (o : Option Element) (behind others : List Mark) → IfSome o IsElement → AreMarks behind → AreMarks others → AreMarks (with_estimate at o behind others)
with_estimate_are at None behind others h k l = l
with_estimate_are at (Some element) behind others h k l = (h, k)

marks_from_are : (word : Piece) (after : List Mark) → AreMarks after → AreMarks (marks_from word after)
marks_from_are word after h =
    either_way AreMarks (begins word.text (codes "SI")) (End ∷ []) _ (tt, tt)
    (either_way AreMarks (ends_line word.text) [] _ tt (mark_of_is word.at (element_of word.text) (element_of_is word.text), h))

words_are : (words : List Piece) → AreMarks (marks_of_words words)
words_are [] = tt
words_are (word ∷ []) = marks_from_are word [] tt
words_are (word ∷ next ∷ words) =
    with_estimate_are word.at (estimate_of word.text next.text) (marks_of_words words) _
    (estimate_of_is word.text next.text) (words_are words) (marks_from_are word _ (words_are (next ∷ words)))

line_is : (line : Piece) → AreMarks (marks_of_line line)
line_is line = either_way AreMarks (begins line.text (codes "SI")) (End ∷ []) _ (tt, tt) (either_way AreMarks (begins_element line.text) (marks_of_words (words_of line)) [] (words_are (words_of line)) tt)

lines_are : (lines : List Piece) → AreMarks (flat_map marks_of_line lines)
lines_are [] = tt
lines_are (line ∷ lines) = AreMarks-append (marks_of_line line) (flat_map marks_of_line lines) (line_is line) (lines_are lines)

element_kept : (message : Mvt) (element : Element) → IsReadable message → IsElement element → IsReadable (with_element message element)
element_kept message (Ad times) h k = record { flight = h.flight; day = h.day; registration = h.registration; station = h.station; ad = k; aa = h.aa; ea = h.ea; ed = h.ed }
element_kept message (Aa times) h k = record { flight = h.flight; day = h.day; registration = h.registration; station = h.station; ad = h.ad; aa = k; ea = h.ea; ed = h.ed }
element_kept message (Ea clock station) h k = record { flight = h.flight; day = h.day; registration = h.registration; station = h.station; ad = h.ad; aa = h.aa; ea = k; ed = h.ed }
element_kept message (Ed clock) h k = record { flight = h.flight; day = h.day; registration = h.registration; station = h.station; ad = h.ad; aa = h.aa; ea = h.ea; ed = k }

not_twice : (had : Bool) (fault : MvtFault) (read : Result Mvt MvtFault) (message : Mvt) → cond had (Err fault) read ≡ Ok message → read ≡ Ok message
not_twice true fault read message h = cc
not_twice false fault read message h = h

same_ok : (x y : Mvt) → ◌≡◌ {A = Result Mvt MvtFault} (Ok x) (Ok y) → x ≡ y
same_ok x y h = cc

marks_kept : (message : Mvt) (marks : List Mark) (read : Mvt) → IsReadable message → AreMarks marks → with_marks message marks ≡ Ok read → IsReadable read
marks_kept message [] read h k e = subst IsReadable (same_ok message read e) h
marks_kept message (End ∷ marks) read h k e = subst IsReadable (same_ok message read e) h
marks_kept message (Bad at ∷ marks) read h k e = cc
marks_kept message (Found at element ∷ marks) read h k e =
    marks_kept (with_element message element) marks read (element_kept message element h k.0) k.1
    (not_twice (has_element message element) (Twice at) (with_marks (with_element message element) marks) read e)

bind_ok : {A B : Type 0} (r : Result A MvtFault) (f : A → Result B MvtFault) (y : B) → (r >>- f) ≡ Ok y → (x : A) × (r ≡ Ok x) × (f x ≡ Ok y)
bind_ok (Ok x) f y h = (x, refl, h)
bind_ok (Err e) f y h = cc

heading_kept : (o : Option Mvt) (line : List ℕ) (lines : List Piece) (opened : Mvt × List Piece) → heading_of line ≡ o → with_heading o lines ≡ Ok opened → IsReadable opened.0
heading_kept None line lines opened e h = cc
heading_kept (Some message) line lines opened e h =
    let same : message ≡ opened.0 = cc in
    subst IsReadable same (heading-range line message e)

blank_kept : (blank : Bool) (line : Piece) (lines : List Piece) (opened : Mvt × List Piece) → (after_heading lines ≡ Ok opened → IsReadable opened.0) → cond blank (after_heading lines) (with_heading (heading_of line.text) lines) ≡ Ok opened → IsReadable opened.0
blank_kept true line lines opened later h = later h
blank_kept false line lines opened later h = heading_kept (heading_of line.text) line.text lines opened refl h

opened_kept : (lines : List Piece) (opened : Mvt × List Piece) → after_heading lines ≡ Ok opened → IsReadable opened.0
opened_kept [] opened h = cc
opened_kept (line ∷ lines) opened h = blank_kept (is_empty line.text) line lines opened (opened_kept lines opened) h

lines_kept : (lines : List Piece) (message : Mvt) → read_lines lines ≡ Ok message → IsReadable message
lines_kept lines message h =
    let found = bind_ok (after_identifier 21 lines) (λ rest. after_heading rest >>- λ opened. with_marks opened.0 (flat_map marks_of_line opened.1)) message h in
    let rest = found.0 in
    let opening = bind_ok (after_heading rest) (λ opened. with_marks opened.0 (flat_map marks_of_line opened.1)) message found.2 in
    let opened = opening.0 in
    marks_kept opened.0 (flat_map marks_of_line opened.1) message (opened_kept rest opened opening.1) (lines_are opened.1) opening.2

-- what a text is read as is readable
pub read_mvt_of-readable : (text : List ℕ) (message : Mvt) → read_mvt_of text ≡ Ok message → IsReadable message
read_mvt_of-readable text message h = lines_kept (lines_of (piece 0 text)) message (not_twice (nat_lt 4000 (length text)) TooLong (read_lines (lines_of (piece 0 text))) message h)

pub IfOk-readable : (text : List ℕ) (r : Result Mvt MvtFault) → r ≡ read_mvt_of text → IfOk r IsReadable
IfOk-readable text (Ok message) h = read_mvt_of-readable text message (sym h)
IfOk-readable text (Err fault) h = tt
