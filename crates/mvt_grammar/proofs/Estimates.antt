-- An estimate of arrival whose station is missing ends its line.
use Rattle.std.proofs.Common.{◌≡◌, ℕ, Bool, true, false, cond, List, [], ◌∷◌, drop, refl, ap, ◌∙◌, Some, None, arith}
use Rattle.std.specs.Prelude.{codes, is_some, not, ◌||◌}
use Rattle.std.proofs.lemmas.Bool.Decides.{nat_tests}
use Rattle.mvt_grammar.specs.Bytes.{is_station}
use Rattle.mvt_grammar.specs.Clocks.{clock_of}
use Rattle.mvt_grammar.specs.Pieces.{Piece}
use Rattle.mvt_grammar.specs.Words.{begins, begins_element, ends_line, estimate_of, estimate_time, marks_from, marks_of_words, with_estimate}
use Rattle.mvt_grammar.specs.declared.message.Clock.{Clock}

other_front : (text : List ℕ) → begins text (codes "EA") ≡ true → begins text (codes "SI") ≡ false
other_front [] h = absurd (cc h)
other_front (byte ∷ text) h = grind (arith, nat_tests)

goes_on : (text : List ℕ) (clock : Clock) (b : Bool) → begins text (codes "EA") ≡ b → cond b (clock_of (drop 2 text)) None ≡ Some clock → begins text (codes "SI") ≡ false
goes_on text clock true e h = other_front text e
goes_on text clock false e h = absurd (cc h)

or_true : (b : Bool) → (b || true) ≡ true
or_true true = refl
or_true false = refl

pub lone_estimate : (word next : Piece) (words : List Piece) (clock : Clock) → estimate_time word.text ≡ Some clock → is_station next.text ≡ false → marks_of_words (word ∷ next ∷ words) ≡ []
lone_estimate word next words clock h k =
    let none : estimate_of word.text next.text ≡ None = rw (h, k) refl in
    let on = goes_on word.text clock (begins word.text (codes "EA")) refl h in
    let ends : ends_line word.text ≡ true = ap (λ o. not (begins_element word.text) || is_some o) h ∙ or_true (not (begins_element word.text)) in
    let after = marks_of_words (next ∷ words) in
    let from : marks_from word after ≡ [] = rw (on, ends) refl in
    ap (λ o. with_estimate word.at o (marks_of_words words) (marks_from word after)) none ∙ from
