-- Elements that are written give their marks back.
use Rattle.std.proofs.Common.{◌≡◌, ℕ, ◌+◌, cond, refl, true, false, List, [], ◌∷◌, ◌++◌, length, ap, ◌∙◌, sym, Option, Some, None, Err}
use Rattle.std.specs.Prelude.{IfSome, not, codes, slice_index, is_some}
use Rattle.std.specs.Option.{option_map}
use Rattle.std.proofs.lemmas.List.{append-nil}
use Rattle.apron_base.specs.OptionChain.{◌>>=◌}
use Rattle.mvt_grammar.specs.Bytes.{is_capital, is_station}
use Rattle.mvt_grammar.specs.Pieces.{Piece, piece, placed_texts}
use Rattle.mvt_grammar.specs.Words.{begins, begins_element, element_of, estimate_of, estimate_time, marks_from, marks_of_words, with_estimate}
use Rattle.mvt_grammar.specs.Reading.{has_element, with_element, with_marks}
use Rattle.mvt_grammar.specs.Canonical.{clock_text, second_text, times_text, times_words, ea_words, ed_words}
use Rattle.mvt_grammar.specs.Readable.{IsClock, AreTimes, IsEstimate}
use Rattle.mvt_grammar.specs.declared.message.Clock.{Clock}
use Rattle.mvt_grammar.specs.declared.message.Mvt.{Mvt}
use Rattle.mvt_grammar.specs.declared.message.MvtFault.TheVariants.{Twice}
use Rattle.mvt_grammar.specs.declared.words.Element.{Element}
use Rattle.mvt_grammar.specs.declared.words.Element.TheVariants.{Ad, Aa, Ea, Ed}
use Rattle.mvt_grammar.specs.declared.words.Mark.{Mark}
use Rattle.mvt_grammar.specs.declared.words.Mark.TheVariants.{Found}
use Rattle.mvt_grammar.proofs.ClocksBack.{clock_of-back, clock_text-first, times_of-back}

times-first : (times : Clock × Option Clock) → AreTimes times → is_capital (slice_index (times_text times) 0) ≡ false
times-first times h = clock_text-first times.0 (second_text times.1) h.first

clock-first : (clock : Clock) → IsClock clock → is_capital (slice_index (clock_text clock) 0) ≡ false
clock-first clock h = ap (λ t. is_capital (slice_index t 0)) (sym (append-nil (clock_text clock))) ∙ clock_text-first clock [] h

-- a word that is an element by itself
record IsElementWord (text : List ℕ) (element : Element) : Type 0 where
  goes_on : begins text (codes "SI") ≡ false
  opens : begins_element text ≡ true
  alone : estimate_time text ≡ None
  is : element_of text ≡ Some element

ad-word : (times : Clock × Option Clock) → AreTimes times → IsElementWord (codes "AD" ++ times_text times) (Ad times)
ad-word times h = record { goes_on = refl; opens = ap not (times-first times h); alone = refl; is = ap (option_map Ad) (times_of-back times h) }

aa-word : (times : Clock × Option Clock) → AreTimes times → IsElementWord (codes "AA" ++ times_text times) (Aa times)
aa-word times h = record { goes_on = refl; opens = ap not (times-first times h); alone = refl; is = ap (option_map Aa) (times_of-back times h) }

ed-word : (clock : Clock) → IsClock clock → IsElementWord (codes "ED" ++ clock_text clock) (Ed clock)
ed-word clock h = record { goes_on = refl; opens = ap not (clock-first clock h); alone = refl; is = ap (option_map Ed) (clock_of-back clock h) }

from-word : (word : Piece) (after : List Mark) (element : Element) → IsElementWord word.text element → marks_from word after ≡ Found word.at element ∷ after
from-word word after element h = rw (h.goes_on, h.opens, h.alone, h.is) refl

-- the mark of a word that is an element by itself comes before the marks of the words after it
whole-mark : (word : Piece) (words : List Piece) (element : Element) → IsElementWord word.text element → marks_of_words (word ∷ words) ≡ Found word.at element ∷ marks_of_words words
whole-mark word [] element h = from-word word [] element h
whole-mark word (next ∷ words) element h =
    let after = marks_of_words (next ∷ words) in
    ap (λ o. with_estimate word.at (o >>= λ clock. cond (is_station next.text) (Some (Ea clock next.text)) None) (marks_of_words words) (marks_from word after)) h.alone
    ∙ from-word word after element h

estimate-mark : (word next : Piece) (words : List Piece) (clock : Clock) → estimate_time word.text ≡ Some clock → is_station next.text ≡ true → marks_of_words (word ∷ next ∷ words) ≡ Found word.at (Ea clock next.text) ∷ marks_of_words words
estimate-mark word next words clock h k =
    let is : estimate_of word.text next.text ≡ Some (Ea clock next.text) = rw (h, k) refl in
    ap (λ o. with_estimate word.at o (marks_of_words words) (marks_from word (marks_of_words (next ∷ words)))) is

-- an element that the message lacks is taken
taken : (message : Mvt) (at : ℕ) (element : Element) (marks : List Mark) → has_element message element ≡ false → with_marks message (Found at element ∷ marks) ≡ with_marks (with_element message element) marks
taken message at element marks h = ap (λ t. cond t (Err (Twice at)) (with_marks (with_element message element) marks)) h

-- what is read of words is what is read of the words after them, wherever they are, by a message
-- with more elements
pub record Reads (message : Mvt) (at : ℕ) (words : List (List ℕ)) (more : Mvt) (rest : List (List ℕ)) : Type 0 where
  pub place : ℕ
  pub same : with_marks message (marks_of_words (placed_texts at words)) ≡ with_marks more (marks_of_words (placed_texts place rest))

pub ad-reads : (message : Mvt) (at : ℕ) (ad : Option (Clock × Option Clock)) (rest : List (List ℕ)) → message.ad ≡ None → IfSome ad AreTimes → Reads message at (times_words (codes "AD") ad ++ rest) (record message { ad = ad }) rest
ad-reads message at None rest none h = record { place = at; same = ap (λ o. with_marks (record message { ad = o }) (marks_of_words (placed_texts at rest))) none }
ad-reads message at (Some times) rest none h =
    let text = codes "AD" ++ times_text times in
    let behind = at + length text + 1 in
    record {
      place = behind;
      same = ap (with_marks message) (whole-mark (piece at text) (placed_texts behind rest) (Ad times) (ad-word times h)) ∙ taken message at (Ad times) (marks_of_words (placed_texts behind rest)) (ap is_some none);
    }

pub aa-reads : (message : Mvt) (at : ℕ) (aa : Option (Clock × Option Clock)) (rest : List (List ℕ)) → message.aa ≡ None → IfSome aa AreTimes → Reads message at (times_words (codes "AA") aa ++ rest) (record message { aa = aa }) rest
aa-reads message at None rest none h = record { place = at; same = ap (λ o. with_marks (record message { aa = o }) (marks_of_words (placed_texts at rest))) none }
aa-reads message at (Some times) rest none h =
    let text = codes "AA" ++ times_text times in
    let behind = at + length text + 1 in
    record {
      place = behind;
      same = ap (with_marks message) (whole-mark (piece at text) (placed_texts behind rest) (Aa times) (aa-word times h)) ∙ taken message at (Aa times) (marks_of_words (placed_texts behind rest)) (ap is_some none);
    }

pub ea-reads : (message : Mvt) (at : ℕ) (ea : Option (Clock × List ℕ)) (rest : List (List ℕ)) → message.ea ≡ None → IfSome ea IsEstimate → Reads message at (ea_words ea ++ rest) (record message { ea = ea }) rest
ea-reads message at None rest none h = record { place = at; same = ap (λ o. with_marks (record message { ea = o }) (marks_of_words (placed_texts at rest))) none }
ea-reads message at (Some estimate) rest none h =
    let text = codes "EA" ++ clock_text estimate.0 in
    let next = at + length text + 1 in
    let behind = next + length estimate.1 + 1 in
    record {
      place = behind;
      same = ap (with_marks message) (estimate-mark (piece at text) (piece next estimate.1) (placed_texts behind rest) estimate.0 (clock_of-back estimate.0 h.clock) h.station) ∙ taken message at (Ea estimate.0 estimate.1) (marks_of_words (placed_texts behind rest)) (ap is_some none);
    }

pub ed-reads : (message : Mvt) (at : ℕ) (ed : Option Clock) → message.ed ≡ None → IfSome ed IsClock → Reads message at (ed_words ed) (record message { ed = ed }) []
ed-reads message at None none h = record { place = at; same = ap (λ o. with_marks (record message { ed = o }) []) none }
ed-reads message at (Some clock) none h =
    let text = codes "ED" ++ clock_text clock in
    record {
      place = at;
      same = ap (with_marks message) (whole-mark (piece at text) [] (Ed clock) (ed-word clock h)) ∙ taken message at (Ed clock) [] (ap is_some none);
    }
