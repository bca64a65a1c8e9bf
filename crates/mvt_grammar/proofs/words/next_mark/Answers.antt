use Rattle.std.proofs.Common.{◌≡◌, ◌∷◌, true, false, arith, ◌∙◌, ap, sym, Some}
use Rattle.mvt_grammar.specs.Bytes.{is_station}
use Rattle.mvt_grammar.specs.Spans.{left_words, piece_of}
use Rattle.mvt_grammar.specs.Words.{estimate_time, marks_of_words}
use Rattle.mvt_grammar.proofs.Estimates.{lone_estimate}
use Rattle.mvt_grammar.proofs.Names.{IsName-station}
use Rattle.mvt_grammar.proofs.words.next_mark.Goals as goal

pub returns-then-not-is_station : goal.returns-then-not-is_station
returns-then-not-is_station c =
    let word = piece_of c.in_ok-word.word in
    let next = piece_of c.in_ok-next.next in
    let is : estimate_time word.text ≡ Some c.in-Some.clock = sym c.estimate_time.ensures.value ∙ c.in-Some.is in
    let other : is_station next.text ≡ false = sym c.if-not-is_station.ensures.is in
    let words = c.in_ok-word.ensures.value ∙ ap (λ l. word ∷ l) c.in_ok-next.ensures.value in
    record { value = ap marks_of_words words ∙ lone_estimate word next (left_words c.in_ok-next.left) c.in-Some.clock is other }

pub returns-in_err-station : goal.returns-in_err-station
returns-in_err-station c =
    let station : is_station c.in_ok-next.next.text.now ≡ true = grind arith in
    absurd (c.in_err-station.ensures.form (IsName-station c.in_ok-next.next.text.now station))
