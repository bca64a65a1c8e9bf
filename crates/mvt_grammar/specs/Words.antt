-- What the words of an element line mean: elements, faults, and the end of the line or the reading.
use Rattle.std.specs.Prelude.{ℕ, nat_eq, Bool, not, ◌&&◌, ◌||◌, List, [], ◌∷◌, drop, slice_index, codes, Option, Some, None, is_some, if◌then◌else◌}
use Rattle.std.specs.List.{starts_with}
use Rattle.std.specs.Option.{option_map}
use Rattle.apron_base.specs.OptionChain.{◌>>=◌}
use Rattle.mvt_grammar.specs.Bytes.{is_capital, is_station}
use Rattle.mvt_grammar.specs.Clocks.{clock_of, times_of}
use Rattle.mvt_grammar.specs.Pieces.{Piece, words_of}
use Rattle.mvt_grammar.specs.declared.message.Clock.{Clock}
use Rattle.mvt_grammar.specs.declared.words.Element.{Element}
use Rattle.mvt_grammar.specs.declared.words.Element.TheVariants.{Ad, Aa, Ea, Ed}
use Rattle.mvt_grammar.specs.declared.words.Mark.{Mark}
use Rattle.mvt_grammar.specs.declared.words.Mark.TheVariants.{Found, Bad, End}

-- the text begins with these bytes
abbrev pub begins : List ℕ → List ℕ → Bool
begins text front = starts_with nat_eq text front

-- one of the four pairs, with no capital after it
abbrev pub begins_element : List ℕ → Bool
begins_element text =
    (begins text (codes "AD")
    || begins text (codes "AA")
    || begins text (codes "EA")
    || begins text (codes "ED"))
    && not (is_capital (slice_index text 2))

-- the time of an estimate of arrival: EA and a time
abbrev pub estimate_time : List ℕ → Option Clock
estimate_time text = if begins text (codes "EA") then clock_of (drop 2 text) else None

-- an estimate of arrival and the word right after it, its station of three capitals
abbrev pub estimate_of : List ℕ → List ℕ → Option Element
estimate_of text next = do
  clock ← estimate_time text
  if is_station next then Some (Ea clock next) else None

-- an element of one word: AD or AA and one or two times, or ED and a time
abbrev pub element_of : List ℕ → Option Element
element_of text =
    if begins text (codes "AD") then option_map Ad (times_of (drop 2 text))
    else if begins text (codes "AA") then option_map Aa (times_of (drop 2 text))
    else if begins text (codes "ED") then option_map Ed (clock_of (drop 2 text))
    else None

-- the element that was found at a place, or the fault there
abbrev pub mark_of : ℕ → Option Element → Mark
mark_of at (Some element) = Found at element
mark_of at None = Bad at

-- a word that ends its line: one that isn't an element, or an estimate whose station is missing
abbrev pub ends_line : List ℕ → Bool
ends_line text = not (begins_element text) || is_some (estimate_time text)

-- the marks from a word on that is followed by no station, by the marks of the words after it
abbrev pub marks_from : Piece → List Mark → List Mark
marks_from word after =
    if begins word.text (codes "SI") then End ∷ []
    else if ends_line word.text then []
    else mark_of word.at (element_of word.text) ∷ after

-- the estimate found at a place and then the marks after its station; without an estimate, the
-- other marks
abbrev pub with_estimate : ℕ → Option Element → List Mark → List Mark → List Mark
with_estimate at (Some estimate) behind others = Found at estimate ∷ behind
with_estimate at None behind others = others

-- The marks of the words of a line, from left to right. The first of these rules that fits a word
-- applies: it is an estimate with its station after it; it ends the reading; it ends the line; it
-- is an element of one word, or a fault.
abbrev pub marks_of_words : List Piece → List Mark
marks_of_words [] = []
marks_of_words (word ∷ []) = marks_from word []
marks_of_words (word ∷ next ∷ words) =
    with_estimate word.at (estimate_of word.text next.text)
    (marks_of_words words)
    (marks_from word (marks_of_words (next ∷ words)))

-- the marks of a line: a line that begins with SI ends the reading, and one that is no element line
-- has none
abbrev pub marks_of_line : Piece → List Mark
marks_of_line line =
    if begins line.text (codes "SI") then End ∷ []
    else if begins_element line.text then marks_of_words (words_of line)
    else []
