-- What is left to read: of a line, and of the lines after it.
use Rattle.std.specs.Prelude.{List, ◌++◌}
use Rattle.std.specs.List.{flat_map}
use Rattle.mvt_grammar.specs.Spans.{left_words, rest_lines}
use Rattle.mvt_grammar.specs.Words.{marks_of_words, marks_of_line}
use Rattle.mvt_grammar.specs.declared.reading.RestOfText.{RestOfText}
use Rattle.mvt_grammar.specs.declared.words.Mark.{Mark}

abbrev pub left_marks : RestOfText → List Mark
left_marks left =
    marks_of_words (left_words left.words) ++ flat_map marks_of_line (rest_lines left.lines)
