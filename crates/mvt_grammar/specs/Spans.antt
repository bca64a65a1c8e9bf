-- How the code holds pieces of a text, and what is left of it.
use Rattle.std.specs.Prelude.{ℕ, not, List, [], map, filter, Option, None, Some}
use Rattle.mvt_grammar.specs.Pieces.{Piece, piece, split_at, trim_line, is_empty}
use Rattle.mvt_grammar.specs.declared.pieces.Span.{Span}

abbrev pub piece_of : Span → Piece
piece_of span = piece span.at span.text.now

-- what is left of a text, cut at each such byte
abbrev pub left_cut : ℕ → Option Span → List Piece
left_cut byte None = []
left_cut byte (Some span) = split_at byte (piece_of span)

-- the lines of what is left of a text
abbrev pub rest_lines : Option Span → List Piece
rest_lines left = map trim_line (left_cut 10 left)

-- the words of what is left of a line
abbrev pub left_words : Option Span → List Piece
left_words left = filter (λ word. not (is_empty word.text)) (left_cut 32 left)
