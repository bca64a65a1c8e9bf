-- A text cut into pieces, each with the place of its first byte: into lines, and lines into words.
use Rattle.std.specs.Prelude.{ℕ, ◌+◌, ◌==◌, Bool, true, false, not, List, [], ◌∷◌, length, map, filter, if◌then◌else◌}
use Rattle.std.specs.List.{slice_split}

-- bytes of a text, and the place of the first of them, counted from 0
pub record Piece : Type 0 where
  pub at : ℕ
  pub text : List ℕ

abbrev pub piece : ℕ → List ℕ → Piece
piece at text = record { at = at; text = text }

-- texts that follow one another with one byte between each two; the first is at this place
abbrev pub placed_texts : ℕ → List (List ℕ) → List Piece
placed_texts at [] = []
placed_texts at (text ∷ texts) = piece at text ∷ placed_texts (at + length text + 1) texts

-- a piece cut at each such byte: at least one piece
abbrev pub split_at : ℕ → Piece → List Piece
split_at byte whole = placed_texts whole.at (slice_split (λ b. b == byte) whole.text)

abbrev pub is_empty : List ℕ → Bool
is_empty [] = true
is_empty (b ∷ bs) = false

-- without one CR at the end
abbrev pub without_cr : List ℕ → List ℕ
without_cr [] = []
without_cr (b ∷ bs) =
    if b == 13 then (if is_empty bs then [] else b ∷ without_cr bs) else b ∷ without_cr bs

-- without the spaces at the end
abbrev pub without_spaces : List ℕ → List ℕ
without_spaces [] = []
without_spaces (b ∷ bs) =
    if b == 32 then (if is_empty (without_spaces bs) then [] else b ∷ without_spaces bs)
    else b ∷ without_spaces bs

-- a line loses one CR at its end, and then the spaces there
abbrev pub trim_line : Piece → Piece
trim_line line = piece line.at (without_spaces (without_cr line.text))

-- the lines of a text, cut at each LF
abbrev pub lines_of : Piece → List Piece
lines_of whole = map trim_line (split_at 10 whole)

-- the words of a line: what is left of it, cut at each space, without the empty pieces
abbrev pub words_of : Piece → List Piece
words_of line = filter (λ word. not (is_empty word.text)) (split_at 32 line)
