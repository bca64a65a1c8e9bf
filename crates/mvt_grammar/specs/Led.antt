-- Words as they are written one after another, each after a byte that separates it.
use Rattle.std.specs.Prelude.{ℕ, List, [], ◌∷◌, ◌++◌}

-- the words, the first after this byte and each other after a space
abbrev pub words_after : ℕ → List (List ℕ) → List ℕ
words_after gap [] = []
words_after gap (word ∷ words) = gap ∷ (word ++ words_after 32 words)

-- the byte that goes before the next word
abbrev pub gap_after : ℕ → List (List ℕ) → ℕ
gap_after gap [] = gap
gap_after gap (word ∷ words) = 32
