-- What words ask for, by how many there are.
use Rattle.std.proofs.Common.{◌≡◌, ℕ, List, [], ◌∷◌, refl}
use Rattle.apron_run.specs.Words.{Subcommand, faulty, subcommand_of}

-- the same, where words as many as no form has are told apart first
abbrev pub by_count : List (List ℕ) → Subcommand
by_count [] = faulty
by_count (a ∷ b ∷ c ∷ d ∷ e ∷ f ∷ rest) = faulty
by_count words = subcommand_of words

pub counted : (words : List (List ℕ)) → subcommand_of words ≡ by_count words
unfolding subcommand_of
counted [] = refl
counted (a ∷ b ∷ c ∷ d ∷ e ∷ f ∷ rest) = refl
counted words = refl
