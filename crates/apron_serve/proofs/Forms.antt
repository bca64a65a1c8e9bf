-- What words order, by how many there are.
use Rattle.std.proofs.Common.{◌≡◌, ℕ, List, [], ◌∷◌, Option, None, refl}
use Rattle.apron_serve.specs.Orders.{Order, order_of_words}

-- the same, where words as many as no form has are told apart first
abbrev pub by_count : List (List ℕ) → Option Order
by_count (a ∷ b ∷ c ∷ d ∷ []) = order_of_words (a ∷ b ∷ c ∷ d ∷ [])
by_count (a ∷ b ∷ c ∷ d ∷ e ∷ f ∷ []) = order_of_words (a ∷ b ∷ c ∷ d ∷ e ∷ f ∷ [])
by_count words = None

pub counted : (words : List (List ℕ)) → order_of_words words ≡ by_count words
unfolding order_of_words
counted [] = refl
counted (a ∷ []) = refl
counted (a ∷ b ∷ []) = refl
counted (a ∷ b ∷ c ∷ []) = refl
counted (a ∷ b ∷ c ∷ d ∷ []) = refl
counted (a ∷ b ∷ c ∷ d ∷ e ∷ []) = refl
counted (a ∷ b ∷ c ∷ d ∷ e ∷ f ∷ []) = refl
counted (a ∷ b ∷ c ∷ d ∷ e ∷ f ∷ g ∷ rest) = refl
