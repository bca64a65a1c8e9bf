-- What a machine may answer to a list of requests, one after another.
use Rattle.std.specs.Prelude.{◌≡◌, List, [], ◌∷◌}

-- each answer is one of the step from the state before it to the state after it
abbrev pub Runs : {S R A : Type 0} → (S → R → A → S → Type 0) → S → List R → List A → S → Type 0
Runs step old [] [] new = old ≡ new
Runs {S} step old (request ∷ requests) (answer ∷ answers) new =
    (mid : S) × step old request answer mid × Runs step mid requests answers new
Runs step old requests answers new = ⊥
