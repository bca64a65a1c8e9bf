-- Lists in an order.
use Rattle.std.specs.Prelude.{Bool, List, [], ◌∷◌, if◌then◌else◌}

-- the items with one more, after those that come before it
abbrev pub insert_by : {X : Type 0} → (X → X → Bool) → X → List X → List X
insert_by before item [] = item ∷ []
insert_by before item (first ∷ others) =
    if before first item then first ∷ insert_by before item others else item ∷ first ∷ others

-- the items in order; items that tie keep the order that they had
abbrev pub sorted_by : {X : Type 0} → (X → X → Bool) → List X → List X
sorted_by before [] = []
sorted_by before (item ∷ items) = insert_by before item (sorted_by before items)
