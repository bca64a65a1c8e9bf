-- Lists in order of numbers.
use Rattle.std.specs.Prelude.{Bool, ℕ, List}
use Rattle.apron_base.specs.Sorting.{sorted_by}
use Rattle.bump_core.specs.Ranks.{is_lower}

-- the numbers of the first item are lower
abbrev pub lower_by : {X : Type 0} → (X → List ℕ) → X → X → Bool
lower_by numbers item other = is_lower (numbers item) (numbers other)

-- the items in order of their numbers, of which the first that differs decides
unfoldable pub in_order : {X : Type 0} → (X → List ℕ) → List X → List X
in_order numbers items = sorted_by (lower_by numbers) items
