-- Which part on a stand ranks before another, and which of them stay.
use Rattle.std.specs.Prelude.{◌≡◌, ◌∷◌, [], ◌==◌, ℕ, zero, suc, Bool, false, not, ◌&&◌, ◌||◌, nat_lt, List, length, filter, map, Option, None, is_some, option_map, if◌then◌else◌}
use Rattle.std.specs.List.{flat_map, list_any}
use Rattle.apron_base.specs.declared.numbers.PartId.{PartId}
use Rattle.apron_base.specs.declared.slot.Slot.{Slot}
use Rattle.apron_rules.specs.declared.parts.AirportParts.{AirportParts}
use Rattle.clash_check.specs.Meetings.{meeting}
use Rattle.visit_book.specs.declared.visits.Visit.{Visit}
use Rattle.visit_book.specs.Slots.{slots_of_visit}
use Rattle.bump_core.specs.declared.ranks.Ranked.{Ranked}
use Rattle.bump_core.specs.declared.ranks.Conflict.{Conflict}

-- the slot of a part of the visit, with what ranks it
abbrev pub ranked_part : Visit → Slot → Ranked
ranked_part visit slot = record { class = visit.class; on = visit.on; slot = slot }

-- the parts of a visit that are on stands
abbrev pub parts_on : AirportParts → Visit → List Ranked
parts_on airport visit = map (ranked_part visit) (slots_of_visit airport visit)

-- the parts of all visits that are on stands
abbrev pub all_parts_on : AirportParts → List Visit → List Ranked
all_parts_on airport visits = flat_map (parts_on airport) visits

-- the first number that differs is lower
abbrev pub is_lower : List ℕ → List ℕ → Bool
is_lower [] others = false
is_lower (number ∷ numbers) [] = false
is_lower (number ∷ numbers) (other ∷ others) = nat_lt number other
    || (number == other && is_lower numbers others)

-- the class, the scheduled minute on block, the visit and the part decide
abbrev pub part_rank : ℕ → ℕ → PartId → List ℕ
part_rank class on part = class ∷ on ∷ part.visit.0 ∷ part.part ∷ []

-- actual parts come before planned ones; then these decide
abbrev pub rank : Ranked → List ℕ
rank part = (if part.slot.actual then 0 else 1) ∷ part_rank part.class part.on part.slot.part

-- a part of a lower rank is better
unfoldable pub blocks_before : Ranked → Ranked → Bool
blocks_before part other = is_lower (rank part) (rank other)

-- the second part is planned, and the first is better
abbrev pub may_block : Ranked → Ranked → Bool
may_block part other = not other.slot.actual && blocks_before part other

-- a planned part is blocked by a better one with which it clashes
unfoldable pub conflict : AirportParts → Ranked → Ranked → Option Conflict
conflict airport part other =
    if may_block part other
    then option_map
    (λ at. record { blocker = part; blocked = other; minute = at.minute; rule = at.rule })
    (meeting airport part.slot other.slot)
    else None

-- the first part blocks the second
abbrev pub blocks : AirportParts → Ranked → Ranked → Bool
blocks airport part other = is_some (conflict airport part other)

-- none of these blocks it
abbrev pub is_free : {X : Type 0} → (X → X → Bool) → List X → X → Bool
is_free blocks kept part = not (list_any (λ other. blocks other part) kept)

-- these are the parts that stay: exactly the parts that no staying part blocks
abbrev pub Stay : AirportParts → List Ranked → List Ranked → Type 0
Stay airport parts kept = kept ≡ filter (is_free (blocks airport) kept) parts

-- after this many rounds: each round keeps the parts that no part of the round before blocks
abbrev pub after_rounds : {X : Type 0} → (X → X → Bool) → ℕ → List X → List X
after_rounds blocks zero parts = parts
after_rounds blocks (suc rounds) parts =
    filter (is_free blocks (after_rounds blocks rounds parts)) parts

-- the parts that stay: each round settles one more rank
unfoldable pub kept_of : AirportParts → List Ranked → List Ranked
kept_of airport parts = after_rounds (blocks airport) (length parts) parts
