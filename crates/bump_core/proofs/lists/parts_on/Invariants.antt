use Rattle.std.proofs.Common.{◌≡◌, map, take}
use Rattle.visit_book.specs.Slots.{slots_from}
use Rattle.bump_core.specs.Ranks.{ranked_part}
use Rattle.bump_core.proofs.lists.parts_on.Given as goal

abbrev pub invariant-loop-index : goal.invariant-loop-index
invariant-loop-index l = l.found ≡ map (ranked_part l.visit) (slots_from l.airport l.visit 1 (take l.index l.parts))
