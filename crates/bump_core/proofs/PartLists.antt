-- The parts on stands of a growing list of parts.
use Rattle.std.proofs.Common.{◌≡◌, ◌<◌, ◌+◌, ◌++◌, ℕ, List, Option, length, map, take, slice_index_or, option_to_list, refl}
use Rattle.apron_base.specs.declared.slot.Slot.{Slot}
use Rattle.apron_rules.specs.declared.parts.AirportParts.{AirportParts}
use Rattle.visit_book.specs.declared.visits.Part.{Part}
use Rattle.visit_book.specs.declared.visits.Visit.{Visit}
use Rattle.visit_book.specs.Slots.{slot_of, slots_from}
use Rattle.plan_core.proofs.SlotLists.{slots_from-next}
use Rattle.bump_core.specs.declared.ranks.Ranked.{Ranked}
use Rattle.bump_core.specs.Ranks.{ranked_part}
use Rattle.bump_core.proofs.Blockers.{map_append, slots_at}

-- one more part of the visit
pub part_more : (airport : AirportParts) (visit : Visit) (parts : List Part) (i : ℕ) (d : Part) (before after : List Ranked) (slot : Option Slot)
    → i < length parts
    → before ≡ map (ranked_part visit) (slots_from airport visit 1 (take i parts)) → slot ≡ slot_of airport visit (i + 1) (slice_index_or parts i d)
    → after ≡ before ++ map (ranked_part visit) (option_to_list slot)
    → after ≡ map (ranked_part visit) (slots_from airport visit 1 (take (i + 1) parts))
part_more airport visit parts i d before after slot within so_far here then =
    rw (
      then,
      so_far,
      here,
      slots_from-next airport visit parts i d within,
      map_append (ranked_part visit) (slots_from airport visit 1 (take i parts)) (slots_at airport visit (i + 1) (slice_index_or parts i d)),
    ) refl
