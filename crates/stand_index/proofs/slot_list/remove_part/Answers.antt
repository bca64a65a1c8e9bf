use Rattle.std.proofs.Common.{rules}
use Rattle.std.specs.Prelude.{not}
use Rattle.std.proofs.lemmas.Fn.{filter_same}
use Rattle.apron_base.specs.declared.slot.Slot.{Slot}
use Rattle.stand_index.specs.Slots.{is_of_part}
use Rattle.stand_index.proofs.slot_list.remove_part.Goals as goal

pub returns-clause-items : goal.returns-clause-items
returns-clause-items c = filter_same _ (λ (slot : Slot). not (is_of_part c.args.part slot)) _ (λ x b f' k. search rules) _ _ c.retain.ensures.filtered
