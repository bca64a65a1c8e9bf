use Rattle.std.proofs.Common.{◌≡◌, inl, inr, None, Some, Option, ap, refl, subst, sym}
use Rattle.std.specs.Prelude.{filter}
use Rattle.apron_base.specs.declared.numbers.StandNo.{StandNo}
use Rattle.clash_check.specs.Indexed.{all_slots}
use Rattle.visit_book.specs.Places.{stand_of}
use Rattle.plan_core.specs.Indexing.{is_off}
use Rattle.plan_core.proofs.IndexedStands.{filter_whole, removed_index, removed_slots}
use Rattle.plan_core.proofs.indexed.take_out_part.Goals as goal

pub returns-in-Unplaced-clause-slots : goal.returns-in-Unplaced-clause-slots
returns-in-Unplaced-clause-slots c = rw c.in-Unplaced.is (sym (filter_whole (is_off None c.args.part) (all_slots c.args.index.now) (λ x h. refl)))

pub returns-in-Planned-clause-slots : goal.returns-in-Planned-clause-slots
returns-in-Planned-clause-slots c =
    let on : stand_of c.args.place.now ≡ Some c.in-Planned.stand = elim c.in-Planned.is [ inl planned ↦ ap stand_of planned | inr actual ↦ ap stand_of actual ] in
    subst (λ (stand : Option StandNo). all_slots c.remove.new.self ≡ filter (is_off stand c.args.part) (all_slots c.args.index.now)) (sym on)
    (removed_slots c.in-Planned.stand c.args.part c.args.index.now c.remove.new.self c.requires.index c.remove.ensures.slots c.remove.ensures.others)

pub returns-in-Planned-clause-index : goal.returns-in-Planned-clause-index
returns-in-Planned-clause-index c =
    removed_index c.in-Planned.stand c.args.part c.args.index.now c.remove.new.self c.requires.index c.remove.ensures.slots c.remove.ensures.others
