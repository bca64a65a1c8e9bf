use Rattle.std.proofs.Common.{◌∙◌, subst, sym}
use Rattle.std.specs.Prelude.{All}
use Rattle.apron_rules.specs.Clash.{IsSlotOf}
use Rattle.apron_rules.proofs.Symmetry.{if_none_sound}
use Rattle.visit_book.specs.Slots.{slots_of}
use Rattle.plan_core.specs.Working.{replace_visits}
use Rattle.plan_core.proofs.IndexedOut.{index_clear, near_first}
use Rattle.plan_core.proofs.SlotLists.{slots_are}
use Rattle.plan_core.proofs.indexed.first_clash_near.Goals as goal

pub first_clash_without-requires-clause-clear : goal.first_clash_without-requires-clause-clear
first_clash_without-requires-clause-clear g c =
    index_clear c.args.airport.now c.args.index.now c.args.visits.now c.deref.result.now c.requires.indexed c.requires.each c.requires.sound

pub first_clash_without-requires-clause-changed : goal.first_clash_without-requires-clause-changed
first_clash_without-requires-clause-changed g c =
    subst (All (IsSlotOf c.args.airport.now)) (sym c.requires.slots) (slots_are c.args.airport.now c.args.changed.now c.requires.changed)

pub returns-clause-first : goal.returns-clause-first
returns-clause-first g c =
    near_first c.args.airport.now c.args.index.now c.args.visits.now c.args.changed.now c.deref.result.now c.args.slots.now c.in_ok-found.found c.requires.indexed c.requires.each
    c.requires.numbered c.requires.rise (c.deref.ensures.value ∙ c.in_ok-numbers.ensures.numbers) c.requires.slots c.in_ok-found.ensures.first

pub returns-clause-sound : goal.returns-clause-sound
returns-clause-sound g c =
    let airport = c.args.airport.now in
    if_none_sound airport (slots_of airport (replace_visits c.args.visits.now c.args.changed.now)) c.in_ok-found.found
    (near_first airport c.args.index.now c.args.visits.now c.args.changed.now c.deref.result.now c.args.slots.now c.in_ok-found.found c.requires.indexed c.requires.each
    c.requires.numbered c.requires.rise (c.deref.ensures.value ∙ c.in_ok-numbers.ensures.numbers) c.requires.slots c.in_ok-found.ensures.first)
