use Rattle.std.proofs.Common.{◌≡◌, ◌∙◌, ◌++◌, List, ap, take}
use Rattle.std.specs.List.{flat_map}
use Rattle.std.proofs.lemmas.List.{take_all}
use Rattle.apron_base.specs.declared.numbers.PartId.{PartId}
use Rattle.history_core.specs.Bumped.{last_bumped}
use Rattle.watch_list.specs.declared.note.Note.{Note}
use Rattle.watch_list.specs.Notes.{notes_by, notes_of_part}
use Rattle.watch_list.proofs.PartNotes.{part_notes}
use Rattle.watch_list.proofs.entry_notes.push_notes.Goals as goal

pub returns : goal.returns
returns c =
    let plan = c.args.plan.now.plan in
    let of_part = notes_of_part plan.version plan.visits in
    let all : take c.loop-part.part-index c.args.bumped.now ≡ last_bumped plan =
    take_all c.loop-part.part-index c.args.bumped.now c.loop-part-test.false ∙ c.requires.bumped in
    let notes : flat_map of_part (take c.loop-part.part-index c.args.bumped.now) ≡ notes_by plan.version plan.visits =
    ap (λ (parts : List PartId). flat_map of_part parts) all ∙ part_notes plan.version plan.visits c.visits-known.ensures.plan.numbered in
    record { notes = c.loop-part.invariant.notes ∙ ap (λ (l : List Note). c.args.notes.now.items ++ l) notes }
