use Rattle.std.proofs.Common.{◌≡◌, ◌≤◌, ◌+◌, ◌++◌, take}
use Rattle.std.specs.Prelude.{vec_capacity, vec_len}
use Rattle.std.specs.List.{flat_map}
use Rattle.watch_list.specs.Notes.{notes_of_part}
use Rattle.watch_list.proofs.entry_notes.push_notes.Given as goal

abbrev pub invariant-loop-part : goal.invariant-loop-part
invariant-loop-part l = record {
  notes : l.notes.items ≡ l.fn.notes.items ++ flat_map (notes_of_part l.plan.plan.version l.plan.plan.visits) (take l.part-index l.bumped);
  few : vec_len l.notes ≤ vec_len l.fn.notes + l.part-index;
  capacity : vec_capacity l.notes ≡ vec_capacity l.fn.notes;
}
