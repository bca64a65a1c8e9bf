use Rattle.std.proofs.Common.{◌≡◌, ◌∙◌, ◌-◌, length, drop, take, arith, rules}
use Rattle.std.specs.Prelude.{nat_le}
use Rattle.std.proofs.lemmas.Bool.Decides.{nat_tests}
use Rattle.std.proofs.lemmas.List.{length-drop, take_all}
use Rattle.std.proofs.lemmas.List.Sorted.{IsPartitionPoint-from_clause, IsPartitionedBy-leb}
use Rattle.watch_list.specs.declared.note.Note.{Note}
use Rattle.watch_list.proofs.LaterNotes.{later_from}
use Rattle.watch_list.proofs.later.later_notes.Goals as goal

pub returns : goal.returns
returns c =
    let notes = c.args.notes.now in
    let after = c.args.after in
    let first = c.partition_point-first.result in
    let parts = IsPartitionPoint-from_clause (λ (note : Note). nat_le note.entry after) notes first c.partition_point-first.ensures.partitioned
    (IsPartitionedBy-leb (λ (note : Note). note.entry) notes after c.requires.ordered) (λ a r f called. search rules) in
    let all : take (length notes - first) (drop first notes) ≡ drop first notes =
    take_all (length notes - first) (drop first notes) (omega (arith, length-drop first notes)) in
    record {
      later = all
          ∙ later_from after notes first
          (λ k d below within. let early = parts.0 k d (omega arith) below in grind (arith, nat_tests, early))
          (λ k d from within. let late = parts.1 k d from within in grind (arith, nat_tests, late));
    }
