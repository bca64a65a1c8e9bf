use Rattle.std.proofs.Common.{◌≡◌, ◌++◌, take}
use Rattle.std.specs.List.{flat_map}
use Rattle.apron_base.specs.Histories.{Every}
use Rattle.entry_bytes.specs.Commits.{edit_fields}
use Rattle.entry_bytes.specs.Fields.{Fits, field_bytes}
use Rattle.entry_bytes.proofs.commits.push_edits.Given as goal

abbrev pub invariant-loop-edit : goal.invariant-loop-edit
invariant-loop-edit l = (l.out.items ≡ l.fn.out.items ++ flat_map field_bytes (flat_map edit_fields (take l.edit-index l.edits)))
    × Every Fits (flat_map edit_fields (take l.edit-index l.edits))
