use Rattle.std.proofs.Common.{◌≡◌, ◌++◌, take}
use Rattle.std.specs.List.{flat_map}
use Rattle.proposal_text.specs.Lines.{edit_line}
use Rattle.proposal_text.proofs.lines.push_put_lines.Given as goal

abbrev pub invariant-loop-edit : goal.invariant-loop-edit
invariant-loop-edit l = l.text.items ≡ l.fn.text.items ++ flat_map (edit_line l.airport) (take l.edit-index l.edits)
