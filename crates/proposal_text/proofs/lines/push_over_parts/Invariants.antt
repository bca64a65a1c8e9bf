use Rattle.std.proofs.Common.{◌≡◌, ◌++◌, take}
use Rattle.std.specs.List.{flat_map}
use Rattle.proposal_text.specs.Lines.{over_line}
use Rattle.proposal_text.proofs.lines.push_over_parts.Given as goal

abbrev pub invariant-loop-part : goal.invariant-loop-part
invariant-loop-part l = l.text.items ≡ l.fn.text.items ++ flat_map over_line (take l.part-index l.parts)
