use Rattle.std.proofs.Common.{◌≡◌, ◌++◌, take}
use Rattle.std.specs.List.{flat_map}
use Rattle.proposal_text.specs.Reasons.{reason_lines}
use Rattle.proposal_text.proofs.lines.push_left_parts.Given as goal

abbrev pub invariant-loop-left : goal.invariant-loop-left
invariant-loop-left l = l.text.items ≡ l.fn.text.items ++ flat_map (reason_lines l.airport) (take l.left-index l.lefts)
