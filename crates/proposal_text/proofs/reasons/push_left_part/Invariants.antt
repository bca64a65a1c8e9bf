use Rattle.std.proofs.Common.{◌≡◌, ◌++◌, drop}
use Rattle.std.specs.List.{enumerate_from, flat_map}
use Rattle.proposal_text.specs.Reasons.{reason_line}
use Rattle.proposal_text.proofs.reasons.push_left_part.Given as goal

abbrev pub invariant-loop-place : goal.invariant-loop-place
invariant-loop-place l =
    l.text.items ++ flat_map (reason_line l.airport l.left.part) (enumerate_from l.place (drop l.place l.whys))
    ≡ l.fn.text.items ++ flat_map (reason_line l.airport l.left.part) (enumerate_from 0 l.whys)
