use Rattle.std.proofs.Common.{◌≡◌, ◌≤◌, length, take}
use Rattle.mvt_grammar.specs.Pieces.{without_spaces}
use Rattle.mvt_grammar.proofs.pieces.without_spaces.Given as goal

abbrev pub invariant-loop-end : goal.invariant-loop-end
invariant-loop-end l = (l.end ≤ length l.text) × (without_spaces (take l.end l.text) ≡ without_spaces l.text)

abbrev pub decreases-loop-end : goal.decreases-loop-end
decreases-loop-end l = l.end
