use Rattle.std.proofs.Common.{◌≡◌, [], replicate}
use Rattle.apron_rules.proofs.links.no_pairs.Given as goal

abbrev pub invariant-loop-stand : goal.invariant-loop-stand
invariant-loop-stand l = l.pairs.items ≡ replicate l._stand []
