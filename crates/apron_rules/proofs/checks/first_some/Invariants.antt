use Rattle.std.proofs.Common.{◌≡◌, drop}
use Rattle.apron_rules.specs.Refusals.{first_some}
use Rattle.apron_rules.proofs.checks.first_some.Given as goal

-- none of the limits before is given
abbrev pub invariant-loop-limit : goal.invariant-loop-limit
invariant-loop-limit l = first_some (drop l.limit-index l.limits) ≡ first_some l.limits
