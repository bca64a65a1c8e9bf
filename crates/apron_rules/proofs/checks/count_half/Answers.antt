use Rattle.apron_rules.proofs.Counts.{count_next}
use Rattle.apron_rules.proofs.checks.count_half.Goals as goal

pub returns-in-Ok-clause-counted : goal.returns-in-Ok-clause-counted
returns-in-Ok-clause-counted c name =
    rw c.in-Some.is (count_next c.args.halves.now c.insert.new.self c.in-Some.whole c.halves_of-before.result c.halves_of-before.ensures.is c.in-Ok.ensures.updates name)
