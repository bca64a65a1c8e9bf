use Rattle.std.proofs.Common.{sym}
use Rattle.apron_rules.proofs.Phases.{never_apart}
use Rattle.apron_rules.proofs.clash.may_meet.Goals as goal

pub returns-then-first-last : goal.returns-then-first-last
returns-then-first-last c = record {
  never = λ no. never_apart c.args.airport.now c.neighbours.ensures.airport.faultless c.args.p.now c.args.q.now c.args.from c.args.end (rw (sym c.neighbours.ensures.neighbours, sym c.is_listed.ensures.is) no);
}
