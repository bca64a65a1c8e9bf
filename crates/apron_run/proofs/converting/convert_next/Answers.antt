use Rattle.std.proofs.Common.{arith}
use Rattle.apron_run.proofs.converting.convert_next.Goals as goal

pub returns-in_ok-push-in-Ok-clause-converted : goal.returns-in_ok-push-in-Ok-clause-converted
returns-in_ok-push-in-Ok-clause-converted c = record {
  new = c.in-Ok.entry;
  after_is = c.in_ok-push-in-Ok.ensures.ok;
  converts = c.in-Ok.ensures.converts;
  size = (c.in-Ok.ensures.some, omega (arith, c.in-Ok.ensures.most));
}
