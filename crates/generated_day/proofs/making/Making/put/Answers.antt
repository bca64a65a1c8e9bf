use Rattle.std.proofs.Common.{◌≡◌}
use Rattle.generated_day.specs.Asked.{put_first}
use Rattle.generated_day.specs.Days.{plan_of}
use Rattle.generated_day.specs.Makings.{day_so_far}
use Rattle.generated_day.proofs.Steps.{put-by}
use Rattle.generated_day.proofs.making.Making.put.Goals as goal

pub returns-clause-put : goal.returns-clause-put
returns-clause-put c =
    let now = c.args.self.now in
    let day = day_so_far now in
    let (reply, asked) = c.in_ok-ask.ensures.asked in
    let version : c.version-version.result ≡ (plan_of day).version = rw (c.plan.ensures.replay, now.of_day) at c.version-version.ensures.value in
    let same : c.in_ok-command.command ≡ put_first day.draft (plan_of day).version c.args.number c.args.stand = rw version at c.in_ok-command.ensures.is in
    put-by c.args.number c.args.stand c.in_ok-self.field-0 day (day_so_far c.ask.new.self) c.in_ok-command.command reply same asked c.in_ok-self.ensures.sum
