use Rattle.std.proofs.Common.{◌≡◌, ◌+◌, length, true, false, ap, sym, refl, add-zero, ◌∙◌}
use Rattle.std.proofs.lemmas.Bool.{le-ltb, lt-ltb}
use Rattle.bump_core.specs.Bumped.{bumped_by}
use Rattle.generated_day.specs.Asked.{passed_on}
use Rattle.generated_day.specs.Days.{count_bumped, is_accepted, plan_of}
use Rattle.generated_day.specs.Makings.{day_so_far}
use Rattle.generated_day.proofs.Steps.{delayed-by}
use Rattle.generated_day.proofs.Bumped.{message_counts, message_counts_none}
use Rattle.generated_day.proofs.making.Making.delay.Goals as goal

pub returns-in_ok-self : goal.returns-in_ok-self
returns-in_ok-self c =
    let now = c.args.self.now in
    let day = day_so_far now in
    let after = c.ask.new.self in
    let asked = day_so_far after in
    let message = c.estimate-message.result in
    let (reply, made) = c.in_ok-ask.ensures.asked in
    let is = rw c.literal.ensures.text at made in
    let accepted : is_accepted day asked ≡ true = lt-ltb _ _ (rw (c.history-before.ensures.value, c.history.ensures.value) at c.if-before-history.true) in
    let same = rw (c.scheduled_on-on.ensures.is, c.draw_below.ensures.value, c.next_seed-seed.ensures.value) at c.estimate-message.ensures.is in
    let plan : c.plan-plan.result.now.plan ≡ plan_of asked = rw after.of_day at c.plan-plan.ensures.replay in
    let version : c.version.result ≡ (plan_of asked).version = rw plan at c.version.ensures.value in
    let visits : c.visits.result.now ≡ (plan_of asked).visits = rw plan at c.visits.ensures.value in
    let parts : c.in_ok-parts.parts ≡ bumped_by (plan_of asked).version (plan_of asked).visits = rw (version, visits) at c.in_ok-parts.ensures.is in
    let count : c.len.result ≡ count_bumped reply.told = c.len.ensures.count ∙ ap length parts ∙ sym (message_counts day asked (passed_on message) reply is accepted) in
    record { delayed = delayed-by c.args.number c.next_seed-seed.result c.in_ok-self.field-0 day asked message reply same is c.next_seed-seed.ensures.value (c.in_ok-self.ensures.sum ∙ ap (λ n. after.bumped + n) count) }

pub returns-else-before-history : goal.returns-else-before-history
returns-else-before-history c =
    let day = day_so_far c.args.self.now in
    let after = c.ask.new.self in
    let asked = day_so_far after in
    let message = c.estimate-message.result in
    let (reply, made) = c.in_ok-ask.ensures.asked in
    let is = rw c.literal.ensures.text at made in
    let refused : is_accepted day asked ≡ false = le-ltb _ _ (rw (c.history-before.ensures.value, c.history.ensures.value) at c.if-before-history.false) in
    let same = rw (c.scheduled_on-on.ensures.is, c.draw_below.ensures.value, c.next_seed-seed.ensures.value) at c.estimate-message.ensures.is in
    let count : after.bumped ≡ after.bumped + count_bumped reply.told = rw (message_counts_none day asked (passed_on message) reply is refused, add-zero) refl in
    record { delayed = delayed-by c.args.number c.next_seed-seed.result after.bumped day asked message reply same is c.next_seed-seed.ensures.value count }
