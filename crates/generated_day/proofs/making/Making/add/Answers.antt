use Rattle.std.proofs.Common.{◌≡◌, ap, ◌∙◌}
use Rattle.generated_day.specs.Draws.{next_seed, seed_after}
use Rattle.generated_day.specs.Makings.{day_so_far}
use Rattle.generated_day.proofs.Steps.{added-by}
use Rattle.generated_day.proofs.making.Making.add.Goals as goal

pub returns : goal.returns
returns c =
    let (reply, asked) = c.in_ok-ask.ensures.asked in
    let drawn : c.next_seed-self.result ≡ seed_after 4 c.ask.new.self.seed =
    c.next_seed-self.ensures.value ∙ ap next_seed (c.next_seed-3.ensures.value ∙ ap next_seed (c.next_seed-2.ensures.value ∙ ap next_seed c.next_seed.ensures.value)) in
    record { added = added-by c.args.number c.next_seed-self.result (day_so_far c.args.self.now) (day_so_far c.ask.new.self) c.in_ok-new.new reply c.in_ok-new.ensures.is asked drawn }
