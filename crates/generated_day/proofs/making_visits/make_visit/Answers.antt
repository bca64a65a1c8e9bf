use Rattle.std.proofs.Common.{◌%◌, refl}
use Rattle.std.proofs.lemmas.Bool.{eq-eqb, ne_eqb}
use Rattle.generated_day.specs.Makings.{day_so_far}
use Rattle.generated_day.proofs.making_visits.make_visit.Goals as goal

pub returns-in_ok-delay : goal.returns-in_ok-delay
returns-in_ok-delay c = record {
  made = (day_so_far c.add.new.self, day_so_far c.place_visit.new.making, c.in_ok-add.ensures.added, c.in_ok-place_visit.ensures.placed, rw (eq-eqb (c.args.number % 4) 0 c.if-number-eq0.true) c.in_ok-delay.ensures.delayed);
}

pub returns-else-number-eq0 : goal.returns-else-number-eq0
returns-else-number-eq0 c = record {
  made = (day_so_far c.add.new.self, day_so_far c.place_visit.new.making, c.in_ok-add.ensures.added, c.in_ok-place_visit.ensures.placed, rw (ne_eqb (c.args.number % 4) 0 c.if-number-eq0.false) refl);
}
