use Rattle.std.proofs.Common.{arith}
use Rattle.generated_day.proofs.OfDay.{new_of_day}
use Rattle.generated_day.proofs.asks.drawn_visit.Goals as goal

pub returns-clause-new : goal.returns-clause-new
returns-clause-new c =
    new_of_day _ c.draw_below.result c.draw_below-2.result _ c.draw_below-3.result c.day_flight.result c.draw_below.ensures.small c.draw_below-2.ensures.small (omega (arith, c.draw_below-on.ensures.small)) c.draw_below-3.ensures.small c.day_flight.ensures.form
