use Rattle.std.proofs.Common.{◌∙◌, sym}
use Rattle.clash_check.proofs.Among.{with_left_out, with_other}
use Rattle.clash_check.proofs.near.clash_with_other.Goals as goal

pub returns-then-is_of_any : goal.returns-then-is_of_any
returns-then-is_of_any c =
    record { first = with_left_out c.args.airport.now c.args.slot.now c.args.other.now c.args.without.now (sym c.is_of_any.ensures.is ∙ c.if-is_of_any.true) }

pub returns-else-is_of_any : goal.returns-else-is_of_any
returns-else-is_of_any c =
    record { first = with_other c.args.airport.now c.args.slot.now c.args.other.now c.args.without.now c.clash_of_both.result (sym c.is_of_any.ensures.is ∙ c.if-is_of_any.false) c.clash_of_both.ensures.first }
