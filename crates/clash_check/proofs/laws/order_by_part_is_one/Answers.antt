use Rattle.clash_check.proofs.Ordered.{order_one}
use Rattle.clash_check.proofs.laws.order_by_part_is_one.Goals as goal

pub returns : goal.returns
returns c = record { one = order_one }
