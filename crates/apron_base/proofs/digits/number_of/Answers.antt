use Rattle.std.proofs.Common.{arith}
use Rattle.apron_base.proofs.SmallNumbers.{small_within}
use Rattle.apron_base.proofs.digits.number_of.Goals as goal

pub returns-clause-small : goal.returns-clause-small
returns-clause-small c =
    small_within c.loop-byte.number c.loop-byte.byte-index c.args.most c.loop-byte.invariant.small (omega arith)
