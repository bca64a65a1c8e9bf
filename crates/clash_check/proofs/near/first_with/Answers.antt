use Rattle.std.proofs.Common.{refl}
use Rattle.clash_check.specs.Clear.{others_of}
use Rattle.clash_check.proofs.Among.{with_more}
use Rattle.clash_check.proofs.near.first_with.Goals as goal

pub returns-clause-first : goal.returns-clause-first
returns-clause-first g c =
    with_more c.args.airport.now c.args.slot.now (others_of c.args.index.now c.args.without.now) c.args.more.now _ c.in_ok-near.near c.first_among.result c.sooner-found.result refl
    c.in_ok-near.ensures.first c.first_among.ensures.first c.sooner-found.ensures.sooner
