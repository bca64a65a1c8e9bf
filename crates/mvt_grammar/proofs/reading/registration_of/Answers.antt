use Rattle.mvt_grammar.proofs.Names.{registration_from}
use Rattle.std.proofs.Common.{arith}
use Rattle.mvt_grammar.proofs.reading.registration_of.Goals as goal

pub returns-then-text-le10 : goal.returns-then-text-le10
returns-then-text-le10 c = record { value = registration_from c.args.text.now c.new.result (omega arith) c.new.ensures.form }
