use Rattle.std.proofs.Common.{◌≡◌, arith}
use Rattle.std.proofs.lemmas.Grind.{common_steps}
use Rattle.mvt_grammar.specs.Reading.{read_mvt_of}
use Rattle.mvt_grammar.proofs.Gives.{IfOk-readable}
use Rattle.mvt_grammar.proofs.reading.read_mvt.Goals as goal

pub returns-in-Ok-clause-readable : goal.returns-in-Ok-clause-readable
returns-in-Ok-clause-readable c =
    let same : c.with_elements.result ≡ read_mvt_of c.args.text.now = grind (arith, common_steps) in
    IfOk-readable c.args.text.now c.with_elements.result same
