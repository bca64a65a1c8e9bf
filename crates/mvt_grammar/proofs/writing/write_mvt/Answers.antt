use Rattle.std.proofs.Common.{◌≡◌, append_assoc, arith}
use Rattle.std.proofs.lemmas.Grind.{common_steps}
use Rattle.mvt_grammar.specs.Canonical.{canonical}
use Rattle.mvt_grammar.proofs.Written.{canonical-led}
use Rattle.mvt_grammar.proofs.Lengths.{length-canonical}
use Rattle.mvt_grammar.proofs.writing.write_mvt.Goals as goal

pub returns-clause-text : goal.returns-clause-text
returns-clause-text c = let led = canonical-led c.args.message.now in grind (arith, common_steps, append_assoc)

pub returns-clause-length : goal.returns-clause-length
returns-clause-length c =
    let led = canonical-led c.args.message.now in
    let short = length-canonical c.args.message.now c.requires.valid in
    let text : c.from_vec.result ≡ canonical c.args.message.now = grind (arith, common_steps, append_assoc) in
    rw text short
