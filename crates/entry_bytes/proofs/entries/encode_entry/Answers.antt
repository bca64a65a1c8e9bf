use Rattle.std.proofs.Common.{◌≡◌, arith}
use Rattle.std.proofs.lemmas.Grind.{common_steps}
use Rattle.entry_bytes.specs.Entries.{entry_text}
use Rattle.entry_bytes.proofs.Lengths.{length-entry}
use Rattle.entry_bytes.proofs.entries.encode_entry.Goals as goal

pub returns-clause-most : goal.returns-clause-most
returns-clause-most c =
    let text : c.from_vec.result ≡ entry_text c.args.entry.now = grind (arith, common_steps) in
    rw text (length-entry c.args.entry.now c.in_ok-push_command.ensures.fits c.requires.command)

pub returns-clause-entry : goal.returns-clause-entry
returns-clause-entry c = λ airport h. record { call = c.requires.call; fits = c.in_ok-push_command.ensures.fits; command = h }
