use Rattle.std.proofs.Common.{rules, ◌≡◌, ◌-◌, ◌<◌, ℕ, length, get_or, arith}
use Rattle.std.specs.Prelude.{Some}
use Rattle.journal_disk.specs.Entries.{entries_from, section_length}
use Rattle.journal_disk.specs.Limits.{most_entries}
use Rattle.journal_disk.proofs.RecordTexts.{passed_is}
use Rattle.journal_disk.proofs.records.pass_records.Goals as goal

pub returns-clause-whole : goal.returns-clause-whole
returns-clause-whole c =
    let fits : (i : ℕ) → get_or c.args.text.now i 0 < 256 = λ i. omega (arith, c.type_inv.text i) in
    let passed : section_length (entries_from most_entries c.args.text.now) ≡ Some (length c.args.text.now - length c.loop-after.rest.now) = search rules in
    passed_is c.args.text.now _ fits passed
