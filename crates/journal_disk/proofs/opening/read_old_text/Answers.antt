use Rattle.std.proofs.Common.{rules, ◌≡◌, ◌∙◌, ◌≤◌, ap, sym, arith, false, length, drop}
use Rattle.journal_disk.specs.Entries.{entries_from}
use Rattle.journal_disk.specs.Faults.{OldTextFails}
use Rattle.journal_disk.specs.Header.{as_old, is_new, or_bad_record}
use Rattle.journal_disk.specs.Limits.{first_gate, most_entries}
use Rattle.journal_disk.specs.Opening.{IsReadJournal}
use Rattle.std.proofs.lemmas.List.{take_rest}
use Rattle.journal_disk.proofs.Fronts.{header_tested, old_opening}
use Rattle.journal_disk.proofs.OpenedTexts.{old_records_fail}
use Rattle.journal_disk.proofs.ReadTexts.{old_section}
use Rattle.journal_disk.proofs.Tells.{if_err_is}
use Rattle.journal_disk.proofs.opening.read_old_text.Goals as goal

pub returns-in_err-records-clause-refused : goal.returns-in_err-records-clause-refused
returns-in_err-records-clause-refused c =
    let text = c.args.text.now in
    let old : is_new text ≡ false = search rules in
    let right = c.in_ok-test_header.ensures.passed in
    let opens = old_opening c.args.digests.now text right old ∙ ap (λ l. as_old (or_bad_record (entries_from most_entries l))) (sym (take_rest text first_gate)) in
    if_err_is (OldTextFails c.args.digests.now text) c.from_residual-in_err-records.result _ c.from_residual-in_err-records.ensures.1 (old_records_fail _ _ _ opens c.in_err-records.ensures.refused)

pub returns-clause-opened : goal.returns-clause-opened
returns-clause-opened c =
    let text = c.args.text.now in
    let old : is_new text ≡ false = search rules in
    let right = c.in_ok-test_header.ensures.passed in
    old_opening c.args.digests.now text right old ∙ ap (λ l. as_old (or_bad_record (entries_from most_entries l))) (sym (take_rest text first_gate))
    ∙ ap (λ r. as_old (or_bad_record r)) c.in_ok-records.ensures.entries

pub returns-clause-whole : goal.returns-clause-whole
returns-clause-whole c =
    let text = c.args.text.now in
    let old : is_new text ≡ false = search rules in
    let magic = header_tested c.args.digests.now text c.in_ok-test_header.ensures.passed in
    let long : first_gate ≤ length text = omega (arith, c.in_ok-test_header.ensures.long) in
    let read : IsReadJournal (drop first_gate text) c.in_ok-records.records.entries.items c.in_ok-records.records.length = rw (← take_rest text first_gate) c.in_ok-records.ensures.whole in
    old_section text c.in_ok-records.records.entries.items c.in_ok-records.records.length long magic old read
