use Rattle.std.proofs.Common.{rules, ◌≡◌, ◌∙◌, ◌≤◌, ap, sym, arith, true, length, take, drop, ◌-◌}
use Rattle.std.specs.Prelude.{None, Some}
use Rattle.journal_disk.specs.Entries.{entries_from, section_length}
use Rattle.journal_disk.specs.Faults.{TextFails}
use Rattle.journal_disk.specs.Header.{behind_section, is_new, or_bad_record}
use Rattle.journal_disk.specs.Limits.{first_gate, most_entries}
use Rattle.journal_disk.specs.Opening.{IsPassed, IsReadJournal}
use Rattle.std.proofs.lemmas.List.{take_rest}
use Rattle.journal_disk.proofs.Fronts.{header_tested, new_opening, not_passed}
use Rattle.journal_disk.proofs.OpenedTexts.{records_fail}
use Rattle.journal_disk.proofs.ReadTexts.{new_section}
use Rattle.journal_disk.proofs.Tells.{if_err_is}
use Rattle.journal_disk.proofs.opening.read_text.Goals as goal

pub returns-in_default-clause-refused : goal.returns-in_default-clause-refused
returns-in_default-clause-refused c =
    let text = c.args.text.now in
    let new : is_new text ≡ true = search rules in
    let right = c.in_ok-test_header.ensures.passed in
    let none : None ≡ section_length (entries_from most_entries (take (length text - 72) (drop 72 text))) = search rules in
    not_passed c.args.digests.now text right new (ap (λ l. section_length (entries_from most_entries l)) (sym (take_rest text first_gate)) ∙ sym none)

pub returns-in_err-records-clause-refused : goal.returns-in_err-records-clause-refused
returns-in_err-records-clause-refused c =
    let text = c.args.text.now in
    let new : is_new text ≡ true = search rules in
    let right = c.in_ok-test_header.ensures.passed in
    let first = behind_section c.in-Some.size in
    let passed : Some c.in-Some.size ≡ section_length (entries_from most_entries (take (length text - 72) (drop 72 text))) = c.in-Some.ensures.length in
    let opens = new_opening c.args.digests.now text c.in-Some.size right new (ap (λ l. section_length (entries_from most_entries l)) (sym (take_rest text first_gate)) ∙ sym passed) ∙ ap (λ l. or_bad_record (entries_from most_entries l)) (sym (take_rest text first)) in
    if_err_is (TextFails c.args.digests.now text) c.from_residual-in_err-records.result _ c.from_residual-in_err-records.ensures.1 (records_fail _ _ _ opens c.in_err-records.ensures.refused)

pub returns-clause-opened : goal.returns-clause-opened
returns-clause-opened c =
    let text = c.args.text.now in
    let new : is_new text ≡ true = search rules in
    let right = c.in_ok-test_header.ensures.passed in
    let first = behind_section c.in-Some.size in
    let passed : Some c.in-Some.size ≡ section_length (entries_from most_entries (take (length text - 72) (drop 72 text))) = c.in-Some.ensures.length in
    new_opening c.args.digests.now text c.in-Some.size right new (ap (λ l. section_length (entries_from most_entries l)) (sym (take_rest text first_gate)) ∙ sym passed)
    ∙ ap (λ l. or_bad_record (entries_from most_entries l)) (sym (take_rest text first))
    ∙ ap or_bad_record c.in_ok-records.ensures.entries

pub returns-clause-whole : goal.returns-clause-whole
returns-clause-whole c =
    let text = c.args.text.now in
    let new : is_new text ≡ true = search rules in
    let magic = header_tested c.args.digests.now text c.in_ok-test_header.ensures.passed in
    let long : first_gate ≤ length text = omega (arith, c.in_ok-test_header.ensures.long) in
    let old : IsPassed (drop first_gate text) c.in-Some.size = rw (← take_rest text first_gate) c.in-Some.ensures.whole in
    let read : IsReadJournal (drop (behind_section c.in-Some.size) text) c.in_ok-records.records.entries.items c.in_ok-records.records.length = rw (← take_rest text (behind_section c.in-Some.size)) c.in_ok-records.ensures.whole in
    new_section text c.in-Some.size c.in_ok-records.records.entries.items c.in_ok-records.records.length long magic new old read
