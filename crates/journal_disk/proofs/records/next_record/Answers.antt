use Rattle.std.proofs.Common.{arith, ◌<◌}
use Rattle.journal_disk.specs.Limits.{most_entries}
use Rattle.journal_disk.proofs.RecordTexts.{turn_end, turn_closed, turn_full, next_some, next_none}
use Rattle.journal_disk.proofs.records.next_record.Goals as goal

pub returns-in_default-clause-refused : goal.returns-in_default-clause-refused
returns-in_default-clause-refused c = turn_end c.args.number c.args.text.now c.requires.few (omega (arith, c.in_default.len_below))

pub returns-then-gate-ne-OPEN-clause-next : goal.returns-then-gate-ne-OPEN-clause-next
returns-then-gate-ne-OPEN-clause-next c = turn_closed _ c.args.text.now c.in-len1-up.len_at_least c.if-gate-ne-OPEN.true

pub returns-then-number-clause-refused : goal.returns-then-number-clause-refused
returns-then-number-clause-refused c = turn_full c.args.number c.args.text.now c.in-len1-up.len_at_least c.if-gate-ne-OPEN.false c.if-number.true

pub returns-in-Some-clause-next : goal.returns-in-Some-clause-next
returns-in-Some-clause-next c =
    let few : c.args.number < most_entries = omega (arith, c.requires.few, c.if-number.false) in
    next_some c.args.number c.args.text.now _ _ c.in-len1-up.len_at_least c.if-gate-ne-OPEN.false few c.in-Some.ensures.value

pub returns-in-None-clause-refused : goal.returns-in-None-clause-refused
returns-in-None-clause-refused c =
    let few : c.args.number < most_entries = omega (arith, c.requires.few, c.if-number.false) in
    next_none c.args.number c.args.text.now c.in-len1-up.len_at_least c.if-gate-ne-OPEN.false few c.in-None.ensures.value
