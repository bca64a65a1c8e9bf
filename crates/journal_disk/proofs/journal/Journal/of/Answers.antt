use Rattle.std.proofs.Common.{rules, ◌≡◌, false, refl, arith, length}
use Rattle.journal_disk.proofs.ReadTexts.{if_told, read_settled, read_list}
use Rattle.journal_disk.proofs.journal.Journal.of.Goals as goal

pub invariant_of-journal : goal.invariant_of-journal
invariant_of-journal g c =
    let section = c.args.section in
    let count : c.len.result ≡ length section.records.entries.items = search rules in
    record {
      first = c.requires.early;
      few = omega (arith, count, c.requires.few);
      within = omega (arith, count, c.requires.within);
      settled = λ bytes told.
          let whole = c.requires.whole bytes told in
          rw count (read_settled bytes section.first section.records.entries.items section.records.length _ whole.1 whole.0);
    }

pub returns-clause-keeper : goal.returns-clause-keeper
returns-clause-keeper g c =
    let section = c.args.section in
    let count : c.len.result ≡ length section.records.entries.items = search rules in
    record {
      entries = if_told _ _ _ (λ bytes told. read_list bytes section.first section.records.entries.items section.records.length c.len.result false (c.requires.whole bytes told).1);
      number = count;
      at_risk = refl;
    }
