use Rattle.std.proofs.Common.{rules, ◌≡◌, ◌∙◌, ◌≤◌, ◌<◌, ◌∷◌, [], length, take, get_or, sym, ap, arith}
use Rattle.std.proofs.lemmas.List.{get_or_read}
use Rattle.std.specs.Option.{option_map}
use Rattle.journal_disk.specs.Disk.{with_piece_at}
use Rattle.journal_disk.specs.Entries.{records, with_length}
use Rattle.journal_disk.proofs.Tells.{between_any}
use Rattle.journal_disk.proofs.Writes.{both_put, every_at, goes_further, next_length, next_record}
use Rattle.journal_disk.proofs.sections.put_records.Goals as goal

pub returns-in_err-put_record-clause-crash : goal.returns-in_err-put_record-clause-crash
returns-in_err-put_record-clause-crash g c =
    goes_further c.args.at c.loop-entry.end (omega (arith, c.loop-entry.invariant.end)) _ _ _ c.loop-entry.invariant.crash c.put_record.ensures.crash

pub loop-entry-preserved : goal.loop-entry-preserved
loop-entry-preserved g c =
    let entries = c.args.entries.now in
    let i = c.loop-entry.entry-index in
    let entry = c.as_slice.result.now in
    let so_far = c.loop-entry.invariant in
    let below : i < length entries = omega (arith, c.loop-entry-test.true) in
    let is : entry ≡ get_or entries i [] = c.as_slice.ensures.items ∙ get_or_read entries i c.entry-item.result below c.entry-item.is [] in
    let size = every_at entries i [] c.requires.sizes below in
    let most : length entry ≤ 1024 = omega (arith, ap length is, size.1) in
    let long : c.len.result ≡ length entry = search rules in
    let more = next_length entries i entry below is in
    let put = both_put c.args.at c.loop-entry.end (records (take i entries)) (1 ∷ with_length entry) _ _ _ so_far.end c.requires.inside so_far.put c.in_ok-put_record.ensures.put in
    record {
      tells = between_any _ _ _ so_far.tells c.put_record.ensures.tells;
      crash = goes_further c.args.at c.loop-entry.end (omega (arith, so_far.end)) _ _ _ so_far.crash c.put_record.ensures.crash;
      put = put ∙ ap (λ p. option_map (with_piece_at c.args.at p) (g.D.Disk.state c.args.disk.now).contents) (sym (next_record entries i entry below is));
      end = omega (arith, so_far.end, long, more);
      room = omega (arith, so_far.room, long, most, below);
      counts = c.in_ok-put_record.ensures.counts ∙ so_far.counts;
    }
