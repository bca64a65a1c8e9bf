use Rattle.std.proofs.Common.{Ok, sym, get_or, arith, ℕ, ◌<◌, ◌-◌, ap, ◌∙◌, ◌≡◌, ◌++◌, ◌∷◌, [], rules, length}
use Rattle.std.proofs.lemmas.List.{append-nil}
use Rattle.journal_disk.specs.Entries.{entries_from}
use Rattle.journal_disk.specs.Limits.{most_entries}
use Rattle.journal_disk.proofs.RecordTexts.{after_entries, turn, read_is}
use Rattle.journal_disk.proofs.records.read_records.Goals as goal

pub loop-entries-preserved : goal.loop-entries-preserved
loop-entries-preserved c =
    let pushed : c.push.new.self.items ≡ c.loop-entries.entries.items ++ c.in-Some.entry.now ∷ [] = search rules in
    let count : c.len.result ≡ length c.loop-entries.entries.items = search rules in
    let next = rw c.in-Some.is at c.in_ok-entry.ensures.next in
    let all = turn c.args.text.now c.loop-entries.rest.now c.in-Some.after.now c.in-Some.entry.now c.loop-entries.entries.items c.push.new.self.items c.len.result pushed count next c.loop-entries.invariant.read c.loop-entries.invariant.length in
    record { few = all.0; read = all.1; length = all.2 }

pub returns-clause-whole : goal.returns-clause-whole
returns-clause-whole c =
    let next = rw c.in_default.is at c.in_ok-entry.ensures.next in
    let count : c.len.result ≡ length c.loop-entries.entries.items = search rules in
    let fits : (i : ℕ) → get_or c.args.text.now i 0 < 256 = λ i. omega (arith, c.type_inv.text i) in
    let ok : entries_from most_entries c.args.text.now ≡ Ok c.loop-entries.entries.items =
    c.loop-entries.invariant.read
    ∙ ap (λ n. after_entries c.loop-entries.entries.items (entries_from (most_entries - n) c.loop-entries.rest.now)) (sym count)
    ∙ ap (after_entries c.loop-entries.entries.items) next
    ∙ ap (λ es. Ok es) (append-nil c.loop-entries.entries.items) in
    let read = read_is most_entries c.args.text.now c.loop-entries.entries.items fits ok in
    record { sizes = read.sizes; few = read.few; closed = read.closed; size_is = omega (arith, c.loop-entries.invariant.length) }
