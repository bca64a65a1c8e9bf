use Rattle.std.proofs.Common.{◌≡◌, ◌∙◌, ◌+◌, ◌-◌, ◌∷◌, [], List, Option, ℕ, length, ap, arith, subst, sym}
use Rattle.journal_disk.specs.Disk.DoneCall.{DoneSync}
use Rattle.journal_disk.specs.Disk.{Between, Does, safe_write}
use Rattle.journal_disk.specs.Entries.{last_record}
use Rattle.journal_disk.proofs.OpenedTexts.{records_bound}
use Rattle.journal_disk.proofs.Rereading.{gate_inside, gate_within, last_fits}
use Rattle.journal_disk.proofs.Tells.{Any, does_both, told_same}
use Rattle.journal_disk.proofs.opening.reread_journal.Goals as goal

pub overflow_add-place : goal.overflow_add-place
overflow_add-place g c = omega (arith, gate_within _ _ _ _ c.in_ok-text.ensures.read.1)

pub overflow_sub-place : goal.overflow_sub-place
overflow_sub-place g c =
    let items = c.in_ok-text.section.records.entries.items in
    let last : c.last_record-last.result ≡ last_record items = c.last_record-last.ensures.length ∙ ap last_record c.deref.ensures.value in
    omega (arith, last, last_fits items, c.in_ok-text.ensures.read.1.read.size_is)

pub overflow_add-last : goal.overflow_add-last
overflow_add-last g c =
    let items = c.in_ok-text.section.records.entries.items in
    let section = c.in_ok-text.ensures.read.1 in
    let last : c.last_record-last.result ≡ last_record items = c.last_record-last.ensures.length ∙ ap last_record c.deref.ensures.value in
    omega (arith, last, last_fits items, section.read.size_is, gate_within _ _ _ _ section)

pub write_back-requires-clause-inside : goal.write_back-requires-clause-inside
write_back-requires-clause-inside g c =
    let items = c.in_ok-text.section.records.entries.items in
    let section = c.in_ok-text.ensures.read.1 in
    let last : c.last_record-last.result ≡ last_record items = c.last_record-last.ensures.length ∙ ap last_record c.deref.ensures.value in
    omega (arith, last, last_fits items, section.read.size_is, gate_inside _ _ _ _ section, ap length c.deref-2.ensures.value)

pub write_back-requires-clause-fits : goal.write_back-requires-clause-fits
write_back-requires-clause-fits g c = omega (arith, gate_within _ _ _ _ c.in_ok-text.ensures.read.1)

pub returns-clause-within : goal.returns-clause-within
returns-clause-within g c =
    let read = c.in_ok-text.ensures.read.1.read in
    omega (arith, read.size_is, records_bound c.in_ok-text.section.records.entries.items read.sizes)

pub returns-clause-again : goal.returns-clause-again
returns-clause-again g c =
    let before = g.D.Disk.state c.args.disk.now in
    let read = g.D.Disk.state c.read_section.new.disk in
    let after = g.D.Disk.state c.write_back.new.disk in
    let place = c.in_ok-text.section.first + c.in_ok-text.section.records.length in
    let items = c.in_ok-text.section.records.entries.items in
    let last : c.last_record-last.result ≡ last_record items = c.last_record-last.ensures.length ∙ ap last_record c.deref.ensures.value in
    let tells = subst (λ (o : Option (List ℕ)). Between Any before.contents o) (sym c.read_section.ensures.stays.contents) (told_same before.contents) in
    does_both (DoneSync ∷ []) (safe_write (place - last_record items) (last_record items + 1)) before read after c.in_ok-text.ensures.done tells
    (subst (λ (n : ℕ). Does (safe_write (place - n) (n + 1)) read after) last c.in_ok-write_back.ensures.done)
