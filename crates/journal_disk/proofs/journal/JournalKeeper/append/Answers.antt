use Rattle.std.proofs.Common.{rules, ◌∙◌, ◌<◌, ◌+◌, length, ap, arith, refl}
use Rattle.std.specs.Prelude.{true, false}
use Rattle.apron_base.specs.Keeper.{AddsEntry, FailsToAdd}
use Rattle.journal_disk.specs.Disk.{Does, safe_write}
use Rattle.journal_disk.specs.Entries.{IsEntry}
use Rattle.journal_disk.specs.Extent.{append_calls, extent_of, keeper_of}
use Rattle.journal_disk.specs.Gates.{mending_calls}
use Rattle.journal_disk.specs.Limits.{most_entries, record_frame}
use Rattle.journal_disk.proofs.Appending.{inside, mending_failed, stage_inside, staging_failed, set_inside, opening_failed, has_added, with_entry, with_gate}
use Rattle.journal_disk.proofs.Tells.{continues_both, counts_then, does_both, on_err}
use Rattle.journal_disk.proofs.journal.JournalKeeper.append.Goals as goal

pub mend-requires : goal.mend-requires
mend-requires g c =
    let extent = extent_of c.self.inside.first c.self.inside.place c.self.inside.number c.self.inside.unclean in
    let before = g.D.Disk.state c.self.inside.disk in
    let reads = g.met.D.Disk.reads c.self.inside.disk in
    record { inside = inside extent before c.self.invariant reads }

pub invariant_of-self : goal.invariant_of-self
invariant_of-self g c =
    let extent = extent_of c.self.inside.first c.self.inside.place c.self.inside.number c.self.inside.unclean in
    let before = g.D.Disk.state c.self.inside.disk in
    let reads = g.met.D.Disk.reads c.self.inside.disk in
    let size : IsEntry c.args.entry.now = (c.requires.some, c.requires.most) in
    let room : c.self.inside.number < most_entries = omega (arith, ap (λ j. j.extent.number) c.self.view_is, c.requires.few) in
    let ended = mending_failed extent before c.self.invariant reads c.args.entry.now size room (g.D.Disk.state c.mend.new.disk) c.mend.ensures.continues (g.met.D.Disk.reads c.mend.new.disk) c.mend.ensures.crash in
    ended.kept

pub returns-in_err-mend : goal.returns-in_err-mend
returns-in_err-mend g c =
    let extent = extent_of c.self.inside.first c.self.inside.place c.self.inside.number c.self.inside.unclean in
    let before = g.D.Disk.state c.self.inside.disk in
    let reads = g.met.D.Disk.reads c.self.inside.disk in
    let size : IsEntry c.args.entry.now = (c.requires.some, c.requires.most) in
    let room : c.self.inside.number < most_entries = omega (arith, ap (λ j. j.extent.number) c.self.view_is, c.requires.few) in
    let ended = mending_failed extent before c.self.invariant reads c.args.entry.now size room (g.D.Disk.state c.mend.new.disk) c.mend.ensures.continues (g.met.D.Disk.reads c.mend.new.disk) c.mend.ensures.crash in
    let failed : FailsToAdd (keeper_of extent before) (keeper_of extent (g.D.Disk.state c.mend.new.disk)) c.args.entry.now = record { entries = ended.entries; number = refl; at_risk = ended.at_risk; faults = c.in_err-mend.ensures.counts } in
    record {
      ok = search rules;
      done = search rules;
      err = on_err c.from_residual.result (rw (← c.self.view_is) failed);
      continues = rw (← c.self.view_is) c.mend.ensures.continues;
      crash = rw (← c.self.view_is) ended.crash;
      afterwards = ended.afterwards;
    }

pub stage-requires-clause-inside : goal.stage-requires-clause-inside
stage-requires-clause-inside g c =
    let extent = extent_of c.self.inside.first c.self.inside.place c.self.inside.number c.self.inside.unclean in
    let before = g.D.Disk.state c.self.inside.disk in
    let reads = g.met.D.Disk.reads c.self.inside.disk in
    let size : IsEntry c.args.entry.now = (c.requires.some, c.requires.most) in
    let room : c.self.inside.number < most_entries = omega (arith, ap (λ j. j.extent.number) c.self.view_is, c.requires.few) in
    stage_inside extent before c.self.invariant reads c.args.entry.now size room (g.D.Disk.state c.mend.new.disk) c.mend.ensures.continues (g.met.D.Disk.reads c.mend.new.disk) c.mend.ensures.crash c.in_ok-mend.ensures.closed

pub invariant_of-self-in_err-stage : goal.invariant_of-self-in_err-stage
invariant_of-self-in_err-stage g c =
    let extent = extent_of c.self.inside.first c.self.inside.place c.self.inside.number c.self.inside.unclean in
    let before = g.D.Disk.state c.self.inside.disk in
    let reads = g.met.D.Disk.reads c.self.inside.disk in
    let size : IsEntry c.args.entry.now = (c.requires.some, c.requires.most) in
    let room : c.self.inside.number < most_entries = omega (arith, ap (λ j. j.extent.number) c.self.view_is, c.requires.few) in
    let ended = staging_failed extent before c.self.invariant reads c.args.entry.now size room (g.D.Disk.state c.mend.new.disk) c.mend.ensures.continues (g.met.D.Disk.reads c.mend.new.disk) c.mend.ensures.crash c.in_ok-mend.ensures.closed (g.D.Disk.state c.stage.new.disk) c.stage.ensures.continues (g.met.D.Disk.reads c.stage.new.disk) c.stage.ensures.crash in
    ended.kept

pub returns-in_err-stage : goal.returns-in_err-stage
returns-in_err-stage g c =
    let extent = extent_of c.self.inside.first c.self.inside.place c.self.inside.number c.self.inside.unclean in
    let before = g.D.Disk.state c.self.inside.disk in
    let reads = g.met.D.Disk.reads c.self.inside.disk in
    let size : IsEntry c.args.entry.now = (c.requires.some, c.requires.most) in
    let room : c.self.inside.number < most_entries = omega (arith, ap (λ j. j.extent.number) c.self.view_is, c.requires.few) in
    let ended = staging_failed extent before c.self.invariant reads c.args.entry.now size room (g.D.Disk.state c.mend.new.disk) c.mend.ensures.continues (g.met.D.Disk.reads c.mend.new.disk) c.mend.ensures.crash c.in_ok-mend.ensures.closed (g.D.Disk.state c.stage.new.disk) c.stage.ensures.continues (g.met.D.Disk.reads c.stage.new.disk) c.stage.ensures.crash in
    let failed : FailsToAdd (keeper_of extent before) (keeper_of (with_gate extent false) (g.D.Disk.state c.stage.new.disk)) c.args.entry.now = record { entries = ended.entries; number = refl; at_risk = ended.at_risk; faults = counts_then _ _ _ c.in_ok-mend.ensures.counts c.in_err-stage.ensures.counts } in
    record {
      ok = search rules;
      done = search rules;
      err = on_err c.from_residual-in_err-stage.result (rw (← c.self.view_is) failed);
      continues = rw (← c.self.view_is)
          (continues_both before (g.D.Disk.state c.mend.new.disk) (g.D.Disk.state c.stage.new.disk) c.mend.ensures.continues c.stage.ensures.continues);
      crash = rw (← c.self.view_is) ended.crash;
      afterwards = ended.afterwards;
    }

pub set_gate-requires : goal.set_gate-requires
set_gate-requires g c =
    let extent = extent_of c.self.inside.first c.self.inside.place c.self.inside.number c.self.inside.unclean in
    let before = g.D.Disk.state c.self.inside.disk in
    let reads = g.met.D.Disk.reads c.self.inside.disk in
    let size : IsEntry c.args.entry.now = (c.requires.some, c.requires.most) in
    let room : c.self.inside.number < most_entries = omega (arith, ap (λ j. j.extent.number) c.self.view_is, c.requires.few) in
    record { inside = set_inside extent before c.self.invariant reads c.args.entry.now size room (g.D.Disk.state c.mend.new.disk) c.mend.ensures.continues (g.met.D.Disk.reads c.mend.new.disk) c.mend.ensures.crash c.in_ok-mend.ensures.closed (g.D.Disk.state c.stage.new.disk) c.stage.ensures.continues (g.met.D.Disk.reads c.stage.new.disk) c.stage.ensures.crash c.in_ok-stage.ensures.staged }

pub invariant_of-self-in_err-set_gate : goal.invariant_of-self-in_err-set_gate
invariant_of-self-in_err-set_gate g c =
    let extent = extent_of c.self.inside.first c.self.inside.place c.self.inside.number c.self.inside.unclean in
    let before = g.D.Disk.state c.self.inside.disk in
    let reads = g.met.D.Disk.reads c.self.inside.disk in
    let size : IsEntry c.args.entry.now = (c.requires.some, c.requires.most) in
    let room : c.self.inside.number < most_entries = omega (arith, ap (λ j. j.extent.number) c.self.view_is, c.requires.few) in
    let ended = opening_failed extent before c.self.invariant reads c.args.entry.now size room (g.D.Disk.state c.mend.new.disk) c.mend.ensures.continues (g.met.D.Disk.reads c.mend.new.disk) c.mend.ensures.crash c.in_ok-mend.ensures.closed (g.D.Disk.state c.stage.new.disk) c.stage.ensures.continues (g.met.D.Disk.reads c.stage.new.disk) c.stage.ensures.crash c.in_ok-stage.ensures.staged (g.D.Disk.state c.set_gate.new.disk) c.set_gate.ensures.continues (g.met.D.Disk.reads c.set_gate.new.disk) c.set_gate.ensures.crash in
    ended.kept

pub returns-in_err-set_gate : goal.returns-in_err-set_gate
returns-in_err-set_gate g c =
    let extent = extent_of c.self.inside.first c.self.inside.place c.self.inside.number c.self.inside.unclean in
    let before = g.D.Disk.state c.self.inside.disk in
    let reads = g.met.D.Disk.reads c.self.inside.disk in
    let size : IsEntry c.args.entry.now = (c.requires.some, c.requires.most) in
    let room : c.self.inside.number < most_entries = omega (arith, ap (λ j. j.extent.number) c.self.view_is, c.requires.few) in
    let ended = opening_failed extent before c.self.invariant reads c.args.entry.now size room (g.D.Disk.state c.mend.new.disk) c.mend.ensures.continues (g.met.D.Disk.reads c.mend.new.disk) c.mend.ensures.crash c.in_ok-mend.ensures.closed (g.D.Disk.state c.stage.new.disk) c.stage.ensures.continues (g.met.D.Disk.reads c.stage.new.disk) c.stage.ensures.crash c.in_ok-stage.ensures.staged (g.D.Disk.state c.set_gate.new.disk) c.set_gate.ensures.continues (g.met.D.Disk.reads c.set_gate.new.disk) c.set_gate.ensures.crash in
    let failed : FailsToAdd (keeper_of extent before) (keeper_of (with_gate extent true) (g.D.Disk.state c.set_gate.new.disk)) c.args.entry.now = record { entries = ended.entries; number = refl; at_risk = ended.at_risk; faults = counts_then _ _ _ (c.in_ok-stage.ensures.counts ∙ c.in_ok-mend.ensures.counts) c.in_err-set_gate.ensures.counts } in
    record {
      ok = search rules;
      done = search rules;
      err = on_err c.from_residual-in_err-set_gate.result (rw (← c.self.view_is) failed);
      continues = rw (← c.self.view_is)
          (continues_both before (g.D.Disk.state c.stage.new.disk) (g.D.Disk.state c.set_gate.new.disk)
          (continues_both before (g.D.Disk.state c.mend.new.disk) (g.D.Disk.state c.stage.new.disk) c.mend.ensures.continues c.stage.ensures.continues)
          c.set_gate.ensures.continues);
      crash = rw (← c.self.view_is) ended.crash;
      afterwards = ended.afterwards;
    }

pub invariant_of-self-2 : goal.invariant_of-self-2
invariant_of-self-2 g c =
    let extent = extent_of c.self.inside.first c.self.inside.place c.self.inside.number c.self.inside.unclean in
    let before = g.D.Disk.state c.self.inside.disk in
    let reads = g.met.D.Disk.reads c.self.inside.disk in
    let size : IsEntry c.args.entry.now = (c.requires.some, c.requires.most) in
    let room : c.self.inside.number < most_entries = omega (arith, ap (λ j. j.extent.number) c.self.view_is, c.requires.few) in
    let ended = has_added extent before c.self.invariant reads c.args.entry.now size room (g.D.Disk.state c.mend.new.disk) c.mend.ensures.continues (g.met.D.Disk.reads c.mend.new.disk) c.mend.ensures.crash c.in_ok-mend.ensures.closed (g.D.Disk.state c.stage.new.disk) c.stage.ensures.continues (g.met.D.Disk.reads c.stage.new.disk) c.stage.ensures.crash c.in_ok-stage.ensures.staged (g.D.Disk.state c.set_gate.new.disk) c.set_gate.ensures.continues (g.met.D.Disk.reads c.set_gate.new.disk) c.set_gate.ensures.crash c.in_ok-set_gate.ensures.set in
    ended.kept

pub returns : goal.returns
returns g c =
    let extent = extent_of c.self.inside.first c.self.inside.place c.self.inside.number c.self.inside.unclean in
    let before = g.D.Disk.state c.self.inside.disk in
    let reads = g.met.D.Disk.reads c.self.inside.disk in
    let size : IsEntry c.args.entry.now = (c.requires.some, c.requires.most) in
    let room : c.self.inside.number < most_entries = omega (arith, ap (λ j. j.extent.number) c.self.view_is, c.requires.few) in
    let ended = has_added extent before c.self.invariant reads c.args.entry.now size room (g.D.Disk.state c.mend.new.disk) c.mend.ensures.continues (g.met.D.Disk.reads c.mend.new.disk) c.mend.ensures.crash c.in_ok-mend.ensures.closed (g.D.Disk.state c.stage.new.disk) c.stage.ensures.continues (g.met.D.Disk.reads c.stage.new.disk) c.stage.ensures.crash c.in_ok-stage.ensures.staged (g.D.Disk.state c.set_gate.new.disk) c.set_gate.ensures.continues (g.met.D.Disk.reads c.set_gate.new.disk) c.set_gate.ensures.crash c.in_ok-set_gate.ensures.set in
    let added : AddsEntry (keeper_of extent before) (keeper_of (with_entry extent c.args.entry.now) (g.D.Disk.state c.set_gate.new.disk)) c.args.entry.now = record {
      entries = ended.entries;
      number = refl;
      at_risk = refl;
      faults = c.in_ok-set_gate.ensures.counts ∙ c.in_ok-stage.ensures.counts ∙ c.in_ok-mend.ensures.counts;
    } in
    let mended = g.D.Disk.state c.mend.new.disk in
    let staged = g.D.Disk.state c.stage.new.disk in
    let after = g.D.Disk.state c.set_gate.new.disk in
    let stored = does_both (safe_write (extent.place + 1) (length c.args.entry.now + record_frame)) (safe_write extent.place 1) mended staged after c.in_ok-stage.ensures.done c.stage.ensures.continues.tells c.in_ok-set_gate.ensures.done in
    let did : Does (append_calls extent c.args.entry.now) before after = does_both (mending_calls extent.unclean extent.place) _ before mended after c.in_ok-mend.ensures.done c.mend.ensures.continues.tells stored in
    record {
      ok = rw (← c.self.view_is) added;
      done = rw (← c.self.view_is) did;
      err = tt;
      continues = rw (← c.self.view_is)
          (continues_both before (g.D.Disk.state c.stage.new.disk) (g.D.Disk.state c.set_gate.new.disk)
          (continues_both before (g.D.Disk.state c.mend.new.disk) (g.D.Disk.state c.stage.new.disk) c.mend.ensures.continues c.stage.ensures.continues)
          c.set_gate.ensures.continues);
      crash = rw (← c.self.view_is) ended.crash;
      afterwards = ended.afterwards;
    }
