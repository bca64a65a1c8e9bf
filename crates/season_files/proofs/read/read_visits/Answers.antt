use Rattle.std.proofs.Common.{Bor, List, ℕ, Some, ◌+◌, ◌-◌, sym, ◌∙◌, arith}
use Rattle.std.proofs.lemmas.List.Elements.{All-push}
use Rattle.visit_book.specs.NewVisits.{IsNewVisitOf}
use Rattle.csv_records.proofs.Found.{found-some, found-none}
use Rattle.csv_records.proofs.TableWalk.{from_ok, step-row, step-bad, step-end, out_of_turns}
use Rattle.season_files.specs.Records.{visit_of_fields}
use Rattle.season_files.proofs.Places.{record-is}
use Rattle.season_files.proofs.read.read_visits.Goals as goal

pub returns-then-not-branch-clause-value : goal.returns-then-not-branch-clause-value
returns-then-not-branch-clause-value c s left reading =
    let airport = c.args.airport.now in
    let (t, rest, at, walked) = c.loop-k.invariant.read s left reading in
    let found = rw c.if-not-branch.true at (c.in_ok-read_row.ensures.ok t rest at) in
    let none = found-none (λ (b : Bor (List ℕ)). Some b.now) c.read_row.new.rdr _ _ found in
    sym walked ∙ step-end (visit_of_fields airport) (c.loop-k.k + 2) (c.args.turns - c.loop-k.k) t rest c.loop-k.visits none

pub returns-in_default-clause-value : goal.returns-in_default-clause-value
returns-in_default-clause-value c s left reading =
    let airport = c.args.airport.now in
    let (t, rest, at, walked) = c.loop-k.invariant.read s left reading in
    let found = rw c.if-not-branch.false at (c.in_ok-read_row.ensures.ok t rest at) in
    let (p, next, fields, after) = found-some (λ (b : Bor (List ℕ)). Some b.now) c.read_row.new.rdr _ _ found in
    let bad = rw fields at (sym c.visit_of_record.ensures.value ∙ c.in_default.is) in
    sym walked ∙ step-bad (visit_of_fields airport) (c.loop-k.k + 2) (c.args.turns - c.loop-k.k) (c.args.turns - (c.loop-k.k + 1)) t rest p c.loop-k.visits (omega arith) next (sym (record-is airport p.0) ∙ bad)

pub returns-clause-value : goal.returns-clause-value
returns-clause-value c s left reading =
    let airport = c.args.airport.now in
    let (t, rest, at, walked) = c.loop-k.invariant.read s left reading in
    sym walked ∙ out_of_turns (visit_of_fields airport) (c.loop-k.k + 2) (c.args.turns - c.loop-k.k) t rest c.loop-k.visits (omega arith)

pub loop-k-preserved : goal.loop-k-preserved
loop-k-preserved c =
    let airport = c.args.airport.now in
    let items = from_ok c.push.result _ (sym c.is_err.ensures.value ∙ c.if-is_err.false) c.push.ensures.ok in
    let good = sym c.visit_of_record.ensures.value ∙ c.in-Some.is in
    record {
      read = λ s left reading.
          let (t, rest, at, walked) = c.loop-k.invariant.read s left reading in
          let found = rw c.if-not-branch.false at (c.in_ok-read_row.ensures.ok t rest at) in
          let (p, next, fields, after) = found-some (λ (b : Bor (List ℕ)). Some b.now) c.read_row.new.rdr _ _ found in
          let step = step-row (visit_of_fields airport) (c.loop-k.k + 2) (c.loop-k.k + 1 + 2) (c.args.turns - c.loop-k.k) (c.args.turns - (c.loop-k.k + 1)) t rest p c.loop-k.visits c.in-Some.new (omega arith) (omega arith) next (sym (record-is airport p.0) ∙ rw fields at good) in
          (p.1, p.2, after, rw items (sym step ∙ walked));
      new = rw items (All-push (IsNewVisitOf airport) c.loop-k.visits c.in-Some.new c.loop-k.invariant.new c.in-Some.ensures.new);
    }
