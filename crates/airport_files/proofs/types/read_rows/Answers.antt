use Rattle.std.proofs.Common.{Bor, List, ℕ, Some, ◌+◌, ◌-◌, sym, ◌∙◌, arith}
use Rattle.csv_records.proofs.Found.{found-some, found-none}
use Rattle.csv_records.proofs.TableWalk.{from_ok, walk-start, step-row, step-bad, step-end, out_of_turns}
use Rattle.airport_files.specs.TypeRows.{type_of}
use Rattle.airport_files.proofs.TypePlaces.{row-is}
use Rattle.airport_files.proofs.types.read_rows.Goals as goal

pub loop-k-init : goal.loop-k-init
loop-k-init c s left reading = (s, left, reading, walk-start (type_of c.args.columns) (c.args.turns - 0) c.args.turns s left c.new-rows.result c.new-rows.ensures.none (omega arith))

pub returns-then-not-branch : goal.returns-then-not-branch
returns-then-not-branch c = record {
  value = λ s left reading.
      let (t, rest, at, walked) = c.loop-k.invariant s left reading in
      let found = rw c.if-not-branch.true at (c.in_ok-read_row.ensures.ok t rest at) in
      let none = found-none (λ (b : Bor (List ℕ)). Some b.now) c.read_row.new.rdr _ _ found in
      sym walked ∙ step-end (type_of c.args.columns) (c.loop-k.k + 2) (c.args.turns - c.loop-k.k) t rest c.loop-k.rows none;
}

pub returns-in_default : goal.returns-in_default
returns-in_default c = record {
  value = λ s left reading.
      let (t, rest, at, walked) = c.loop-k.invariant s left reading in
      let found = rw c.if-not-branch.false at (c.in_ok-read_row.ensures.ok t rest at) in
      let (p, next, fields, after) = found-some (λ (b : Bor (List ℕ)). Some b.now) c.read_row.new.rdr _ _ found in
      let bad = rw fields at (sym c.row_of.ensures.value ∙ c.in_default.is) in
      sym walked ∙ step-bad (type_of c.args.columns) (c.loop-k.k + 2) (c.args.turns - c.loop-k.k) (c.args.turns - (c.loop-k.k + 1)) t rest p c.loop-k.rows (omega arith) next (sym (row-is c.args.columns p.0) ∙ bad);
}

pub loop-k-preserved : goal.loop-k-preserved
loop-k-preserved c s left reading =
    let (t, rest, at, walked) = c.loop-k.invariant s left reading in
    let found = rw c.if-not-branch.false at (c.in_ok-read_row.ensures.ok t rest at) in
    let (p, next, fields, after) = found-some (λ (b : Bor (List ℕ)). Some b.now) c.read_row.new.rdr _ _ found in
    let good = rw fields at (sym c.row_of.ensures.value ∙ c.in-Some.is) in
    let items = from_ok c.push.result _ (sym c.is_err.ensures.value ∙ c.if-is_err.false) c.push.ensures.ok in
    let step = step-row (type_of c.args.columns) (c.loop-k.k + 2) (c.loop-k.k + 1 + 2) (c.args.turns - c.loop-k.k) (c.args.turns - (c.loop-k.k + 1)) t rest p c.loop-k.rows c.in-Some.next (omega arith) (omega arith) next (sym (row-is c.args.columns p.0) ∙ good) in
    (p.1, p.2, after, rw items (sym step ∙ walked))

pub returns : goal.returns
returns c = record {
  value = λ s left reading.
      let (t, rest, at, walked) = c.loop-k.invariant s left reading in
      sym walked ∙ out_of_turns (type_of c.args.columns) (c.loop-k.k + 2) (c.args.turns - c.loop-k.k) t rest c.loop-k.rows (omega arith);
}
