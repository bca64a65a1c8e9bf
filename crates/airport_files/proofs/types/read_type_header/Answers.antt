use Rattle.std.proofs.Common.{Bor, List, ℕ, Some, option_map, ap, sym, ◌∙◌}
use Rattle.csv_records.proofs.Found.{found-some, found-none}
use Rattle.csv_records.proofs.TableWalk.{header-none, header-bad, header-good}
use Rattle.airport_files.specs.TypeRows.{type_of}
use Rattle.airport_files.specs.Types.{types_after}
use Rattle.airport_files.proofs.TypePlaces.{columns-are}
use Rattle.airport_files.proofs.types.read_type_header.Goals as goal

pub returns-then-not-branch-clause-err : goal.returns-then-not-branch-clause-err
returns-then-not-branch-clause-err c turns s left reading =
    let found = rw c.if-not-branch.true at (c.in_ok-read_row.ensures.ok s left reading) in
    let none = found-none (λ (b : Bor (List ℕ)). Some b.now) c.read_row.new.rdr _ _ found in
    header-none types_after turns s left none

pub returns-in-Some-clause-ok : goal.returns-in-Some-clause-ok
returns-in-Some-clause-ok c turns s left reading =
    let found = rw c.if-not-branch.false at (c.in_ok-read_row.ensures.ok s left reading) in
    let (p, next, fields, after) = found-some (λ (b : Bor (List ℕ)). Some b.now) c.read_row.new.rdr _ _ found in
    let good = rw fields at (sym c.columns_of.ensures.is ∙ c.in-Some.is) in
    (p.1, p.2, after, header-good types_after turns s left p (type_of c.in-Some.columns) next (columns-are p.0 ∙ ap (option_map type_of) good))

pub returns-in-None-clause-err : goal.returns-in-None-clause-err
returns-in-None-clause-err c turns s left reading =
    let found = rw c.if-not-branch.false at (c.in_ok-read_row.ensures.ok s left reading) in
    let (p, next, fields, after) = found-some (λ (b : Bor (List ℕ)). Some b.now) c.read_row.new.rdr _ _ found in
    let bad = rw fields at (sym c.columns_of.ensures.is ∙ c.in-None.is) in
    header-bad types_after turns s left p next (columns-are p.0 ∙ ap (option_map type_of) bad)
