use Rattle.std.proofs.Common.{Bor, List, ℕ, true, false, Some, sym, ◌∙◌}
use Rattle.csv_records.proofs.Found.{found-some, found-none}
use Rattle.csv_records.proofs.TableWalk.{header-none, header-bad, header-good}
use Rattle.season_files.specs.Records.{visit_of_fields}
use Rattle.season_files.specs.Seasons.{visits_after}
use Rattle.season_files.proofs.Places.{after-header}
use Rattle.season_files.proofs.read.read_season_header.Goals as goal

pub returns-then-not-branch-clause-err : goal.returns-then-not-branch-clause-err
returns-then-not-branch-clause-err c turns s left reading =
    let found = rw c.if-not-branch.true at (c.in_ok-read_row.ensures.ok s left reading) in
    let none = found-none (λ (b : Bor (List ℕ)). Some b.now) c.read_row.new.rdr _ _ found in
    header-none (visits_after c.args.airport.now) turns s left none

pub returns-then-is_header-clause-ok : goal.returns-then-is_header-clause-ok
returns-then-is_header-clause-ok c turns s left reading =
    let found = rw c.if-not-branch.false at (c.in_ok-read_row.ensures.ok s left reading) in
    let (p, next, fields, after) = found-some (λ (b : Bor (List ℕ)). Some b.now) c.read_row.new.rdr _ _ found in
    let good = rw fields at (sym c.is_header.ensures.is ∙ c.if-is_header.true) in
    let airport = c.args.airport.now in
    (p.1, p.2, after, header-good (visits_after airport) turns s left p (visit_of_fields airport) next (after-header airport p.0 true good))

pub returns-else-is_header-clause-err : goal.returns-else-is_header-clause-err
returns-else-is_header-clause-err c turns s left reading =
    let found = rw c.if-not-branch.false at (c.in_ok-read_row.ensures.ok s left reading) in
    let (p, next, fields, after) = found-some (λ (b : Bor (List ℕ)). Some b.now) c.read_row.new.rdr _ _ found in
    let bad = rw fields at (sym c.is_header.ensures.is ∙ c.if-is_header.false) in
    let airport = c.args.airport.now in
    header-bad (visits_after airport) turns s left p next (after-header airport p.0 false bad)
