use Rattle.std.proofs.Common.{◌≡◌, drop}
use Rattle.desk_http.specs.Table.{with_routes}
use Rattle.desk_http.proofs.targets.add_routes.Given as goal

-- the table so far, with a row for each of those that are left, has a row for each of all
abbrev pub invariant-loop-row : goal.invariant-loop-row
invariant-loop-row l =
    with_routes (λ row. (row.0.now, row.1)) (drop l.row-index l.rows) l.router ≡ with_routes (λ row. (row.0.now, row.1)) l.rows l.fn.router
