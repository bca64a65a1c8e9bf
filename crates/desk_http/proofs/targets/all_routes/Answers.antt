use Rattle.std.proofs.Common.{refl}
use Rattle.desk_http.specs.Table.{table}
use Rattle.desk_http.proofs.targets.all_routes.Goals as goal

pub returns : goal.returns
unfolding table
returns c = record { all = rw (c.in_ok-add_routes.ensures.added, c.new-router.ensures) refl }
