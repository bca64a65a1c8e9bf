use Rattle.std.proofs.Common.{◌≡◌, ◌+◌, drop}
use Rattle.toml.specs.View.{items_view}
use Rattle.airport_files.specs.Walk.{walk_rows_from}
use Rattle.airport_files.proofs.RowWalk.{joined}
use Rattle.airport_files.proofs.layout.rows_from.Given as goal

abbrev pub invariant-loop-i : goal.invariant-loop-i
invariant-loop-i g l = joined l.rows (walk_rows_from g.T.Row.read_of (l.i + 1) (items_view (drop l.i l.array.items))) ≡ walk_rows_from g.T.Row.read_of 1 (items_view l.array.items)
