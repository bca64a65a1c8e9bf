use Rattle.std.proofs.Common.{◌≡◌, drop}
use Rattle.toml.specs.View.{items_view}
use Rattle.airport_files.specs.Walk.{toml_numbers}
use Rattle.airport_files.proofs.NumberWalk.{joined}
use Rattle.airport_files.proofs.rows.numbers_from.Given as goal

abbrev pub invariant-loop-value : goal.invariant-loop-value
invariant-loop-value l = joined l.numbers (toml_numbers l.at (items_view (drop l.value-index l.array.items))) ≡ toml_numbers l.at (items_view l.array.items)
