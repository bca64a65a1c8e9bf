use Rattle.std.proofs.Common.{◌≡◌, take}
use Rattle.std.specs.Prelude.{filter}
use Rattle.bump_core.specs.Lists.{is_of}
use Rattle.bump_core.specs.Settle.{best}
use Rattle.bump_core.proofs.after.best_of.Given as goal

abbrev pub invariant-loop-blocking : goal.invariant-loop-blocking
invariant-loop-blocking l = l.best ≡ best (filter (is_of l.id) (take l.blocking-index l.blockings))
