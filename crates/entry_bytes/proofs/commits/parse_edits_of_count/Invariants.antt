use Rattle.std.proofs.Common.{◌≡◌, ◌-◌}
use Rattle.entry_bytes.specs.Parsing.{parse_edit}
use Rattle.entry_bytes.specs.Readings.{parse_many}
use Rattle.entry_bytes.proofs.Loops.{with_front}
use Rattle.entry_bytes.proofs.commits.parse_edits_of_count.Given as goal

abbrev pub invariant-loop-taken : goal.invariant-loop-taken
invariant-loop-taken l = with_front l.edits (parse_many (l.count - l._taken) (parse_edit l.airport) l.reader) ≡ parse_many l.count (parse_edit l.airport) l.fn.reader
