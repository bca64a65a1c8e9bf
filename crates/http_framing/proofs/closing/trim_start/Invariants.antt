use Rattle.std.proofs.Common.{◌≡◌, length}
use Rattle.http_framing.specs.Closing.{skip_spaces}
use Rattle.http_framing.proofs.closing.trim_start.Given as goal

abbrev pub decreases-loop-trimmed : goal.decreases-loop-trimmed
decreases-loop-trimmed l = length l.trimmed

abbrev pub invariant-loop-trimmed : goal.invariant-loop-trimmed
invariant-loop-trimmed l = skip_spaces l.trimmed ≡ skip_spaces l.bytes
