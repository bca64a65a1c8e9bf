use Rattle.std.proofs.Common.{take}
use Rattle.apron_run.specs.Converted.{HasConverted}
use Rattle.apron_run.proofs.converting.convert_entries.Given as goal

abbrev pub invariant-loop-bytes : goal.invariant-loop-bytes
invariant-loop-bytes l = record {
  converted : HasConverted l.airport (take l.bytes-index l.old) l.new;
}
