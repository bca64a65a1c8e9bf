use Rattle.std.proofs.Common.{◌≡◌, map, drop}
use Rattle.httparse.specs.Spans.{header_bytes}
use Rattle.http_framing.specs.Closing.{asks_close}
use Rattle.http_framing.proofs.closing.asks_close.Given as goal

abbrev pub invariant-loop-field : goal.invariant-loop-field
invariant-loop-field l =
    asks_close (map (header_bytes l.bytes) (drop l.field-index l.fields)) ≡ asks_close (map (header_bytes l.bytes) l.fields)
