use Rattle.std.proofs.Common.{◌≡◌, drop, if◌then◌else◌}
use Rattle.http_framing.specs.Blank.{is_blank, is_blank_after_cr}
use Rattle.http_framing.proofs.blank.are_blank.Given as goal

abbrev pub invariant-loop-byte : goal.invariant-loop-byte
invariant-loop-byte l =
    (if l.after_cr then is_blank_after_cr (drop l.byte-index l.bytes) else is_blank (drop l.byte-index l.bytes)) ≡ is_blank l.bytes
