use Rattle.std.proofs.Common.{◌≤◌, length, sym, arith}
use Rattle.std.proofs.lemmas.List.{length-take-le, take_all}
use Rattle.http_framing.specs.Heads.{max_head}
use Rattle.http_framing.proofs.heads.window_of.Goals as goal

pub slice_bounds-result-end : goal.slice_bounds-result-end
slice_bounds-result-end c =
    let long : max_head ≤ length c.args.bytes.now = omega arith in sym (length-take-le max_head c.args.bytes.now long)

pub returns-then-bytes-le-MAX_HEAD : goal.returns-then-bytes-le-MAX_HEAD
returns-then-bytes-le-MAX_HEAD c = record { value = sym (take_all max_head c.args.bytes.now c.if-bytes-le-MAX_HEAD.true) }
