use Rattle.std.proofs.Common.{◌≡◌, ◌≤◌, ◌<◌, ◌+◌, length, max, arith, rules}
use Rattle.journal_disk.specs.Calls.{after_call, with_piece}
use Rattle.journal_disk.proofs.Rooms.{bytes_tested, calls_used, pieces_used}
use Rattle.journal_disk.proofs.memory_disk.MemoryDisk.has_room.Goals as goal

pub returns-then-len-self : goal.returns-then-len-self
returns-then-len-self c =
    let used = calls_used c.self.inside c.self.invariant c.args.call c.args.piece.now c.requires.piece (omega (arith, c.if-len-self.true, c.len.ensures, c.self.inside.calls.ok.0)) in
    record { room = rw (← c.self.view_is) used }

pub returns-then-len-piece : goal.returns-then-len-piece
returns-then-len-piece c =
    let used = pieces_used c.self.inside c.self.invariant c.args.call c.args.piece.now c.requires.piece (omega (arith, c.if-len-piece.true, c.len-2.ensures, c.self.inside.pieces.ok.0)) in
    record { room = rw (← c.self.view_is) used }

pub returns : goal.returns
returns c =
    let less : length c.self.inside.calls.items < c.self.inside.room.calls = omega (arith, c.if-len-self.false, c.len.ensures, c.self.inside.calls.ok.0) in
    let fits : length c.self.inside.pieces.items + length c.args.piece.now ≤ c.self.inside.room.written = omega (arith, c.if-len-piece.false, c.len-2.ensures, c.self.inside.pieces.ok.0) in
    let tested = bytes_tested c.self.inside c.self.invariant c.args.call c.args.piece.now c.requires.piece less fits in
    let after : c.length_after.result ≡ length (after_call (with_piece c.args.call c.args.piece.now) c.self.inside.bytes.items) = search rules in
    let most : c.max.result ≡ max c.self.inside.room.bytes (length c.self.inside.bytes.items) = search rules in
    record { room = rw (← c.self.view_is, after, most) tested }
