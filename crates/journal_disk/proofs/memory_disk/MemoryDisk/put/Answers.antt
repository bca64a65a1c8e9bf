use Rattle.std.proofs.Common.{length-append, arith, refl}
use Rattle.journal_disk.proofs.Replay.{with_pieces-push, pieces_length-push, after_calls-push}
use Rattle.journal_disk.proofs.Rooms.{room_found}
use Rattle.journal_disk.proofs.memory_disk.MemoryDisk.put.Goals as goal

pub do_call-requires : goal.do_call-requires
do_call-requires c =
    let room = room_found c.self.inside c.self.invariant c.args.call c.args.piece.now c.requires.piece (rw (← c.self.view_is) at c.requires.room) in
    record { fits = omega (arith, room.bytes_fit, c.self.invariant.bytes_fit, c.self.inside.bytes.ok.0, c.self.inside.bytes.ok.1) }

pub append_piece-requires : goal.append_piece-requires
append_piece-requires c =
    let room = room_found c.self.inside c.self.invariant c.args.call c.args.piece.now c.requires.piece (rw (← c.self.view_is) at c.requires.room) in
    record { fits = omega (arith, room.pieces_fit, c.self.invariant.pieces_fit) }

pub push_reserved-requires : goal.push_reserved-requires
push_reserved-requires c =
    let room = room_found c.self.inside c.self.invariant c.args.call c.args.piece.now c.requires.piece (rw (← c.self.view_is) at c.requires.room) in
    omega (arith, room.calls_fit, c.self.invariant.calls_fit, c.self.inside.calls.ok.0)

pub invariant_of-self : goal.invariant_of-self
invariant_of-self c =
    let inside = c.self.inside in
    let push = with_pieces-push inside.calls.items c.args.call inside.pieces.items c.args.piece.now c.self.invariant.pieces c.requires.piece in
    record {
      reads = rw (c.push_reserved.ensures.items, c.append_piece.ensures.bytes, push, after_calls-push, c.do_call.ensures.bytes, c.self.invariant.reads) refl;
      pieces = rw (c.push_reserved.ensures.items, c.append_piece.ensures.bytes) (omega (arith, pieces_length-push inside.calls.items c.args.call, c.self.invariant.pieces, c.requires.piece, length-append inside.pieces.items c.args.piece.now));
      bytes_fit = omega (arith, c.self.invariant.bytes_fit, c.do_call.ensures.capacity);
      calls_fit = omega (arith, c.self.invariant.calls_fit, c.push_reserved.ensures.capacity);
      pieces_fit = omega (arith, c.self.invariant.pieces_fit, c.append_piece.ensures.capacity);
    }

pub returns : goal.returns
returns c =
    let inside = c.self.inside in
    let push = with_pieces-push inside.calls.items c.args.call inside.pieces.items c.args.piece.now c.self.invariant.pieces c.requires.piece in
    record { kept = rw (c.push_reserved.ensures.items, c.append_piece.ensures.bytes, push, ← c.self.view_is) refl }
