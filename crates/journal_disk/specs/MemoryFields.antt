-- The fields of a disk in memory, and what contracts see of them.
use Rattle.std.specs.Prelude.{◌≡◌, ◌≤◌, length, vec_capacity}
use Rattle.journal_disk.specs.Calls.{MemoryHeld, with_pieces, pieces_length, after_calls}
use Rattle.journal_disk.specs.declared.memory_disk.MemoryDisk.TheInside.{Inside}

-- its bytes at first, its calls with their pieces, and the rest as it is
abbrev pub memory_held : Inside → MemoryHeld
memory_held d = record {
  first = d.first.items;
  calls = with_pieces d.calls.items d.pieces.items;
  failing = d.failing.items;
  room = d.room;
  faults = d.faults;
}

-- the bytes are those after its calls, the pieces are those of its writes, and there is memory for
-- what it has room for
pub record IsReplay (d : Inside) : Type 0 where
  pub reads : d.bytes.items ≡ after_calls (with_pieces d.calls.items d.pieces.items) d.first.items
  pub pieces : pieces_length d.calls.items ≡ length d.pieces.items
  pub bytes_fit : d.room.bytes ≤ vec_capacity d.bytes
  pub calls_fit : d.room.calls ≤ vec_capacity d.calls
  pub pieces_fit : d.room.written ≤ vec_capacity d.pieces
