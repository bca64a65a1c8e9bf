-- What a disk in memory has room for, by its fields.
use Rattle.std.proofs.Common.{◌≡◌, ℕ, ◌+◌, ◌≤◌, ◌<◌, List, length, max, true, false, ◌&&◌, nat_le, nat_lt, refl, sym, ◌∙◌, arith}
use Rattle.std.proofs.lemmas.Bool.Decides.{nat_tests}
use Rattle.journal_disk.specs.Calls.{MemoryHeld, after_call, after_calls, failed_call, has_room, piece_length, sizes_of, with_piece}
use Rattle.journal_disk.specs.MemoryFields.{memory_held, IsReplay}
use Rattle.journal_disk.specs.declared.memory_disk.DiskCall.{DiskCall}
use Rattle.journal_disk.specs.declared.memory_disk.DiskCall.TheVariants.{Passed, Wrote, Synced}
use Rattle.journal_disk.specs.declared.memory_disk.MemoryDisk.TheInside.{Inside}
use Rattle.journal_disk.proofs.Replay.{length-with_pieces, size_of-with_piece, sizes_of-with_pieces}

no_calls : (a b c d e f : ℕ) → b ≤ a → false ≡ (nat_lt a b && nat_le c d && nat_le e f)
no_calls a b c d e f more = grind (arith, nat_tests)

no_pieces : (a b c d e f : ℕ) → d < c → false ≡ (nat_lt a b && nat_le c d && nat_le e f)
no_pieces a b c d e f more = grind (arith, nat_tests)

last_test : (a b c d e f : ℕ) → a < b → c ≤ d → nat_le e f ≡ (nat_lt a b && nat_le c d && nat_le e f)
last_test a b c d e f less fits = grind (arith, nat_tests)

-- a call has room
pub record HasRoom (calls most_calls pieces most_pieces bytes most_bytes : ℕ) : Type 0 where
  pub calls_fit : calls < most_calls
  pub pieces_fit : pieces ≤ most_pieces
  pub bytes_fit : bytes ≤ most_bytes

all_tests : (a b c d e f : ℕ) → (nat_lt a b && nat_le c d && nat_le e f) ≡ true → HasRoom a b c d e f
all_tests a b c d e f is = record { calls_fit = grind (arith, nat_tests); pieces_fit = grind (arith, nat_tests); bytes_fit = grind (arith, nat_tests) }

some_tests : (a b c d e f : ℕ) → HasRoom a b c d e f → (nat_lt a b && nat_le c d && nat_le e f) ≡ true
some_tests a b c d e f has = grind (arith, nat_tests, has.calls_fit, has.pieces_fit, has.bytes_fit)

module _ (d : Inside) (is : IsReplay d) (call : DiskCall) (piece : List ℕ) (fits : piece_length call ≡ length piece) where
  abbrev length_after : ℕ
  length_after = length (after_call (with_piece call piece) d.bytes.items)

  -- the three tests by the fields
  by_fields : has_room (memory_held d) (with_piece call piece) ≡ (nat_lt (length d.calls.items) d.room.calls && nat_le (length d.pieces.items + length piece) d.room.written && nat_le length_after (max d.room.bytes (length d.bytes.items)))
  by_fields = rw (length-with_pieces d.calls.items d.pieces.items, sizes_of-with_pieces d.calls.items d.pieces.items is.pieces, size_of-with_piece call piece fits, ← is.reads) refl

  pub calls_used : d.room.calls ≤ length d.calls.items → false ≡ has_room (memory_held d) (with_piece call piece)
  calls_used more = no_calls _ _ _ _ _ _ more ∙ sym by_fields

  pub pieces_used : d.room.written < length d.pieces.items + length piece → false ≡ has_room (memory_held d) (with_piece call piece)
  pieces_used more = no_pieces _ _ _ _ _ _ more ∙ sym by_fields

  pub bytes_tested : length d.calls.items < d.room.calls → length d.pieces.items + length piece ≤ d.room.written → nat_le length_after (max d.room.bytes (length d.bytes.items)) ≡ has_room (memory_held d) (with_piece call piece)
  bytes_tested less room = last_test _ _ _ _ _ _ less room ∙ sym by_fields

  pub room_found : has_room (memory_held d) (with_piece call piece) ≡ true → HasRoom (length d.calls.items) d.room.calls (length d.pieces.items + length piece) d.room.written length_after (max d.room.bytes (length d.bytes.items))
  room_found has = all_tests _ _ _ _ _ _ (sym by_fields ∙ has)

-- a call that fails needs no more room
pub failed_room : (d : MemoryHeld) (call : DiskCall) (piece : List ℕ) → has_room d (with_piece call piece) ≡ true → has_room d (with_piece (failed_call call) piece) ≡ true
failed_room d Passed piece has = has
failed_room d (Wrote at size done) piece has =
    let bytes = after_calls d.calls d.first in
    let most = max d.room.bytes (length bytes) in
    let given = sizes_of d.calls + length piece in
    let room = all_tests (length d.calls) d.room.calls given d.room.written (length (after_call (with_piece (Wrote at size done) piece) bytes)) most has in
    some_tests (length d.calls) d.room.calls given d.room.written (length bytes) most (record { calls_fit = room.calls_fit; pieces_fit = room.pieces_fit; bytes_fit = omega arith })
failed_room d Synced piece has = has
