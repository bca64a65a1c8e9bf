-- What crosses threads of a board and its seats if its machine does, as a set for `search` if the
-- machine's type is large.
use Rattle.atomic_table.proofs.send_lease.SendLease.TheSendSync as lease
use Rattle.atomic_table.proofs.shared.Seat.TheSendSync as seat
use Rattle.atomic_table.proofs.shared.Shared.TheSendSync as shared

pub ruleset crosses = (shared.the_sync, seat.the_send, lease.the_sync)
