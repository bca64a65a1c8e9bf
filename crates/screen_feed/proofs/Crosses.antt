-- Writers, screens and what is told may cross threads.
use denote.Param.Send.{IsSend, IsSync, sendable}
use Rattle.std.proofs.Crossing.{crosses}
use Rattle.atomic_table.proofs.send_lease.SendLease.TheSendSync as lease
use Rattle.atomic_table.proofs.shared.Seat.TheSendSync as seat
use Rattle.atomic_table.proofs.shared.Shared.TheSendSync as shared
use Rattle.left_right.proofs.part.Deed.TheSendSync as deed
use Rattle.left_right.proofs.part.Part.TheSendSync as part
use Rattle.logbook.proofs.tokens.Pen.TheSendSync as pen
use Rattle.logbook.proofs.tokens.Seen.TheSendSync as seen
use Rattle.logbook.proofs.word.Word.TheSendSync as word
use Rattle.screen_feed.specs.contracts.appender.Appender as Appender
use Rattle.screen_feed.specs.contracts.ends.Screen as Screen
use Rattle.screen_feed.specs.contracts.ends.ScreenWriter as Writer
use Rattle.screen_feed.specs.contracts.ends.Told as Told
use Rattle.screen_feed.specs.contracts.page.Page as Page
use Rattle.screen_feed.specs.contracts.sheet.Sheet as Sheet

sheet_send : IsSend Sheet.the_row
sheet_send = search (sendable, crosses) depth 60 fits 20000

sheet_sync : IsSync Sheet.the_row
sheet_sync = search (sendable, crosses) depth 60 fits 20000

page_send : IsSend Page.the_row
page_send = search (sheet_send, seen.the_send, sendable, crosses) depth 60 fits 20000

page_sync : IsSync Page.the_row
page_sync = search (sheet_sync, seen.the_sync, sendable, crosses) depth 60 fits 20000

appender_send : IsSend Appender.the_row
appender_send = search (word.the_send, seen.the_send, pen.the_send, sendable, crosses) depth 60 fits 20000

pub told_send : IsSend Told.the_row
told_send = search (seen.the_send, sendable, crosses) depth 60 fits 20000

pub writer_send : IsSend Writer.the_row
writer_send = search (page_send, page_sync, appender_send, part.the_send, deed.the_send, shared.the_send, shared.the_sync, seat.the_send, lease.the_send, lease.the_sync, sendable, crosses) depth 60 fits 20000

pub screen_send : IsSend Screen.the_row
screen_send = search (page_sync, seen.the_send, part.the_send, shared.the_send, shared.the_sync, seat.the_send, lease.the_send, lease.the_sync, sendable, crosses) depth 60 fits 20000
