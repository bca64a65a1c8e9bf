use Rattle.std.proofs.Common.{◌≡◌, take}
use Rattle.watch_list.specs.Watches.{feed}
use Rattle.watch_list.proofs.watch_feed.feed.Given as goal

abbrev pub invariant-loop-note : goal.invariant-loop-note
invariant-loop-note g l = l.fed.items ≡ feed (g.R.Stated.tells l.watch.stated) l.after (take l.note-index l.notes)
