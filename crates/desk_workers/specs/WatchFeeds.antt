-- What a feed is answered by a machine that answers as a board with watches.
use Rattle.std.specs.Prelude.{Bool, List}
use Rattle.std.proofs.Common.{subst}
use Rattle.apron_base.specs.declared.outside.Acted.{Acted}
use Rattle.desk_asks.specs.declared.asks.Entry.{Entry}
use Rattle.watch_list.specs.WatchBoards.{FindsLegalHistory as FeedsNotes, IsReplyOrMemory}
use Rattle.watch_list.specs.declared.note.Note.{Note}
use Rattle.watch_list.specs.declared.watch_asks.WatchFixed.{WatchFixed}
use Rattle.desk_http.specs.declared.port.FeedAsk.{FeedAsk}
use Rattle.desk_workers.specs.Feeds.{IsLegalFeed}
use Rattle.desk_workers.specs.Watched.{watch_text}

-- it is the reply to the feed, or there is no memory
pub watch_feeds : {R : Type 0} (tells : R → Note → Bool) (fixed : WatchFixed R)
    (before : List Entry) (ask : FeedAsk) (answer : Acted) (after : List Entry)
    → FeedsNotes tells fixed before
    (record { seen = ask.seen; watch = ask.feed.watch; after = ask.feed.after }) answer after
    → IsLegalFeed fixed.airport (watch_text tells fixed ask) before answer after
watch_feeds tells fixed before ask answer after feeds = record {
  found = feeds.found;
  fed = λ bytes is. subst (IsReplyOrMemory (watch_text tells fixed ask before)) is feeds.acts;
  fine = λ is. subst (IsReplyOrMemory (watch_text tells fixed ask before)) is feeds.acts;
  left = feeds.left;
}
