-- A board with watches as a machine that answers feeds.
use Rattle.std.specs.Prelude.{ℕ, Bool, List, []}
use Rattle.apron_rules.specs.declared.parts.AirportParts.{AirportParts}
use Rattle.desk_asks.specs.declared.asks.Entry.{Entry}
use Rattle.watch_list.specs.WatchBoards.{feed_reply}
use Rattle.watch_list.specs.Watches.{shows}
use Rattle.watch_list.specs.declared.note.Note.{Note}
use Rattle.watch_list.specs.declared.watch.Watched.{Watched}
use Rattle.watch_list.specs.declared.watch_asks.WatchFixed.{WatchFixed}
use Rattle.desk_http.specs.Session.{SessionKind}
use Rattle.desk_http.specs.declared.port.FeedAsk.{FeedAsk}
use Rattle.desk_workers.specs.Feeds.{seat_sessions}

-- the text of the reply to each feed at each history
abbrev pub watch_text : {R : Type 0} → (R → Note → Bool) → WatchFixed R → FeedAsk → List Entry
    → List ℕ
watch_text tells fixed ask history =
    feed_reply tells fixed history
    (record { seen = ask.seen; watch = ask.feed.watch; after = ask.feed.after })

-- what the reply to each feed is, by the airport and the history
abbrev pub FeedTexts : Type 0
FeedTexts = AirportParts → FeedAsk → List Entry → List ℕ

-- those of these watches
abbrev pub feed_texts : {R : Type 0} → (R → Note → Bool) → List (Watched R) → FeedTexts
feed_texts tells watches airport =
    watch_text tells (record { airport = airport; watches = watches })

-- those of no watch: there is none of any name
abbrev pub no_feeds : FeedTexts
no_feeds = feed_texts shows []

-- the sessions over the port of a seat at the airport that answer these feeds
abbrev pub fed_sessions : FeedTexts → AirportParts → SessionKind
fed_sessions feeds airport = seat_sessions (feeds airport) airport
