-- A board with its notes and watches, as contracts see it and as a machine.
use Rattle.std.specs.Prelude.{◌≡◌, ◌||◌, ℕ, Bool, nat_lt, List, Option, None, Some, if◌then◌else◌}
use Rattle.apron_base.specs.Keeper.{KeeperState}
use Rattle.apron_base.specs.Machine.{MachineState}
use Rattle.apron_base.specs.declared.outside.Acted.{Acted}
use Rattle.apron_base.specs.declared.outside.Acted.TheVariants.{Reply, Memory}
use Rattle.desk_asks.specs.declared.asks.Entry.{Entry}
use Rattle.desk_asks.specs.declared.asks.What.TheVariants.{Change}
use Rattle.history_core.specs.Answer.{ActsLegally}
use Rattle.history_core.specs.Board.{BoardHeld}
use Rattle.history_core.specs.History.{IsAskOf, IsLegal, replay}
use Rattle.watch_list.specs.declared.feed_words.FeedOutcome.{FeedOutcome}
use Rattle.watch_list.specs.declared.feed_words.FeedOutcome.TheVariants.{Ahead, NoWatch, Notes}
use Rattle.watch_list.specs.declared.note.Note.{Note}
use Rattle.watch_list.specs.declared.watch.Watched.{Watched}
use Rattle.watch_list.specs.declared.watch_asks.WatchAsk.{WatchAsk}
use Rattle.watch_list.specs.declared.watch_asks.WatchAsk.TheVariants.{Plain, Feed}
use Rattle.watch_list.specs.declared.watch_asks.WatchFixed.{WatchFixed}
use Rattle.watch_list.specs.FeedReplies.{fed_text}
use Rattle.watch_list.specs.HistoryNotes.{notes_of}
use Rattle.watch_list.specs.Watches.{feed, watch_named}

-- its board, the watches' names and what they state, and the least number of its next call
pub record WatchHeld (K R : Type 0) : Type 0 where
  pub board : BoardHeld K
  pub watches : List (Watched R)
  pub next : ℕ

-- the airport and the watches, which no call changes
abbrev pub watch_fixed : {K R : Type 0} → WatchHeld K R → WatchFixed R
watch_fixed held = record { airport = held.board.airport; watches = held.watches }

-- as a machine, by what its keeper tells: the history, the entry at risk and the faults are the
-- board's
abbrev pub watch_state : {K R : Type 0} → (K → KeeperState) → WatchHeld K R
    → MachineState Entry (WatchFixed R)
watch_state tells held = record {
  fixed = watch_fixed held;
  history = held.board.history;
  at_risk = held.board.at_risk;
  next = held.next;
  faults = (tells held.board.keeper).faults;
}

-- what is asked can be asked at the airport: each feed can
abbrev pub IsWatchAskOf : {R : Type 0} → WatchFixed R → WatchAsk → Type 0
IsWatchAskOf fixed (Plain ask) = IsAskOf fixed.airport ask
IsWatchAskOf fixed (Feed seen watch after) = Unit {0}

-- the entry is one that the ask can add: a feed adds none
abbrev pub CanAdd : WatchAsk → Entry → Type 0
CanAdd (Plain ask) entry = ask.what ≡ Change entry.command
CanAdd (Feed seen watch after) entry = ⊥

-- a feed: the greatest version that was seen, the name of the watch, and the entry after which it
-- asks for notes
pub record WatchFeedAsk : Type 0 where
  pub seen : ℕ
  pub watch : List ℕ
  pub after : ℕ

-- the notes after an entry that the watch tells of, or that there is no watch
abbrev pub fed_by : {R : Type 0} → (R → Note → Bool) → ℕ → List Note → Option (Watched R)
    → FeedOutcome
fed_by tells after notes None = NoWatch
fed_by tells after notes (Some watch) = Notes (feed (tells watch.stated) after notes)

-- what a feed comes to at a history: it is ahead of the version, or is of the watch of its name
abbrev pub feed_outcome : {R : Type 0} → (R → Note → Bool) → WatchFixed R → List Entry
    → WatchFeedAsk → FeedOutcome
feed_outcome tells fixed history ask =
    let version = (replay fixed.airport history).version in
    if nat_lt version ask.seen || nat_lt version ask.after then Ahead
    else fed_by tells ask.after (notes_of fixed.airport history)
    (watch_named fixed.watches ask.watch)

-- the reply to a feed at a history
abbrev pub feed_reply : {R : Type 0} → (R → Note → Bool) → WatchFixed R → List Entry → WatchFeedAsk
    → List ℕ
feed_reply tells fixed history ask =
    fed_text fixed.airport (replay fixed.airport history).version
    (feed_outcome tells fixed history ask)

-- the answer is this reply, or there is no memory
abbrev pub IsReplyOrMemory : List ℕ → Acted → Type 0
IsReplyOrMemory text (Reply bytes) = bytes ≡ text
IsReplyOrMemory text Memory = Unit {0}
IsReplyOrMemory text _ = ⊥

-- a feed found a legal history and left it
pub record FindsLegalHistory {R : Type 0} (tells : R → Note → Bool) (fixed : WatchFixed R)
    (before : List Entry) (ask : WatchFeedAsk) (acted : Acted)
    (after : List Entry) : Type 0 where
  pub found : IsLegal fixed.airport before
  pub acts : IsReplyOrMemory (feed_reply tells fixed before ask) acted
  pub left : after ≡ before

-- what an ask is answered at the history before it, and the history after it: a board's ask as by a
-- board
abbrev pub WatchAnswers : {R : Type 0} → (R → Note → Bool) → WatchFixed R → List Entry → ℕ
    → WatchAsk → Acted → List Entry → Type 0
WatchAnswers tells fixed before call (Plain ask) acted after =
    ActsLegally fixed.airport before call ask acted after
WatchAnswers tells fixed before call (Feed seen watch entry) acted after =
    FindsLegalHistory tells fixed before (record { seen = seen; watch = watch; after = entry })
    acted after
