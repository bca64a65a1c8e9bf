-- What a feed comes to.
use Rattle.std.proofs.Common.{◌≡◌, ◌∙◌, ◌≤◌, ℕ, Bool, false, List, Some, ap, arith}
use Rattle.std.specs.Prelude.{filter, nat_lt}
use Rattle.std.proofs.lemmas.Bool.Decides.{nat_tests}
use Rattle.history_core.specs.History.{replay}
use Rattle.watch_list.specs.declared.feed_words.FeedOutcome.TheVariants.{Notes}
use Rattle.watch_list.specs.declared.note.Note.{Note}
use Rattle.watch_list.specs.declared.watch.Watched.{Watched}
use Rattle.watch_list.specs.HistoryNotes.{notes_of}
use Rattle.watch_list.specs.WatchBoards.{WatchFeedAsk, WatchHeld, feed_outcome, watch_fixed}
use Rattle.watch_list.specs.Watches.{feed, is_later, watch_named}
use Rattle.watch_list.proofs.LaterNotes.{feed_later}

pub fed_is : {K R : Type 0} (tells : R → Note → Bool) (held : WatchHeld K R) (version : ℕ) (ask : WatchFeedAsk) (watch : Watched R) (notes later picked kept : List Note)
    → version ≡ (replay held.board.airport held.board.history).version → ask.seen ≤ version → ask.after ≤ version → watch_named held.watches ask.watch ≡ Some watch
    → notes ≡ notes_of held.board.airport held.board.history → later ≡ filter (is_later ask.after) notes → picked ≡ feed (tells watch.stated) ask.after later
    → kept ≡ picked → Notes kept ≡ feed_outcome tells (watch_fixed held) held.board.history ask
fed_is tells held version ask watch notes later picked kept version_is seen after found notes_are later_are picked_are kept_are =
    let now = replay held.board.airport held.board.history in
    let no_later : nat_lt now.version ask.seen ≡ false = grind (arith, nat_tests, version_is, seen) in
    let no_after : nat_lt now.version ask.after ≡ false = grind (arith, nat_tests, version_is, after) in
    let all : kept ≡ feed (tells watch.stated) ask.after (notes_of held.board.airport held.board.history) =
    kept_are
    ∙ (picked_are ∙ (ap (feed (tells watch.stated) ask.after) later_are
    ∙ (feed_later (tells watch.stated) ask.after notes ∙ ap (feed (tells watch.stated) ask.after) notes_are))) in
    rw (no_later, no_after, found) (ap Notes all)
