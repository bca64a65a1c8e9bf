use Rattle.std.proofs.Common.{◌≡◌, subst, sym}
use Rattle.std.specs.List.Sorted.{IsNonDecreasingBy}
use Rattle.history_core.specs.History.{replay}
use Rattle.watch_list.specs.declared.feed_words.FeedOutcome.TheVariants.{Notes}
use Rattle.watch_list.specs.declared.note.Note.{Note}
use Rattle.watch_list.specs.WatchBoards.{WatchHeld, feed_outcome, watch_fixed}
use Rattle.watch_list.proofs.Feeds.{fed_is}
use Rattle.watch_list.proofs.OrderedNotes.{notes_rise}
use Rattle.watch_list.proofs.watch_board.WatchBoard.feed_outcome.Goals as goal

pub later_notes-requires : goal.later_notes-requires
later_notes-requires g c =
    let board = c.self.inside.noted in record {
      ordered = subst (IsNonDecreasingBy (λ (note : Note). note.entry)) (sym c.notes.ensures.notes) (notes_rise board.airport board.history);
    }

pub returns : goal.returns
returns g c =
    let inside = c.self.inside in
    let held : WatchHeld g.row.K.Denot g.row.R.Denot = record { board = inside.noted; watches = inside.watches.now; next = inside.next } in
    let version = subst (λ (h : WatchHeld g.row.K.Denot g.row.R.Denot). c.args.version ≡ (replay h.board.airport h.board.history).version)
    (sym c.self.view_is) c.requires.version in
    let is = fed_is g.R.Stated.tells held c.args.version (record { seen = c.args.seen; watch = c.args.watch.now; after = c.args.after }) c.in-Some.watch.now
    c.notes.result.now c.later_notes.result.now c.in_ok-notes.notes.items c.from_vec.result
    version c.if-seen-version.false c.if-after-version.false (sym c.in-Some.ensures.found) c.notes.ensures.notes c.later_notes.ensures.later
    c.in_ok-notes.ensures.feed c.from_vec.ensures.items in
    record {
      is = subst (λ (h : WatchHeld g.row.K.Denot g.row.R.Denot). Notes c.from_vec.result
          ≡ feed_outcome g.R.Stated.tells (watch_fixed h) h.board.history (record { seen = c.args.seen; watch = c.args.watch.now; after = c.args.after }))
          c.self.view_is is;
    }
