-- What appends to a book.
use Rattle.std.specs.Prelude.{ℕ, ◌≡◌, List, length}
use Rattle.logbook.specs.Pages.{Book, Named}
use Rattle.logbook.specs.declared.tokens.Pen.{Pen}
use Rattle.screen_feed.specs.declared.book.SheetEntry.{SheetEntry}
use Rattle.screen_feed.specs.Rules.{MayAdd, entry_word}

-- the book, and all its entries
pub record AppenderState : Type 0 where
  pub book : Book
  pub log : List SheetEntry

-- the appender has the book's word and the pen for the next entry, and counts the entries
pub record IsAppender (appender : AppenderState) (head : Named) (pen : Pen)
    (round : ℕ) : Type 0 where
  pub head_is : head ≡ entry_word appender.book
  pub pen_is : MayAdd appender.book appender.log pen
  pub round_is : round ≡ length appender.log
