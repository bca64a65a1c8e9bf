use Rattle.std.proofs.Common.{sym, ◌∙◌, ap}
use Rattle.screen_feed.proofs.Adding.{pen_moves}
use Rattle.screen_feed.proofs.appender.new_pen.Goals as goal

pub compare_exchange-requires : goal.compare_exchange-requires
compare_exchange-requires c =
    let h = c.requires.head in
    let book = ap (λ s. s.book) c.again-log.ensures ∙ sym (ap (λ w. w.book) h) in
    let offer = c.plain-offer.ensures in
    let pen = c.no_pen-pen.ensures in (
      ap (λ w. w.tracked) h,
      book,
      pen.0 ∙ book,
      offer.0,
      rw (ap (λ w. w.key) h, pen.1, offer.3) (pen_moves c.again-log.result.log c.plain-offer.result.ask),
    )
