use Rattle.std.proofs.Common.{ap, sym, ◌∙◌}
use Rattle.screen_feed.proofs.Adding.{first_moves}
use Rattle.screen_feed.proofs.appender.Appender.open.Goals as goal

pub compare_exchange-found-requires : goal.compare_exchange-found-requires
compare_exchange-found-requires c =
    let h = c.tracked-head.ensures.0 in
    let opened = c.open-seen.ensures in
    let book = sym (ap (λ w. w.book) h ∙ opened.2) in
    let key = ap (λ w. w.key) h ∙ ap (λ n. n.key) opened.4 in
    let offer = c.plain-offer.ensures in
    let pen = c.no_pen-no_pen.ensures in (
      ap (λ w. w.tracked) h,
      book,
      pen.0 ∙ book,
      offer.0,
      rw (key, opened.1, pen.1, offer.1, offer.3) (first_moves c.of-entry.result c.of-entry.ensures.shown),
    )
