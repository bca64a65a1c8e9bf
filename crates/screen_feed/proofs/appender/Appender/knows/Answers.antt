use Rattle.std.proofs.Common.{◌∙◌, ap, sym}
use Rattle.screen_feed.proofs.Adding.{sees_moves}
use Rattle.screen_feed.proofs.appender.Appender.knows.Goals as goal

pub compare_exchange-requires : goal.compare_exchange-requires
compare_exchange-requires c =
    let h = c.self.invariant.head_is in
    let pen = c.self.invariant.pen_is in
    let offer = c.plain-offer.ensures in
    let book = c.learn.ensures.0 ∙ ap (λ s. s.book) c.again-all.ensures in (
      ap (λ w. w.tracked) h,
      book ∙ sym (ap (λ w. w.book) h),
      pen.book_is ∙ sym (ap (λ w. w.book) h),
      offer.0,
      rw (ap (λ w. w.key) h, offer.3) (sees_moves c.learn.new.self.log c.plain-offer.result.ask c.self.inside.pen.nib pen.right_is),
    )
