use Rattle.std.proofs.Common.{◌≡◌, ◌∷◌, [], ap, arith, length, length-append, sym, true, ◌∙◌, None, Some}
use Rattle.screen_feed.specs.Logs.{begun_after, named_after}
use Rattle.screen_feed.specs.Rules.{entry_word}
use Rattle.screen_feed.proofs.Adding.{adds_moves}
use Rattle.screen_feed.proofs.Cells.{named_push}
use Rattle.screen_feed.proofs.appender.Appender.add.Goals as goal

pub compare_exchange-requires : goal.compare_exchange-requires
compare_exchange-requires c =
    let h = c.self.invariant.head_is in
    let pen = c.self.invariant.pen_is in
    let offer = c.plain-offer.ensures in
    let entry = c.of-entry.result in
    let log = c.self.inside.seen.log in
    let may : entry.shown ≡ true → begun_after None log ≡ Some entry.sheet.value =
    λ is. ap (λ s. begun_after None s.log) c.self.view_is ∙ (c.requires.legal (sym c.of-entry.ensures.shown ∙ is) ∙ ap (λ s. Some s) (sym c.of-entry.ensures.sheet)) in (
      ap (λ w. w.tracked) h,
      sym (ap (λ w. w.book) h),
      pen.book_is ∙ sym (ap (λ w. w.book) h),
      offer.0,
      rw (ap (λ w. w.key) h, offer.1, offer.3) (adds_moves log entry c.self.inside.pen.nib pen.right_is pen.key_is may),
    )

pub invariant_of-self : goal.invariant_of-self
invariant_of-self c =
    let log = c.self.inside.seen.log in
    let found = c.compare_exchange.ensures in
    let ask = c.plain-offer.result.ask in
    let next = c.new_pen-next.ensures in record {
      head_is = c.self.invariant.head_is ∙ ap entry_word (sym found.0);
      pen_is = record {
        book_is = next.book ∙ sym found.0;
        right_is = next.right;
        key_is = sym (ap (named_after 0) found.7 ∙ (named_push 0 log ask ∙ (ap (λ e. e.next.value.nib.key) c.plain-offer.ensures.1 ∙ ap (λ p. p.nib.key) c.of-entry.ensures.next)));
      };
      round_is = omega (arith, c.self.invariant.round_is, ap length found.7, length-append log (ask ∷ []));
    }
