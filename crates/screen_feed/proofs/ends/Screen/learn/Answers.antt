use Rattle.std.proofs.Common.{◌≤◌, List, ap, arith, inl, inr, length, refl, subst, ◌∙◌}
use mathlib.Core.List.{IsPrefix}
use Rattle.screen_feed.specs.declared.book.SheetEntry.{SheetEntry}
use Rattle.screen_feed.specs.Logs.{shown_in}
use Rattle.screen_feed.specs.Sheets.{Begins, SheetState}
use Rattle.screen_feed.proofs.Fronts.{prefix_shorter}
use Rattle.screen_feed.proofs.Keeping.{begins_self}
use Rattle.screen_feed.proofs.Shown.{begins_shown}
use Rattle.screen_feed.proofs.ends.Screen.learn.Goals as goal

pub returns-then-round-self : goal.returns-then-round-self
returns-then-round-self c =
    let both = c.learn.new.self.log in
    let mine = c.self.inside.told.log in
    let theirs = c.told.inside.seen.log in
    let told = ap (λ t. t.sheets) c.told.view_is in
    let before : IsPrefix mine both = subst (λ (l : List SheetEntry). IsPrefix l both) (ap (λ s. s.log) c.again-both.ensures) c.learn.ensures.2 in
    let less : length mine ≤ length theirs = omega (arith, c.self.invariant.1, c.told.invariant, c.if-round-self.true) in
    let longer : Begins (shown_in theirs) (shown_in mine) = begins_shown mine theirs (prefix_shorter mine theirs both before c.learn.ensures.3 less) in record {
      learned = record {
        pair = ap (λ t. t.pair) c.told.view_is ∙ c.requires.pair;
        shown = ap (λ s. s.shown) c.self.view_is;
        seen = ap (λ s. s.seen) c.self.view_is;
        given = ap (λ s. s.given) c.self.view_is;
        one = inr told;
        mine = subst (Begins (shown_in theirs)) (ap (λ s. s.told) c.self.view_is) longer;
        theirs = subst (Begins (shown_in theirs)) told (begins_self (shown_in theirs));
      };
    }

pub returns-else-round-self : goal.returns-else-round-self
returns-else-round-self c =
    let both = c.learn.new.self.log in
    let mine = c.self.inside.told.log in
    let theirs = c.told.inside.seen.log in
    let before : IsPrefix mine both = subst (λ (l : List SheetEntry). IsPrefix l both) (ap (λ s. s.log) c.again-both.ensures) c.learn.ensures.2 in
    let less : length theirs ≤ length mine = omega (arith, c.self.invariant.1, c.told.invariant, c.if-round-self.false) in
    let longer : Begins (shown_in mine) (shown_in theirs) = begins_shown theirs mine (prefix_shorter theirs mine both c.learn.ensures.3 before less) in record {
      learned = record {
        pair = refl;
        shown = refl;
        seen = refl;
        given = refl;
        one = inl refl;
        mine = begins_self c.args.self.now.told;
        theirs = subst (λ (l : List SheetState). Begins l c.args.told.sheets) (ap (λ s. s.told) c.self.view_is) (subst (Begins (shown_in mine)) (ap (λ t. t.sheets) c.told.view_is) longer);
      };
    }
