-- Histories that go on from one another.
use Rattle.std.proofs.Common.{ℕ, ◌<◌, List, ◌++◌, ap, ◌∙◌, append_assoc}
use Rattle.apron_base.specs.Histories.{Every}
use Rattle.turn_board.specs.declared.view.Call.{Call}
use Rattle.turn_board.specs.Rule.{Extends}
use Rattle.turn_board.proofs.Totals.{every_append, every_both, every_front}

module _ {E : Type 0} (number : E → ℕ) where
  -- a history that goes on from a later one goes on from an earlier one
  pub extends_on : (early middle late : List E) (calls more : List (Call E)) → Extends number middle early calls → Extends number late middle (calls ++ more) → Extends number late early calls
  extends_on early middle late calls more a b = record {
    rest = a.rest ++ b.rest;
    is = b.is ∙ (ap (λ (xs : List E). xs ++ b.rest) a.is ∙ append_assoc early a.rest b.rest);
    later = every_both (λ (c : Call E). Every (λ e. c.number < number e) a.rest) (λ (c : Call E). Every (λ e. c.number < number e) b.rest) (λ (c : Call E). Every (λ e. c.number < number e) (a.rest ++ b.rest))
        (λ c x y. every_append (λ e. c.number < number e) a.rest b.rest x y) calls a.later (every_front (λ (c : Call E). Every (λ e. c.number < number e) b.rest) calls more b.later);
  }
