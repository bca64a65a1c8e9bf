use Rattle.std.proofs.Common.{◌+◌, ◌∙◌, ℕ, ap, sym}
use Rattle.std.specs.Prelude.{option_map, position}
use Rattle.std.proofs.lemmas.List.{take_rest}
use Rattle.visit_book.specs.Flights.{is_by}
use Rattle.plan_core.proofs.flights.first_from.Goals as goal

pub returns-in-Some : goal.returns-in-Some
returns-in-Some c = record {
  place = ap (option_map (λ (place : ℕ). c.args.from + place))
      (sym c.in-Some.is ∙ (c.first_by.ensures.place ∙ ap (position (is_by c.args.key.now)) (take_rest c.args.keys.now c.args.from)));
}

pub returns-in-None : goal.returns-in-None
returns-in-None c = record {
  place = ap (option_map (λ (place : ℕ). c.args.from + place))
      (sym c.in-None.is ∙ (c.first_by.ensures.place ∙ ap (position (is_by c.args.key.now)) (take_rest c.args.keys.now c.args.from)));
}
