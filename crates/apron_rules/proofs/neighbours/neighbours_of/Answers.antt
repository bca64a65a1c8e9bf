use Rattle.std.proofs.Common.{◌≡◌, ◌∙◌, ℕ, ap, arith, length, refl}
use Rattle.std.specs.Prelude.{filter}
use Rattle.apron_rules.specs.Neighbours.{first_stands, is_neighbour}
use Rattle.apron_rules.proofs.Bordering.{neighbours_next}
use Rattle.apron_rules.proofs.neighbours.neighbours_of.Goals as goal

pub loop-other-preserved : goal.loop-other-preserved
loop-other-preserved c =
    neighbours_next c.args.parts.now c.args.stand _ c.args.widest c.loop-other.other c.loop-other.neighbours c.push_neighbour_if.new.neighbours c.breaks_by_place-rule.result
    c.requires.linked.airport.faultless c.requires.widest refl c.breaks_by_place-rule.ensures.is (rw c.is_some.ensures at c.in_ok-push_neighbour_if.ensures.ok) c.loop-other.invariant

pub returns-clause-neighbours : goal.returns-clause-neighbours
returns-clause-neighbours c =
    let all : c.loop-other.other ≡ length c.args.parts.now.stands = omega arith in
    c.loop-other.invariant ∙ ap (λ (n : ℕ). filter (is_neighbour c.args.parts.now c.args.stand) (first_stands n)) all
