use Rattle.std.proofs.Common.{◌≡◌, ◌++◌, ◌∷◌, [], refl}
use Rattle.apron_rules.proofs.Airports.{some_type}
use Rattle.apron_rules.proofs.Bordering.{all_next}
use Rattle.apron_rules.proofs.neighbours.stand_neighbours.Goals as goal

pub widest_of-widest-requires-clause-some : goal.widest_of-widest-requires-clause-some
widest_of-widest-requires-clause-some c = rw c.as_slice.ensures.items (some_type c.args.parts.now c.requires.linked.airport.faultless)

pub loop-stand-preserved : goal.loop-stand-preserved
loop-stand-preserved c =
    let pushed : c.push.new.self.items ≡ c.loop-stand.all.items ++ c.in_ok-neighbours.neighbours ∷ [] = rw c.if-is_err.ensures.negation at c.push.ensures.items in
    let h = all_next c.args.parts.now c.loop-stand.stand _ c.loop-stand.all.items c.push.new.self.items c.in_ok-neighbours.neighbours refl pushed c.in_ok-neighbours.ensures.neighbours c.loop-stand.invariant.counted c.loop-stand.invariant.each in
    record { counted = h.0; each = h.1 }
