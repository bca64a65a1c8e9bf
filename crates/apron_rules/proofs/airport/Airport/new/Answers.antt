use Rattle.std.proofs.Common.{None}
use Rattle.std.proofs.lemmas.Result.{err_from_is_err_and}
use Rattle.apron_rules.specs.Kept.{IsLinked}
use Rattle.apron_rules.proofs.Airports.{airport_of}
use Rattle.apron_rules.proofs.Reasons.{twice, later, later_named}
use Rattle.apron_rules.proofs.airport.Airport.new.Goals as goal

pub returns-in_err-names-clause-fault : goal.returns-in_err-names-clause-fault
returns-in_err-names-clause-fault c =
    let p = err_from_is_err_and c.from_residual.result c.from_residual.ensures.1 in
    rw (p.1, p.2) (twice c.args.parts c.in_err-names.field-0.0 c.in_err-names.ensures.fault)

pub returns-in_err-check_parts-clause-fault : goal.returns-in_err-check_parts-clause-fault
returns-in_err-check_parts-clause-fault c =
    let p = err_from_is_err_and c.from_residual-in_err-check_parts.result c.from_residual-in_err-check_parts.ensures.1 in
    rw (p.1, p.2) (later_named c.args.parts c.in_err-check_parts.field-0.0 c.in_ok-names.ensures.fault c.in_err-check_parts.ensures.fault)

pub stand_neighbours-requires : goal.stand_neighbours-requires
stand_neighbours-requires c =
    let linked : IsLinked c.args.parts c.in_ok-links.links.items c.in_ok-pairs.pairs.items = record {
      airport = airport_of c.args.parts c.requires.station c.requires.first (later c.args.parts None c.in_ok-names.ensures.fault c.in_ok-check_parts.ensures.fault);
      linked = rw (c.in_ok-names.ensures.frontages, c.in_ok-names.ensures.stands, c.as_slice-stands.ensures.items) at c.in_ok-links.ensures.links;
      paired = rw (c.in_ok-names.ensures.stands, c.as_slice.ensures.items) at c.in_ok-pairs.ensures.pairs;
      counted = rw c.as_slice-stands.ensures.items at c.in_ok-pairs.ensures.count;
    } in
    record { linked = rw (c.deref.ensures.value, c.deref-2.ensures.value) linked }

pub invariant_of-result : goal.invariant_of-result
invariant_of-result c = record {
  stands_named = c.in_ok-names.ensures.stands;
  types_named = c.in_ok-names.ensures.types;
  linked = record {
    airport = airport_of c.args.parts c.requires.station c.requires.first (later c.args.parts None c.in_ok-names.ensures.fault c.in_ok-check_parts.ensures.fault);
    linked = rw (c.in_ok-names.ensures.frontages, c.in_ok-names.ensures.stands, c.as_slice-stands.ensures.items) at c.in_ok-links.ensures.links;
    paired = rw (c.in_ok-names.ensures.stands, c.as_slice.ensures.items) at c.in_ok-pairs.ensures.pairs;
    counted = rw c.as_slice-stands.ensures.items at c.in_ok-pairs.ensures.count;
  };
  bordered = c.in_ok-neighbours.ensures.all;
}

pub returns-clause-fault : goal.returns-clause-fault
returns-clause-fault c = later c.args.parts None c.in_ok-names.ensures.fault c.in_ok-check_parts.ensures.fault
