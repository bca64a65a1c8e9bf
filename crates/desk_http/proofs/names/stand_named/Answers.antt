use Rattle.std.proofs.Common.{refl}
use Rattle.apron_base.specs.declared.numbers.StandNo.{StandNo}
use Rattle.apron_rules.specs.Names.{stand_names}
use Rattle.desk_bodies.proofs.Names.{named}
use Rattle.desk_http.proofs.Named.{none_named, some_named}
use Rattle.desk_http.proofs.names.stand_named.Goals as goal

pub returns-in-None-clause-named : goal.returns-in-None-clause-named
returns-in-None-clause-named c = none_named {N = StandNo} (λ place. record { 0 = place }) (stand_names c.args.airport.now) c.args.text.now (named c.args.text.now _ c.in-None.ensures.form)

pub returns-in-Some-clause-named : goal.returns-in-Some-clause-named
returns-in-Some-clause-named c =
    some_named (λ place. record { 0 = place }) (stand_names c.args.airport.now) c.args.text.now (λ (stand : StandNo). stand.0) (λ stand. refl) c.in-Some.name c.stand_of.result
    (named c.args.text.now _ c.in-Some.ensures.form) c.stand_of.ensures.place
