use Rattle.std.proofs.Common.{refl}
use Rattle.apron_base.specs.declared.numbers.TypeNo.{TypeNo}
use Rattle.apron_rules.specs.Names.{type_names}
use Rattle.desk_bodies.proofs.Names.{named}
use Rattle.desk_http.proofs.Named.{none_named, some_named}
use Rattle.desk_http.proofs.names.type_named.Goals as goal

pub returns-in-None-clause-named : goal.returns-in-None-clause-named
returns-in-None-clause-named c = none_named {N = TypeNo} (λ place. record { 0 = place }) (type_names c.args.airport.now) c.args.text.now (named c.args.text.now _ c.in-None.ensures.form)

pub returns-in-Some-clause-named : goal.returns-in-Some-clause-named
returns-in-Some-clause-named c =
    some_named (λ place. record { 0 = place }) (type_names c.args.airport.now) c.args.text.now (λ (kind : TypeNo). kind.0) (λ kind. refl) c.in-Some.name c.type_of.result
    (named c.args.text.now _ c.in-Some.ensures.form) c.type_of.ensures.place
