use Rattle.std.proofs.Common.{◌≡◌, ◌∙◌, sym, ap, inr, true, false, take, Result, Ok, Err}
use Rattle.std.specs.Prelude.{is_some, is_err, OnOk}
use Rattle.std.specs.Option.{option_map}
use Rattle.std.proofs.lemmas.Bool.{false≢true}
use Rattle.apron_rules.specs.Names.{is_known}
use Rattle.apron_rules.specs.declared.refusals.AirportFault.TheVariants.{DuplicateName}
use Rattle.apron_rules.proofs.Places.{repeat_here, repeat_next, repeat_end, places_next}
use Rattle.apron_rules.proofs.names.places_of.Goals as goal

from_ok : {T E : Type 0} (r : Result T E) (P : Type 0) → is_err r ≡ false → OnOk r P → P
from_ok (Ok x) P h p = p
from_ok (Err e) P h p = absurd (false≢true (sym h))

pub returns-then-contains_key-clause-fault : goal.returns-then-contains_key-clause-fault
returns-then-contains_key-clause-fault c =
    let name = c.index-names-place.result in
    let known : is_known name (take c.loop-place.place c.args.names.now) ≡ true =
    sym (ap is_some (c.loop-place.invariant.0 name)) ∙ (sym c.contains_key.ensures ∙ c.if-contains_key.true) in
    let here = repeat_here c.args.names.now c.loop-place.place name c.loop-place-test.true c.index-names-place.is known in
    inr (ap (option_map DuplicateName) (sym c.loop-place.invariant.1 ∙ here))

pub loop-place-preserved : goal.loop-place-preserved
loop-place-preserved c =
    let name = c.index-names-place.result in
    let new : is_known name (take c.loop-place.place c.args.names.now) ≡ false =
    sym (ap is_some (c.loop-place.invariant.0 name)) ∙ (sym c.contains_key.ensures ∙ c.if-contains_key.false) in
    let updates = from_ok c.insert.result _ (sym c.is_err.ensures.value ∙ c.if-is_err.false) c.insert.ensures.updates in (
      places_next c.args.names.now c.loop-place.place name c.loop-place.places c.insert.new.self c.loop-place-test.true c.index-names-place.is new c.loop-place.invariant.0 updates,
      sym (repeat_next c.args.names.now c.loop-place.place name c.loop-place-test.true c.index-names-place.is new) ∙ c.loop-place.invariant.1,
    )

pub returns-clause-fault : goal.returns-clause-fault
returns-clause-fault c = ap (option_map DuplicateName) (sym c.loop-place.invariant.1 ∙ repeat_end c.args.names.now c.loop-place.place c.loop-place-test.false)
