-- A board without entries opens, unless there is no memory.
use Rattle.std.proofs.Common.{◌≡◌, ℕ, List, [], ◌∷◌, ◌++◌, length, refl, ap, arith}
use Rattle.std.proofs.lemmas.List.{length-append}
use Rattle.apron_rules.specs.declared.parts.AirportParts.{AirportParts}
use Rattle.history_core.specs.Opening.{CannotOpen, StopsAt}
use Rattle.history_core.specs.declared.opening.OpenFault.{OpenFault}
use Rattle.history_core.specs.declared.opening.OpenFault.TheVariants.{BadEntry, WrongEntry, Memory}

no_stop : (airport : AirportParts) (entries : List (List ℕ)) (fault : OpenFault) → entries ≡ [] → StopsAt airport entries fault → ⊥
no_stop airport entries fault none stop =
    let length_is : length entries ≡ length (stop.front ++ stop.bytes ∷ stop.back) = ap length stop.is in
    let zero_is : length entries ≡ 0 = ap length none in
    omega (arith, length_is, zero_is, length-append stop.front (stop.bytes ∷ stop.back))

pub only_memory : (airport : AirportParts) (entries : List (List ℕ)) (fault : OpenFault) → entries ≡ [] → CannotOpen airport entries fault → fault ≡ Memory
only_memory airport entries (BadEntry number) none stop = absurd (no_stop airport entries (BadEntry number) none stop)
only_memory airport entries (WrongEntry number) none stop = absurd (no_stop airport entries (WrongEntry number) none stop)
only_memory airport entries Memory none stop = refl
