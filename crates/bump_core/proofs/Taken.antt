-- Which parts an actual own part takes is seen by the clashes of actual own parts alone.
use Rattle.std.proofs.Common.{◌≡◌, ◌∙◌, Bool, true, false, ◌&&◌, List, ◌∷◌, [], refl, ap}
use Rattle.std.specs.Prelude.{filter, filter_map, not}
use Rattle.bump_core.specs.declared.ranks.KeptClash.{KeptClash}
use Rattle.bump_core.specs.declared.ranks.Ranked.{Ranked}
use Rattle.bump_core.specs.Lists.{by_other, is_taken, takes}
use Rattle.bump_core.proofs.Rounds.{any_filter, any_same}

and_twice : (b c : Bool) → (b && (b && c)) ≡ (b && c)
and_twice true c = refl
and_twice false c = refl

abbrev of_actual : KeptClash → Bool
of_actual met = met.own.slot.actual

taken_by : (mets : List KeptClash) (other : Ranked) → is_taken (filter of_actual mets) other ≡ is_taken mets other
taken_by mets other =
    any_filter of_actual (takes other) mets
    ∙ any_same (λ met. of_actual met && takes other met) (takes other) mets (λ met here. and_twice met.own.slot.actual _)

-- so it is with what blocks the own part of a clash
pub left_by_actual : (mets taking : List KeptClash) (met : KeptClash) → taking ≡ filter (λ met. met.own.slot.actual) mets
    → filter_map by_other (filter (λ met. not (is_taken taking met.other)) (met ∷ [])) ≡ filter_map by_other (filter (λ met. not (is_taken mets met.other)) (met ∷ []))
left_by_actual mets taking met is =
    let same : is_taken taking met.other ≡ is_taken mets met.other = ap (λ (some : List KeptClash). is_taken some met.other) is ∙ taken_by mets met.other in
    rw same refl
