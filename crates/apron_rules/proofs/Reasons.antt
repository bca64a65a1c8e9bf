-- The first reason of a refusal, from each reason.
use Rattle.std.proofs.Common.{◌≡◌, ◌⊎◌, ℕ, List, Option, None, Some, refl, inl, inr}
use Rattle.std.specs.Option.{option_map, option_or}
use Rattle.apron_rules.specs.declared.refusals.AirportFault.{AirportFault}
use Rattle.apron_rules.specs.declared.refusals.AirportFault.TheVariants.{DuplicateName, Memory}
use Rattle.apron_rules.specs.declared.parts.AirportParts.{AirportParts}
use Rattle.apron_rules.specs.declared.refusals.Limit.{Limit}
use Rattle.apron_rules.specs.Refusals.{unknown_of, bad_half_of, limit_of, bad_fold_of, bad_span_of, duplicate_of, first_reason, later_fault_of, airport_fault}

pub reason_is : (parts : AirportParts) (u h : Option (List ℕ)) (l : Option Limit) (s f : Option (List ℕ)) → u ≡ unknown_of parts → h ≡ bad_half_of parts → l ≡ limit_of parts → s ≡ bad_span_of parts → f ≡ bad_fold_of parts
    → first_reason u h l s f ≡ later_fault_of parts
unfolding later_fault_of
reason_is parts u h l s f a b c d e = rw (a, b, c, d, e) refl

or_some : {A : Type 0} (o p : Option A) (x : A) → o ≡ Some x → option_or o p ≡ Some x
or_some o p x h = rw h refl

or_other : {A : Type 0} (o p q : Option A) → o ≡ None → p ≡ q → option_or o p ≡ q
or_other o p q h k = rw h k

-- a name that occurs twice is the first reason
pub twice : (parts : AirportParts) (e : AirportFault) → (e ≡ Memory) ⊎ (option_map DuplicateName (duplicate_of parts) ≡ Some e) → (e ≡ Memory) ⊎ (airport_fault parts ≡ Some e)
unfolding airport_fault
twice parts e (inl memory) = inl memory
twice parts e (inr named) = inr (or_some (option_map DuplicateName (duplicate_of parts)) (later_fault_of parts) e named)

-- without such a name the later reasons decide
pub later : (parts : AirportParts) (found : Option AirportFault) → option_map DuplicateName (duplicate_of parts) ≡ None → later_fault_of parts ≡ found → airport_fault parts ≡ found
unfolding airport_fault
later parts found none h = or_other (option_map DuplicateName (duplicate_of parts)) (later_fault_of parts) found none h

pub later_named : (parts : AirportParts) (e : AirportFault) → option_map DuplicateName (duplicate_of parts) ≡ None → (e ≡ Memory) ⊎ (later_fault_of parts ≡ Some e) → (e ≡ Memory) ⊎ (airport_fault parts ≡ Some e)
later_named parts e none (inl memory) = inl memory
later_named parts e none (inr named) = inr (later parts (Some e) none named)
