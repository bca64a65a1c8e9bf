-- What a visit is added with, as fields.
use Rattle.std.specs.Prelude.{ℕ, ◌+◌, ◌&&◌, nat_le, nat_lt, Bool, List, ◌∷◌, ◌++◌, length}
use Rattle.std.specs.Int.{w8, w16, w32}
use Rattle.apron_rules.specs.declared.parts.AirportParts.{AirportParts}
use Rattle.apron_rules.specs.Rules.{least_of}
use Rattle.visit_book.specs.declared.visits.NewVisit.{NewVisit}
use Rattle.visit_book.specs.WellFormed.{plan_end}
use Rattle.entry_bytes.specs.Fields.{Field, limited_field, name_field, number_field}
use Rattle.entry_bytes.specs.Keys.{optional_key_fields}

-- the minute off block of a visit of this type that comes on block at this minute: not after the
-- plan's end, and not sooner than the least minutes of the type
abbrev pub is_off_of : AirportParts → ℕ → ℕ → ℕ → Bool
is_off_of airport kind on off = nat_le off (plan_end airport)
    && nat_le (on + least_of airport (record { 0 = kind })) off

-- all that a visit is added with, in this order
abbrev pub new_visit_fields : NewVisit → List Field
new_visit_fields new =
    name_field new.name
    ∷ limited_field w16 new.kind.0 (λ airport. nat_lt new.kind.0 (length airport.types))
    ∷ number_field w8 new.class
    ∷ limited_field w32 new.on (λ airport. nat_lt new.on (plan_end airport))
    ∷ limited_field w32 new.off (λ airport. is_off_of airport new.kind.0 new.on new.off)
    ∷ (optional_key_fields new.arr ++ optional_key_fields new.dep)
