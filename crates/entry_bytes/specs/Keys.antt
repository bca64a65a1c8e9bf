-- Keys of visits as fields.
use Rattle.std.specs.Prelude.{List, [], ◌∷◌, Option, Some, None}
use Rattle.std.specs.Option.{unwrap_or}
use Rattle.std.specs.Int.{w8, w16}
use Rattle.visit_book.specs.declared.visits.Key.{Key}
use Rattle.visit_book.specs.NewVisits.{is_key_in_time}
use Rattle.entry_bytes.specs.Fields.{Field, limited_field, number_field, text_field}

-- a key: the airline, the number and the suffix of its flight, which is 0 for none, and the day
abbrev pub key_fields : Key → List Field
key_fields key =
    text_field key.flight.airline ∷ number_field w16 key.flight.number
    ∷ number_field w8 (unwrap_or key.flight.suffix 0)
    ∷ limited_field w8 key.day (λ airport. is_key_in_time airport key)
    ∷ []

-- 0 for no key; 1 and the key
abbrev pub optional_key_fields : Option Key → List Field
optional_key_fields None = number_field w8 0 ∷ []
optional_key_fields (Some key) = number_field w8 1 ∷ key_fields key
