-- How entries of format 1 are converted to format 2, and why not.
use Rattle.std.specs.Prelude.{◌≡◌, ◌+◌, ℕ, List, ◌∷◌, ◌++◌, length, map}
use Rattle.apron_base.specs.Histories.{Every}
use Rattle.apron_rules.specs.declared.parts.AirportParts.{AirportParts}
use Rattle.desk_asks.specs.declared.asks.Entry.{Entry}
use Rattle.entry_bytes.specs.Former.{SpeltNone, WasEntryOf, former_text}
use Rattle.history_core.specs.Board.{entry_texts}
use Rattle.history_core.specs.declared.opening.OpenFault.{OpenFault}
use Rattle.history_core.specs.declared.opening.OpenFault.TheVariants as entries

-- in format 1 these are the bytes of this history, entry for entry, and each entry is one of the
-- airport
abbrev pub Spelt : AirportParts → List (List ℕ) → List Entry → Type 0
Spelt airport old history = (old ≡ map former_text history) × Every (WasEntryOf airport) history

-- these are the bytes of one history, in format 1 and in format 2
abbrev pub Converts : AirportParts → List (List ℕ) → List (List ℕ) → Type 0
Converts airport old new =
    (history : List Entry) × Spelt airport old history × (new ≡ entry_texts history)

-- why the entries of a journal of format 1 are not converted: the one of this number, from 1, is the
-- first that can't be, as its bytes are those of none; or there is no memory
abbrev pub CannotConvert : AirportParts → List (List ℕ) → OpenFault → Type 0
CannotConvert airport old (entries.BadEntry number) =
    (front new back : List (List ℕ)) × (bytes : List ℕ)
    × (old ≡ front ++ bytes ∷ back)
    × (number ≡ length front + 1)
    × Converts airport front new
    × SpeltNone airport bytes
CannotConvert airport old (entries.WrongEntry number) = ⊥
CannotConvert airport old entries.Memory = Unit {0}
