-- What holds between entries and their bytes.
use Rattle.std.specs.Prelude.{◌≡◌, ◌<◌, ◌≤◌, ℕ, List, length, slice_index}
use Rattle.apron_rules.specs.declared.parts.AirportParts.{AirportParts}
use Rattle.desk_asks.specs.declared.asks.Entry.{Entry}
use Rattle.entry_bytes.specs.declared.faults.EntryFault.{EntryFault}
use Rattle.entry_bytes.specs.Entries.{IsEntryOf, entry_text}
use Rattle.entry_bytes.specs.Faults.{IsEntry, IsFirstFault}
use Rattle.entry_bytes.specs.Fields.{Field}
use Rattle.entry_bytes.specs.Former.{WasEntryOf, former_text}

-- the most bytes of an entry
abbrev pub most_bytes : ℕ
most_bytes = 671

-- each number fits a byte
abbrev pub AreBytes : List ℕ → Type 0
AreBytes bytes = (place : ℕ) → slice_index bytes place < 256

-- no two entries of the airport have the same bytes
abbrev pub EntriesDiffer : Type 0
EntriesDiffer = (airport : AirportParts) (one other : Entry)
    → IsEntryOf airport one
    → IsEntryOf airport other
    → entry_text one ≡ entry_text other
    → one ≡ other

-- no two had the same bytes
abbrev pub FormerEntriesDiffer : Type 0
FormerEntriesDiffer = (airport : AirportParts) (one other : Entry)
    → WasEntryOf airport one
    → WasEntryOf airport other
    → former_text one ≡ former_text other
    → one ≡ other

-- an entry has at most 671 bytes
abbrev pub EntryIsShort : Type 0
EntryIsShort = (entry : Entry) → IsEntry entry → length (entry_text entry) ≤ most_bytes

-- bytes have one first fault, if entries have these fields
abbrev pub FaultIsOne : (Entry → List Field) → Type 0
FaultIsOne fields_of = (airport : AirportParts) (bytes : List ℕ) (one other : EntryFault)
    → AreBytes bytes
    → IsFirstFault fields_of airport bytes one
    → IsFirstFault fields_of airport bytes other
    → one ≡ other
