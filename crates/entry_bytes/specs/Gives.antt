-- What the code reads. Only functions of this crate cite it.
use Rattle.std.specs.Prelude.{◌≡◌, ◌≤◌, ℕ, Result, Ok, Err}
use Rattle.entry_bytes.specs.declared.faults.EntryFault.{EntryFault}
use Rattle.entry_bytes.specs.declared.faults.ReadFault.{ReadFault}
use Rattle.entry_bytes.specs.declared.faults.ReadFault.TheVariants.{BadKind, BadField, TrailingBytes, Memory}
use Rattle.entry_bytes.specs.declared.faults.EntryFault.TheVariants as entry
use Rattle.entry_bytes.specs.Readings.{RestOfEntry}

-- the fault is that of the reading, unless memory ran out
abbrev pub FailsReading : {A : Type 0} → ReadFault → Result A EntryFault → Type 0
FailsReading BadKind read = read ≡ Err entry.BadKind
FailsReading (BadField at) read = read ≡ Err (entry.BadField at)
FailsReading (TrailingBytes at) read = read ≡ Err (entry.TrailingBytes at)
FailsReading Memory read = Unit {0}

-- the result is that of the reading, unless memory ran out
abbrev pub ReadsEntry : {A : Type 0} → Result A ReadFault → Result A EntryFault → Type 0
ReadsEntry (Ok value) read = read ≡ Ok value
ReadsEntry (Err fault) read = FailsReading fault read

-- the result, in this view, and what is left are those of the reading
abbrev pub GivesAs : {X A : Type 0} → (X → A) → Result X ReadFault → RestOfEntry
    → Result (A × RestOfEntry) EntryFault → Type 0
GivesAs view (Ok value) left read = read ≡ Ok (view value, left)
GivesAs view (Err fault) left read = FailsReading fault read

-- the result and what is left are those of the reading
abbrev pub GivesReading : {A : Type 0} → Result A ReadFault → RestOfEntry
    → Result (A × RestOfEntry) EntryFault → Type 0
GivesReading result left read = GivesAs (λ value. value) result left read

-- the place of the fault, if it has one, is at most this one
abbrev pub IsWithin : ℕ → EntryFault → Type 0
IsWithin most entry.BadKind = Unit {0}
IsWithin most (entry.BadField at) = at ≤ most
IsWithin most (entry.TrailingBytes at) = at ≤ most
IsWithin most entry.Memory = Unit {0}

-- the same fault
abbrev pub entry_fault : ReadFault → EntryFault
entry_fault BadKind = entry.BadKind
entry_fault (BadField at) = entry.BadField at
entry_fault (TrailingBytes at) = entry.TrailingBytes at
entry_fault Memory = entry.Memory
