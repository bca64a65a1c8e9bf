-- The first fault of bytes that are no entry, and where it is.
use Rattle.std.specs.Prelude.{◌≡◌, ◌<◌, ◌≤◌, ◌^◌, ◌==◌, ◌&&◌, ℕ, List, ◌++◌, length, take, nat_le, nat_lt, IsTrue, if◌then◌else◌}
use Rattle.std.specs.List.{flat_map}
use Rattle.apron_base.specs.Histories.{Every}
use Rattle.apron_rules.specs.declared.parts.AirportParts.{AirportParts}
use Rattle.desk_asks.specs.Commands.{IsCommand}
use Rattle.desk_asks.specs.declared.asks.Entry.{Entry}
use Rattle.entry_bytes.specs.declared.faults.EntryFault.{EntryFault}
use Rattle.entry_bytes.specs.declared.faults.EntryFault.TheVariants.{BadKind, BadField, TrailingBytes}
use Rattle.entry_bytes.specs.Entries.{command_fields}
use Rattle.entry_bytes.specs.Fields.{Field, Fits, limited_field, field_bytes}

-- the field is in its form at the airport
abbrev pub HasForm : AirportParts → Field → Type 0
HasForm airport (limited_field width number has_form) = IsTrue (has_form airport)
HasForm airport field = Unit {0}

-- an entry that has bytes, whatever the airport
pub record IsEntry (entry : Entry) : Type 0 where
  pub call : entry.call < 2 ^ 62
  pub fits : Every Fits (command_fields entry.command)
  pub command : IsCommand entry.command

-- the bytes begin with the first fields, this many, up to this place; each has its form at the
-- airport
pub record BeginsWith (airport : AirportParts) (bytes : List ℕ) (fields : List Field)
    (count place : ℕ) : Type 0 where
  pub rest : List ℕ
  pub is : bytes ≡ flat_map field_bytes (take count fields) ++ rest
  pub forms : Every (HasForm airport) (take count fields)
  pub place_is : place ≡ length (flat_map field_bytes (take count fields))

-- the fault of bytes that begin with the first fields of an entry, this many, up to this place, and
-- with no more: the entry has no more; or the ninth byte is no kind; or the next field is bad
abbrev pub fault_after : List ℕ → List Field → ℕ → ℕ → EntryFault
fault_after bytes fields count place =
    if nat_le (length fields) count then TrailingBytes place
    else (if place == 8 && nat_lt 8 (length bytes) then BadKind
    else BadField place)

-- the first fault from left to right, if entries have these fields: the bytes begin with the first
-- fields of some entry up to a place, and with those of no entry up to a later one
pub record IsFirstFault (fields_of : Entry → List Field) (airport : AirportParts) (bytes : List ℕ)
    (fault : EntryFault) : Type 0 where
  pub entry : Entry
  pub is_entry : IsEntry entry
  pub count : ℕ
  pub place : ℕ
  pub begins : BeginsWith airport bytes (fields_of entry) count place
  pub most : (other : Entry) (more later : ℕ)
      → IsEntry other → BeginsWith airport bytes (fields_of other) more later → later ≤ place
  pub is : fault ≡ fault_after bytes (fields_of entry) count place
