-- Bytes that are read from left to right, a field at a time, up to the first fault. Only functions of
-- this crate cite it.
use Rattle.std.specs.Prelude.{ℕ, zero, suc, ◌+◌, nat_lt, Bool, List, [], ◌∷◌, length, take, drop, Option, Some, None, Result, Ok, Err, if◌then◌else◌}
use Rattle.std.specs.Int.{Width, byte_len, from_le_bytes}
use Rattle.apron_base.specs.Name.{is_name}
use Rattle.entry_bytes.specs.declared.faults.EntryFault.{EntryFault}
use Rattle.entry_bytes.specs.declared.faults.EntryFault.TheVariants.{BadField}

-- the bytes that are left, and the place of the first of them, counted from 0
pub record RestOfEntry : Type 0 where
  pub at : ℕ
  pub bytes : List ℕ

-- what is at the front of what is left, and what is left after it; or the first fault
abbrev pub Reading : Type 0 → Type 0
Reading A = RestOfEntry → Result (A × RestOfEntry) EntryFault

-- if there was no fault, reading goes on after what was read
abbrev pub going_on : {A B : Type 0} → Result (A × RestOfEntry) EntryFault → (A → Reading B)
    → Result (B × RestOfEntry) EntryFault
going_on (Ok read) next = next read.0 read.1
going_on (Err fault) next = Err fault

infixl 10 ◌>>=◌
-- one thing, and then another
abbrev pub ◌>>=◌ : {A B : Type 0} → Reading A → (A → Reading B) → Reading B
field >>= next = λ left. going_on (field left) next

-- nothing is read
abbrev pub give : {A : Type 0} → A → Reading A
give value = λ left. Ok (value, left)

-- the field that begins at this place is bad
abbrev pub bad_at : {A : Type 0} → ℕ → Reading A
bad_at at = λ left. Err (BadField at)

-- a field in its form
abbrev pub such_that : {A : Type 0} → (A → Bool) → Reading A → Reading A
such_that test field =
    λ left. going_on (field left) (λ value. if test value then give value else bad_at left.at)

-- what there is, or the field that begins at this place is bad
abbrev pub or_bad_field : {A : Type 0} → ℕ → Option A → Reading A
or_bad_field at None = bad_at at
or_bad_field at (Some value) = give value

-- what a field means, if it means something
abbrev pub meaning_of_field : {A B : Type 0} → (A → Option B) → Reading A → Reading B
meaning_of_field told field =
    λ left. going_on (field left) (λ value. or_bad_field left.at (told value))

-- this many bytes of the field that begins at this place
unfoldable pub field_bytes : ℕ → ℕ → Reading (List ℕ)
field_bytes at count =
    λ left. if nat_lt (length left.bytes) count then Err (BadField at)
    else Ok (take count left.bytes, record { at = left.at + count; bytes = drop count left.bytes })

-- the first byte, if there is one
abbrev pub first_byte : ℕ → List ℕ → Result (ℕ × RestOfEntry) EntryFault
first_byte at [] = Err (BadField at)
first_byte at (byte ∷ bytes) = Ok (byte, record { at = at + 1; bytes = bytes })

-- one byte
unfoldable pub byte : Reading ℕ
byte = λ left. first_byte left.at left.bytes

-- a number, its lowest byte first
unfoldable pub number : Width → Reading ℕ
number width =
    λ left. going_on (field_bytes left.at (byte_len width) left)
    (λ bytes. give (from_le_bytes width bytes))

-- a text: a byte that says how many bytes it has, and these bytes
unfoldable pub text : Reading (List ℕ)
text = λ left. going_on (byte left) (field_bytes left.at)

-- 1 to 12 capitals, digits or dashes
abbrev pub name : Reading (List ℕ)
name = such_that is_name text

-- what was announced, or the fault that nothing was
abbrev pub or_no_kind : {A : Type 0} → EntryFault → Option (Reading A) → Reading A
or_no_kind fault None = λ left. Err fault
or_no_kind fault (Some field) = field

-- a byte that announces what comes after it, or has a fault at its place
abbrev pub by_tag : {A : Type 0} → (ℕ → EntryFault) → (ℕ → Option (Reading A)) → Reading A
by_tag fault_at field_of =
    λ left. going_on (byte left) (λ tag. or_no_kind (fault_at left.at) (field_of tag))

-- this many of them
unfoldable pub parse_many : {A : Type 0} → ℕ → Reading A → Reading (List A)
parse_many zero field = give []
parse_many (suc count) field = field
    >>= λ first. parse_many count field >>= λ others. give (first ∷ others)
