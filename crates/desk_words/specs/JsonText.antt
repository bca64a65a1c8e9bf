-- Texts that stand in JSON as they are.
use Rattle.std.specs.Prelude.{ℕ, Bool, List, ◌||◌, ◌&&◌, nat_le}
use Rattle.std.specs.List.{list_all}
use Rattle.apron_base.specs.Name.{is_name_byte}

-- a byte of a name or a small letter, which JSON does not escape
abbrev pub is_plain_byte : ℕ → Bool
is_plain_byte byte = is_name_byte byte || (nat_le 97 byte && nat_le byte 122)

-- a text of such bytes
abbrev pub is_plain : List ℕ → Bool
is_plain text = list_all is_plain_byte text
