-- The JSON of a body, and the fields of its objects.
use Rattle.std.specs.Prelude.{◌^◌, ◌-◌, ℕ, List, nat_le, Option, Some, None, if◌then◌else◌}
use Rattle.std.specs.Str.{is_utf8}
use Rattle.apron_base.specs.OptionChain.{◌>>=◌}
use Rattle.serde_json.specs.Data.{Data}
use Rattle.serde_json.specs.Read.{read}
use Rattle.serde_json.specs.Find.{get, as_number, as_u64, as_str}

-- the JSON that a body in UTF-8 holds, nested at most 127 deep; if a key is written twice, its last
-- value
unfoldable pub body_data : List ℕ → Option Data
body_data bytes = if is_utf8 bytes then read bytes else None

-- the greatest number of 32 bits
abbrev pub max_u32 : ℕ
max_u32 = 2 ^ 32 - 1

-- the greatest number of 8 bits
abbrev pub max_u8 : ℕ
max_u8 = 2 ^ 8 - 1

-- the number, if it is at most that
abbrev pub at_most : ℕ → ℕ → Option ℕ
at_most most n = if nat_le n most then Some n else None

-- the whole number under a key, written without sign, fraction and exponent, if it is at most that
abbrev pub number_at : List ℕ → ℕ → Data → Option ℕ
number_at key most d = get key d >>= as_number >>= as_u64 >>= at_most most

-- the text under a key
abbrev pub text_at : List ℕ → Data → Option (List ℕ)
text_at key d = get key d >>= as_str
