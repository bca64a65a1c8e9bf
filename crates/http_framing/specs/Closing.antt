-- After which request the session ends.
use Rattle.std.specs.Prelude.{◌==◌, ◌||◌, ℕ, List, [], ◌∷◌, Bool, codes, reverse, if◌then◌else◌}
use Rattle.std.specs.List.{list_any, slice_split}
use Rattle.httparse.specs.Grammar.{RequestHead}
use Rattle.http_framing.specs.Fields.{HeaderField, pairs, values_of, is_same_name}

-- the byte of a space
abbrev pub space : ℕ
space = 32

-- the byte between the parts of a value
abbrev pub comma : ℕ
comma = 44

-- the bytes from the first that is not a space
abbrev pub skip_spaces : List ℕ → List ℕ
skip_spaces [] = []
skip_spaces (byte ∷ bytes) = if byte == space then skip_spaces bytes else byte ∷ bytes

-- the bytes without the spaces at both ends
unfoldable pub trim_spaces : List ℕ → List ℕ
trim_spaces bytes = reverse (skip_spaces (reverse (skip_spaces bytes)))

-- a part of a value is `close`
abbrev pub is_close : List ℕ → Bool
is_close part = is_same_name (trim_spaces part) (codes "close")

-- a value has `close` among its parts between commas
abbrev pub has_close : List ℕ → Bool
has_close value = list_any is_close (slice_split (λ byte. byte == comma) value)

-- a Connection field has `close` among its parts
abbrev pub asks_close : List HeaderField → Bool
asks_close fields = list_any has_close (values_of (codes "connection") fields)

-- the session ends after a request with this head
abbrev pub is_closing : RequestHead → Bool
is_closing head = head.minor == 0 || asks_close (pairs head)
