-- How long the body is that follows a head.
use Rattle.std.specs.Prelude.{ℕ, List, Bool, bytes_eq, nat_le, codes, if◌then◌else◌, Option, Some, None, Result, Ok, Err}
use Rattle.apron_base.specs.Digits.{most_digits, number_of}
use Rattle.http_framing.specs.Fields.{HeaderField, TextSaid, absent, twice, written, text_field}
use Rattle.http_framing.specs.declared.bodies.RequestRefusal.{RequestRefusal}
use Rattle.http_framing.specs.declared.bodies.RequestRefusal.TheVariants.{Head, Encoding, Large, Length}

-- the most bytes of a body
abbrev pub max_body : ℕ
max_body = 65536

-- by the number that the one Content-Length writes
abbrev pub by_number : Option ℕ → Result ℕ RequestRefusal
by_number None = Err Head
by_number (Some number) = if nat_le number max_body then Ok number else Err Large

-- by what Content-Length says, of a request that is a POST or is not
abbrev pub by_length : Bool → TextSaid → Result ℕ RequestRefusal
by_length post absent = if post then Err Length else Ok 0
by_length post (written value) = by_number (number_of value most_digits)
by_length post twice = Err Head

-- by what Transfer-Encoding says, and then by what Content-Length says
abbrev pub by_fields : Bool → TextSaid → TextSaid → Result ℕ RequestRefusal
by_fields post absent length = by_length post length
by_fields post encoding length = Err Encoding

-- the length of the body by the method and the fields, or why they are refused
abbrev pub length_by_fields : List ℕ → List HeaderField → Result ℕ RequestRefusal
length_by_fields method fields =
    by_fields (bytes_eq method (codes "POST"))
    (text_field (codes "transfer-encoding") fields) (text_field (codes "content-length") fields)
