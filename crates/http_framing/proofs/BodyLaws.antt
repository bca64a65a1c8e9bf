-- How long a body is.
use Rattle.std.proofs.Common.{◌≡◌, ℕ, ◌≤◌, Bool, true, false, List, Option, Some, None, Ok, bytes_eq, codes, arith}
use Rattle.std.proofs.lemmas.Grind.{common_steps}
use Rattle.apron_base.specs.Digits.{most_digits, number_of}
use Rattle.http_framing.specs.Bodies.{length_by_fields, by_number, by_fields, by_length, max_body}
use Rattle.http_framing.specs.Fields.{HeaderField, TextSaid, absent, twice, written, text_field}

by_number_bound : (number : Option ℕ) (n : ℕ) → by_number number ≡ Ok n → n ≤ max_body
by_number_bound None n e = absurd (cc)
by_number_bound (Some m) n e = grind (arith, common_steps)

by_length_bound : (post : Bool) (length : TextSaid) (n : ℕ) → by_length post length ≡ Ok n → n ≤ max_body
by_length_bound true absent n e = absurd (cc)
by_length_bound false absent n e = let zero : 0 ≡ n = cc in omega arith
by_length_bound post (written value) n e = by_number_bound (number_of value most_digits) n e
by_length_bound post twice n e = absurd (cc)

by_fields_bound : (post : Bool) (encoding length : TextSaid) (n : ℕ) → by_fields post encoding length ≡ Ok n → n ≤ max_body
by_fields_bound post absent length n e = by_length_bound post length n e
by_fields_bound post (written value) length n e = absurd (cc)
by_fields_bound post twice length n e = absurd (cc)

-- no body is longer than the limit
pub framed_bound : (method : List ℕ) (fields : List HeaderField) (n : ℕ) → length_by_fields method fields ≡ Ok n → n ≤ max_body
framed_bound method fields n e =
    by_fields_bound (bytes_eq method (codes "POST")) (text_field (codes "transfer-encoding") fields) (text_field (codes "content-length") fields) n e
