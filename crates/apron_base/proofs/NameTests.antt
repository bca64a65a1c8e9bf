-- The test of a name decides whether a text is one.
use Rattle.std.proofs.Common.{◌≡◌, ℕ, List, length, true, refl, arith}
use Rattle.std.specs.Bool.{Decides}
use Rattle.std.specs.List.{list_all}
use Rattle.std.specs.Prelude.{All, ◌&&◌, nat_le}
use Rattle.std.proofs.lemmas.Bool.{and_parts, and_from, leb-true, le-leb}
use Rattle.std.proofs.lemmas.Bool.Decides.{nat_tests, Decides-by_and}
use Rattle.apron_base.specs.Name.{IsName, IsNameByte, is_name, is_name_byte, most_name_bytes}

name_byte_decides : (b : ℕ) → Decides (is_name_byte b) (IsNameByte b)
name_byte_decides b = grind (arith, nat_tests)

-- the test of each byte
pub name_bytes_decide : (text : List ℕ) → Decides (list_all is_name_byte text) (All IsNameByte text)
name_bytes_decide text = Decides-by_and is_name_byte IsNameByte (list_all is_name_byte) name_byte_decides refl (λ _ _. refl) text

name_from_test : (text : List ℕ) → is_name text ≡ true → IsName text
name_from_test text h =
    let outer = and_parts (nat_le 1 (length text) && nat_le (length text) most_name_bytes) (list_all is_name_byte text) h in
    let inner = and_parts (nat_le 1 (length text)) (nat_le (length text) most_name_bytes) outer.0 in
    record { some = leb-true 1 (length text) inner.0; few = leb-true (length text) most_name_bytes inner.1; each = (name_bytes_decide text).0 outer.1 }

test_from_name : (text : List ℕ) → IsName text → is_name text ≡ true
test_from_name text h =
    and_from (nat_le 1 (length text) && nat_le (length text) most_name_bytes) (list_all is_name_byte text)
    (and_from (nat_le 1 (length text)) (nat_le (length text) most_name_bytes) (le-leb 1 (length text) h.some) (le-leb (length text) most_name_bytes h.few))
    ((name_bytes_decide text).1 h.each)

-- the test of the whole text
pub name_decides : (text : List ℕ) → Decides (is_name text) (IsName text)
name_decides text = (name_from_test text, test_from_name text)
