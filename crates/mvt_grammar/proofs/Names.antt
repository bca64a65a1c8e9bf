-- Texts that are names.
use Rattle.std.proofs.Common.{◌≡◌, ℕ, ◌≤◌, Bool, true, false, List, length, refl, arith, cond, Some, None, Option, sym, ◌∙◌, ap}
use Rattle.std.specs.Prelude.{◌&&◌, ◌==◌, nat_le, [], ◌∷◌}
use Rattle.std.specs.List.{list_all}
use Rattle.std.specs.Option.{SomeIff}
use Rattle.std.proofs.lemmas.Bool.{and_parts, and_from, le-leb, eqb-true, false_from_ne_true}
use Rattle.std.proofs.lemmas.Bool.Decides.{nat_tests}
use Rattle.apron_base.specs.Name.{IsName, is_name, is_name_byte}
use Rattle.apron_base.proofs.NameTests.{name_bytes_decide, name_decides}
use Rattle.mvt_grammar.specs.Bytes.{is_capital, is_station}
use Rattle.mvt_grammar.specs.Reading.{is_registration}

-- a list of bytes of one kind is also one of a wider kind
pub list_all-wider : (p q : ℕ → Bool) → ((b : ℕ) → p b ≡ true → q b ≡ true) → (text : List ℕ) → list_all p text ≡ true → list_all q text ≡ true
list_all-wider p q wider [] h = refl
list_all-wider p q wider (b ∷ bs) h =
    let parts = and_parts (p b) (list_all p bs) h in
    and_from (q b) (list_all q bs) (wider b parts.0) (list_all-wider p q wider bs parts.1)

capital_in_name : (b : ℕ) → is_capital b ≡ true → is_name_byte b ≡ true
capital_in_name b h = grind (arith, nat_tests)

pub IsName-station : (text : List ℕ) → is_station text ≡ true → IsName text
IsName-station text h =
    let parts = and_parts (length text == 3) (list_all is_capital text) h in
    let three = eqb-true (length text) 3 parts.0 in
    record { some = omega arith; few = omega arith; each = (name_bytes_decide text).0 (list_all-wider is_capital is_name_byte capital_in_name text parts.1) }

-- a name of at most ten bytes, as a registration
pub registration_from : (text : List ℕ) (o : Option (List ℕ)) → length text ≤ 10 → SomeIff o (IsName text) text → o ≡ cond (is_registration text) (Some text) None
registration_from text None few h =
    let no : is_name text ≡ false = false_from_ne_true (is_name text) (λ e. h ((name_decides text).0 e)) in
    ap (λ b. cond (b && nat_le (length text) 10) (Some text) None) (sym no)
registration_from text (Some name) few h =
    let yes : is_name text ≡ true = (name_decides text).1 h.0 in
    let fits : nat_le (length text) 10 ≡ true = le-leb (length text) 10 few in
    ap Some h.1 ∙ ap (λ b. cond b (Some text) None) (sym (and_from (is_name text) (nat_le (length text) 10) yes fits))
