-- Fields that are read one by one at their places give the columns and the type of the whole record.
use Rattle.std.proofs.Common.{◌≡◌, ℕ, ◌==◌, ◌&&◌, if◌then◌else◌, Bool, true, false, List, [], ◌∷◌, length, None, Some, option_map, refl, ap, arith}
use Rattle.std.specs.Prelude.{codes, not}
use Rattle.std.specs.Cmp.Lexicographic.{unequal}
use Rattle.std.specs.Str.{bytes_eq}
use Rattle.std.proofs.lemmas.Bool.{eqb-false, ne_eqb}
use Rattle.csv.specs.Records.{field_at}
use Rattle.csv_records.specs.Tables.{are_fields}
use Rattle.airport_files.specs.declared.type_rows.Columns.{Columns}
use Rattle.airport_files.specs.declared.type_rows.Columns.TheVariants.{Folding, Plain}
use Rattle.airport_files.specs.TypeRows.{columns_of, folding_row, has_folding_columns, has_plain_columns, plain_row, row_of, type_of}
use Rattle.airport_files.specs.Types.{folding_columns, folding_type, plain_columns, plain_type, types_after}

more_than_three : (a b c d : List ℕ) (rest : List (List ℕ)) → (length (a ∷ b ∷ c ∷ d ∷ rest) == 3) ≡ false
more_than_three a b c d rest = ne_eqb (length (a ∷ b ∷ c ∷ d ∷ rest)) 3 (λ three. omega (arith, three))

more_than_five : (a b c d e f : List ℕ) (rest : List (List ℕ)) → (length (a ∷ b ∷ c ∷ d ∷ e ∷ f ∷ rest) == 5) ≡ false
more_than_five a b c d e f rest = ne_eqb (length (a ∷ b ∷ c ∷ d ∷ e ∷ f ∷ rest)) 5 (λ five. omega (arith, five))

-- the type of a record
pub row-is : (columns : Columns) (fields : List (List ℕ)) → row_of columns fields ≡ type_of columns fields
unfolding field_at
row-is Plain (a ∷ b ∷ c ∷ d ∷ rest) = ap (λ (three : Bool). if three then plain_row (a ∷ b ∷ c ∷ d ∷ rest) else None) (more_than_three a b c d rest)
row-is Plain _ = refl
row-is Folding (a ∷ b ∷ c ∷ d ∷ e ∷ f ∷ rest) = ap (λ (five : Bool). if five then folding_row (a ∷ b ∷ c ∷ d ∷ e ∷ f ∷ rest) else None) (more_than_five a b c d e f rest)
row-is Folding _ = refl

-- the tests of a header of three fields
three_tests : (a b c : Bool) → (if a && (b && (c && true)) then Some plain_type else (if a && (b && (c && false)) then Some folding_type else None)) ≡ option_map type_of (if not (a && b && c) then None else Some Plain)
three_tests false b c = refl
three_tests true false c = refl
three_tests true true false = refl
three_tests true true true = refl

-- the tests of a header of five fields
five_tests : (a b c d e : Bool) → (if a && (b && (c && false)) then Some plain_type else (if a && (b && (c && (d && (e && true)))) then Some folding_type else None))
    ≡ option_map type_of (if not (a && b && c) then None else (if d && e then Some Folding else None))
five_tests false b c d e = refl
five_tests true false c d e = refl
five_tests true true false d e = refl
five_tests true true true false e = refl
five_tests true true true true false = refl
five_tests true true true true true = refl

no_columns : (heads : Bool) → None ≡ option_map type_of (if not heads then None else None)
no_columns true = refl
no_columns false = refl

-- the tests of a header of another number of fields
other_tests : (heads folds three five plain folding : Bool) → three ≡ false → five ≡ false → plain ≡ false → folding ≡ false
    → (if plain then Some plain_type else (if folding then Some folding_type else None)) ≡ option_map type_of (if not heads then None else (if three then Some Plain else (if five && folds then Some Folding else None)))
other_tests heads folds three five plain folding is_not_three is_not_five is_not_plain is_not_folding = rw (is_not_three, is_not_five, is_not_plain, is_not_folding) (no_columns heads)

other : (fields : List (List ℕ)) → (length fields == 3) ≡ false → (length fields == 5) ≡ false → types_after fields ≡ option_map type_of (columns_of fields)
other fields three five =
    other_tests (has_plain_columns fields) (has_folding_columns fields) (length fields == 3) (length fields == 5) (are_fields fields plain_columns) (are_fields fields folding_columns) three five
    (unequal bytes_eq fields plain_columns (eqb-false (length fields) 3 three)) (unequal bytes_eq fields folding_columns (eqb-false (length fields) 5 five))

-- how the records after a header are read
pub columns-are : (fields : List (List ℕ)) → types_after fields ≡ option_map type_of (columns_of fields)
unfolding field_at
columns-are [] = other [] refl refl
columns-are (a ∷ []) = other (a ∷ []) refl refl
columns-are (a ∷ b ∷ []) = other (a ∷ b ∷ []) refl refl
columns-are (a ∷ b ∷ c ∷ []) = three_tests (bytes_eq a (codes "type")) (bytes_eq b (codes "span")) (bytes_eq c (codes "least"))
columns-are (a ∷ b ∷ c ∷ d ∷ []) = other (a ∷ b ∷ c ∷ d ∷ []) refl refl
columns-are (a ∷ b ∷ c ∷ d ∷ e ∷ []) = five_tests (bytes_eq a (codes "type")) (bytes_eq b (codes "span")) (bytes_eq c (codes "least")) (bytes_eq d (codes "parked")) (bytes_eq e (codes "fold"))
columns-are (a ∷ b ∷ c ∷ d ∷ e ∷ f ∷ rest) = other (a ∷ b ∷ c ∷ d ∷ e ∷ f ∷ rest) (more_than_three a b c d (e ∷ f ∷ rest)) (more_than_five a b c d e f rest)
