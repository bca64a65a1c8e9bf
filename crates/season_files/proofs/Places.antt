-- Fields that are read one by one at their places give the header and the visit of the whole record.
use Rattle.std.proofs.Common.{◌≡◌, ℕ, ◌==◌, Bool, true, false, List, [], ◌∷◌, length, codes, refl, sym, ap, ◌∙◌, arith, None, Some}
use Rattle.std.specs.Prelude.{◌&&◌, if◌then◌else◌}
use Rattle.std.specs.Cmp.Lexicographic.{unequal}
use Rattle.std.specs.Str.{bytes_eq}
use Rattle.std.proofs.lemmas.Bool.{eqb-false, eqb-true, ne_eqb}
use Rattle.apron_rules.specs.declared.parts.AirportParts.{AirportParts}
use Rattle.csv.specs.Records.{field_at}
use Rattle.csv_records.specs.Tables.{are_fields}
use Rattle.season_files.specs.Fields.{heads_flights, heads_visit, is_header, key_in, visit_in, visit_of_record}
use Rattle.season_files.specs.Records.{visit_of_fields}
use Rattle.season_files.specs.Seasons.{visits_after}
use Rattle.season_files.specs.Texts.{columns}

more_than_nine : (a b c d e f g h i j : List ℕ) (rest : List (List ℕ)) → (length (a ∷ b ∷ c ∷ d ∷ e ∷ f ∷ g ∷ h ∷ i ∷ j ∷ rest) == 9) ≡ false
more_than_nine a b c d e f g h i j rest = ne_eqb (length (a ∷ b ∷ c ∷ d ∷ e ∷ f ∷ g ∷ h ∷ i ∷ j ∷ rest)) 9 (λ nine. omega (arith, nine))

-- the visit of a record
pub record-is : (airport : AirportParts) (fields : List (List ℕ)) → visit_of_record airport fields ≡ visit_of_fields airport fields
unfolding visit_in key_in field_at visit_of_fields
record-is airport (a ∷ b ∷ c ∷ d ∷ e ∷ f ∷ g ∷ h ∷ i ∷ j ∷ rest) =
    ap (λ (nine : Bool). if nine then visit_in airport (a ∷ b ∷ c ∷ d ∷ e ∷ f ∷ g ∷ h ∷ i ∷ j ∷ rest) else None) (more_than_nine a b c d e f g h i j rest)
record-is airport _ = refl

nine_tests : (a b c d e f g h i : Bool) → ((a && (b && (c && (d && e)))) && (f && (g && (h && i)))) ≡ (a && (b && (c && (d && (e && (f && (g && (h && (i && true)))))))))
nine_tests false b c d e f g h i = refl
nine_tests true false c d e f g h i = refl
nine_tests true true false d e f g h i = refl
nine_tests true true true false e f g h i = refl
nine_tests true true true true false f g h i = refl
nine_tests true true true true true false g h i = refl
nine_tests true true true true true true false h i = refl
nine_tests true true true true true true true false i = refl
nine_tests true true true true true true true true false = refl
nine_tests true true true true true true true true true = refl

nine_fields : (fields : List (List ℕ)) → length fields ≡ 9 → (heads_visit fields && heads_flights fields) ≡ are_fields fields columns
unfolding field_at
nine_fields (a ∷ b ∷ c ∷ d ∷ e ∷ f ∷ g ∷ h ∷ i ∷ []) nine =
    nine_tests (bytes_eq a (codes "name")) (bytes_eq b (codes "type")) (bytes_eq c (codes "class")) (bytes_eq d (codes "on")) (bytes_eq e (codes "off"))
    (bytes_eq f (codes "arr")) (bytes_eq g (codes "arrday")) (bytes_eq h (codes "dep")) (bytes_eq i (codes "depday"))
nine_fields _ nine = absurd (omega (arith, nine))

heads_are : (fields : List (List ℕ)) (nine : Bool) → (length fields == 9) ≡ nine → (nine && (heads_visit fields && heads_flights fields)) ≡ are_fields fields columns
heads_are fields true h = nine_fields fields (eqb-true (length fields) 9 h)
heads_are fields false h = sym (unequal bytes_eq fields columns (eqb-false (length fields) 9 h))

-- the header
header-is : (fields : List (List ℕ)) → is_header fields ≡ are_fields fields columns
unfolding is_header
header-is fields = heads_are fields (length fields == 9) refl

-- what the records after a record give, if it is the header or not
pub after-header : (airport : AirportParts) (fields : List (List ℕ)) (heads : Bool) → is_header fields ≡ heads → visits_after airport fields ≡ (if heads then Some (visit_of_fields airport) else None)
after-header airport fields heads h = ap (λ (b : Bool). if b then Some (visit_of_fields airport) else None) (sym (header-is fields) ∙ h)
