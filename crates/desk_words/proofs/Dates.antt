-- Dates in digits.
use Rattle.std.proofs.Common.{◌≡◌, ◌∙◌, ◌<◌, ◌/◌, ◌%◌, ◌++◌, ◌∷◌, [], ℕ, List, true, codes, decimal, append_assoc, refl, ◌+◌, arith}
use Rattle.std.proofs.lemmas.Bool.Decides.{nat_tests}
use Rattle.std.proofs.lemmas.Fmt.{decimal_digit}
use Rattle.serde_json.specs.Data.{string}
use Rattle.serde_json.specs.Written.{compact_text}
use Rattle.apron_dates.specs.declared.day.Date.{Date}
use Rattle.apron_dates.specs.Dates.{IsFirstDay}
use Rattle.mvt_grammar.specs.Canonical.{two_text}
use Rattle.desk_words.specs.AirportObjects.{date_text}
use Rattle.desk_words.specs.JsonText.{is_plain}
use Rattle.desk_words.proofs.PlainTexts.{decimal_plain, joined_plain, quoted_plain, two_plain}

small_month : (date : Date) → IsFirstDay date → date.month < 100
small_month date h = grind (arith, nat_tests, h.date)

small_day : (date : Date) → IsFirstDay date → date.day < 100
small_day date h = grind (arith, nat_tests, h.date)

joined : (y m n d e : List ℕ)
    → 34 ∷ ((y ++ codes "-" ++ (m ++ n) ++ codes "-" ++ (d ++ e)) ++ 34 ∷ [])
    ≡ codes "\"" ++ y ++ codes "-" ++ m ++ n ++ codes "-" ++ d ++ e ++ codes "\""
joined y m n d e = simp append_assoc

date_plain : (date : Date) → IsFirstDay date → is_plain (date_text date) ≡ true
date_plain date h =
    joined_plain (decimal date.year ++ codes "-" ++ two_text date.month ++ codes "-") (two_text date.day)
    (joined_plain (decimal date.year ++ codes "-" ++ two_text date.month) (codes "-")
    (joined_plain (decimal date.year ++ codes "-") (two_text date.month)
    (joined_plain (decimal date.year) (codes "-") (decimal_plain date.year) refl)
    (two_plain date.month (small_month date h))) refl)
    (two_plain date.day (small_day date h))

-- the digits of month and day, one after another
pub date_quoted : (date : Date) → IsFirstDay date → compact_text (string (date_text date))
    ≡ codes "\"" ++ decimal date.year ++ codes "-" ++ decimal (date.month / 10) ++ decimal (date.month % 10) ++ codes "-" ++ decimal (date.day / 10) ++ decimal (date.day % 10) ++ codes "\""
date_quoted date h =
    let month = small_month date h in
    let day = small_day date h in
    rw (
      decimal_digit (date.month / 10) (omega arith),
      decimal_digit (date.month % 10) (omega arith),
      decimal_digit (date.day / 10) (omega arith),
      decimal_digit (date.day % 10) (omega arith),
    ) (quoted_plain (date_text date) (date_plain date h)
    ∙ joined (decimal date.year) ((48 + date.month / 10) ∷ []) ((48 + date.month % 10) ∷ []) ((48 + date.day / 10) ∷ []) ((48 + date.day % 10) ∷ []))
