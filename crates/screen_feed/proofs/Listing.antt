-- Lists of sheets to which one is added.
use Rattle.std.proofs.Common.{◌≡◌, ℕ, ◌+◌, ◌<◌, List, [], ◌∷◌, ◌++◌, refl, sym, ap, ◌∙◌, subst, arith}
use Rattle.apron_base.specs.Histories.{Every, Rises}
use Rattle.plan_core.specs.PlanState.{version_limit}
use Rattle.screen_feed.specs.Sheets.{AreSheets, IsSheet, SheetState, ShownChart, last_version, sheet_version, version_after}

pub shown_of : (shown : ShownChart) (sheet : SheetState) → IsSheet shown sheet → sheet.shown ≡ shown
shown_of shown sheet is = ap (λ s. s.shown) is.is ∙ ap (λ a. record { airport = a; day = shown.day }) is.airport

below_limit : (shown : ShownChart) (sheet : SheetState) → IsSheet shown sheet → sheet.version < version_limit
below_limit shown sheet is = subst (λ (n : ℕ). n < version_limit) (sym (ap sheet_version is.is)) is.is_plan.version

each_push : (shown : ShownChart) (sheets : List SheetState) (sheet : SheetState) → Every (IsSheet shown) sheets → IsSheet shown sheet → Every (IsSheet shown) (sheets ++ sheet ∷ [])
each_push shown [] sheet all is = (is, tt)
each_push shown (s ∷ ss) sheet all is = (all.0, each_push shown ss sheet all.1 is)

rises_after : (n : ℕ) (sheets : List SheetState) (sheet : SheetState) → Rises sheet_version (n + 1) version_limit sheets → version_after n sheets < sheet.version → sheet.version < version_limit
    → Rises sheet_version (n + 1) version_limit (sheets ++ sheet ∷ [])
rises_after n [] sheet r more less = (omega arith, omega arith)
rises_after n (s ∷ ss) sheet r more less = (r.0, rises_after s.version ss sheet r.1 more less)

pub last_push : (n : ℕ) (sheets : List SheetState) (sheet : SheetState) → version_after n (sheets ++ sheet ∷ []) ≡ sheet.version
last_push n [] sheet = refl
last_push n (s ∷ ss) sheet = last_push s.version ss sheet

pub first_sheet : (shown : ShownChart) (sheet : SheetState) → IsSheet shown sheet → AreSheets shown (sheet ∷ [])
first_sheet shown sheet is = let less = below_limit shown sheet is in record { each = (is, tt); rises = (omega arith, omega arith) }

pub one_more : (shown : ShownChart) (sheets : List SheetState) (sheet : SheetState) → AreSheets shown sheets → IsSheet shown sheet → last_version sheets < sheet.version → AreSheets shown (sheets ++ sheet ∷ [])
one_more shown [] sheet all is more = first_sheet shown sheet is
one_more shown (s ∷ ss) sheet all is more = record {
  each = each_push shown (s ∷ ss) sheet all.each is;
  rises = (all.rises.0, rises_after s.version ss sheet all.rises.1 more (below_limit shown sheet is));
}
