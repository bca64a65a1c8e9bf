-- The last sheet of a list, and that of a longer one.
use Rattle.std.proofs.Common.{◌≡◌, ◌≤◌, ◌+◌, ℕ, List, [], ◌∷◌, ◌++◌, Some, sym, subst, arith}
use Rattle.apron_base.specs.Histories.{Every, Rises}
use Rattle.screen_feed.specs.Screens.{HasLooked, ScreenState}
use Rattle.screen_feed.specs.Sheets.{AreSheets, Begins, IsLast, IsSheet, SheetState, ShownChart, last_version, sheet_version, version_after}
use Rattle.screen_server.specs.Looks.{IsLastSheet}

-- what holds of each holds of the last one
every_last : {E : Type 0} (P : E → Type 0) (front : List E) (e : E) → Every P (front ++ e ∷ []) → P e
every_last P [] e all = all.0
every_last P (x ∷ front) e all = every_last P front e all.1

-- the last of a list of sheets is one
last_sheet : (shown : ShownChart) (sheets : List SheetState) (sheet : SheetState) → AreSheets shown sheets → IsLast sheets sheet → IsSheet shown sheet
last_sheet shown sheets sheet are (front, is) = every_last (IsSheet shown) front sheet (subst (Every (IsSheet shown)) is are.each)

-- versions that rise from one on are no lower at the end
rises_last : (low high n : ℕ) (sheets : List SheetState) → n ≤ low → Rises sheet_version low high sheets → n ≤ version_after n sheets
rises_last low high n [] few rises = omega arith
rises_last low high n (sheet ∷ sheets) few (least, rises) =
    let more : sheet.version ≤ version_after sheet.version sheets = rises_last (sheet.version + 1) high sheet.version sheets (omega arith) rises in omega arith

-- a list that goes on ends no lower
goes_on_later : (low high n : ℕ) (front rest : List SheetState) → n ≤ low → Rises sheet_version low high (front ++ rest)
    → version_after n front ≤ version_after n (front ++ rest)
goes_on_later low high n [] rest few rises = rises_last low high n rest few rises
goes_on_later low high n (sheet ∷ front) rest few (least, rises) = goes_on_later (sheet.version + 1) high sheet.version front rest (omega arith) rises

pub no_older : (shown : ShownChart) (before after : List SheetState) → AreSheets shown after → Begins after before → last_version before ≤ last_version after
no_older shown before after are (rest, is) =
    let rises = subst (Rises sheet_version 0 _) is are.rises in
    subst (λ (list : List SheetState). last_version before ≤ last_version list) (sym is) (goes_on_later 0 _ 0 before rest (omega arith) rises)

-- the last sheet that a screen has seen after a look
pub is_last : (before after : ScreenState) (sheet : SheetState) → HasLooked before after → after.given ≡ Some (Some sheet) → IsLast after.seen sheet → IsLastSheet after sheet
is_last before after sheet looked given last = record {
  given = given;
  last = last;
  chart = subst (λ (shown : ShownChart). IsSheet shown sheet) (sym looked.shown) (last_sheet before.shown after.seen sheet looked.sheets last);
}
