-- The steps on a book keep its rule.
use Rattle.std.proofs.Common.{◌≡◌, ◌≢◌, ℕ, ◌<◌, ◌≤◌, ◌==◌, Bool, true, false, List, [], ◌∷◌, ◌++◌, length, set, refl, ap, sym, ◌∙◌, subst, arith, inl, None, Some, append_assoc}
use Rattle.std.proofs.lemmas.Bool.{false≢true}
use Rattle.std.proofs.lemmas.Bool.Decides.{nat_tests}
use Rattle.std.proofs.lemmas.List.{append-nil}
use prog.Atomic.{either}
use Rattle.logbook.specs.Pages.{Cell, Nib, cell, keeps, gives, adds, may_write, no_nib, step, Moves, Goes}
use Rattle.screen_feed.specs.declared.book.SheetEntry.{SheetEntry}
use Rattle.screen_feed.specs.Logs.{IsLegalLog, begun_after, named_after}
use Rattle.screen_feed.specs.Rules.{AddsFirst, AddsSheet, IsCellHome, KeepsFirstWord, MakesPen, SeesAll}
use Rattle.screen_feed.proofs.Cells.{first_other, first_push, first_set, home_at, home_below, home_push, home_set, spent_kept, spent_push, whole_log}
use Rattle.screen_feed.proofs.Fronts.{prefix_same}
use Rattle.screen_feed.proofs.Shown.{legal_push}

abbrev pub shows : List SheetEntry → List SheetEntry
shows log = []

abbrev pub moves : List SheetEntry → List SheetEntry → ℕ → Type 0
moves xs ys n = Unit {0}

-- the exchange of 1 for 1 changes no number
same_by : (n : ℕ) (b : Bool) → (n == 1) ≡ b → either b 1 n ≡ n
same_by n true is = grind (arith, nat_tests)
same_by n false is = refl

same_number : (n : ℕ) → either (n == 1) 1 n ≡ n
same_number n = same_by n (n == 1) refl

named : (cs : List Cell) (log : List SheetEntry) (n : ℕ) → KeepsFirstWord cs log → n ≡ (cell cs 0).0 → KeepsFirstWord (set cs 0 (n, true) ++ (0, false) ∷ []) log
named cs log n kept is =
    let home : IsCellHome (set cs 0 (n, true)) 0 = home_set cs 0 0 n kept.home in record {
      home = home_push (set cs 0 (n, true)) 0 (0, false) home;
      begun = λ some. first_push (set cs 0 (n, true)) (0, false) home ∙ (first_set cs n kept.home ∙ (is ∙ kept.begun some));
      legal = kept.legal;
      spent = spent_kept cs (set cs 0 (n, true) ++ (0, false) ∷ []) (λ j h. home_push (set cs 0 (n, true)) j (0, false) (home_set cs 0 j n h)) 0 log kept.spent;
    }

added : (cs : List Cell) (log : List SheetEntry) (e : SheetEntry) (n k m : ℕ) → KeepsFirstWord cs log → n ≡ (cell cs 0).0 → k < length cs → k ≢ 0 → 1 ≤ length log → k ≡ named_after 0 log
    → IsLegalLog (log ++ e ∷ []) → KeepsFirstWord (set (set cs 0 (n, true)) k (m, true)) (log ++ e ∷ [])
added cs log e n k m kept is below apart some key legal =
    let ds = set (set cs 0 (n, true)) k (m, true) in
    let on : (j : ℕ) → IsCellHome cs j → IsCellHome ds j = λ j h. home_set (set cs 0 (n, true)) k j m (home_set cs 0 j n h) in
    let here : IsCellHome ds k = home_at (set cs 0 (n, true)) k m (omega (arith, Rattle.std.proofs.lemmas.List.length-set cs 0 (n, true))) in record {
      home = on 0 kept.home;
      begun = λ _. first_other (set cs 0 (n, true)) k (m, true) apart ∙ (first_set cs n kept.home ∙ (is ∙ kept.begun some));
      legal = legal;
      spent = spent_push ds 0 log e (spent_kept cs ds on 0 log kept.spent) (subst (IsCellHome ds) key here);
    }

-- a pen for a later entry can be made at any time
pub pen_moves : (v : List SheetEntry) (e : SheetEntry) → Moves KeepsFirstWord shows moves 0 (v, (no_nib, None)) (λ n. either (n == 1) 1 n) (MakesPen (step 0 1 1 e) (v, (no_nib, None)))
pen_moves v e cs log kept pre away =
    let n = either ((cell cs 0).0 == 1) 1 (cell cs 0).0 in (
      home_below cs 0 kept.home,
      kept.home,
      (
        adds,
        [],
        None,
        tt,
        subst (KeepsFirstWord (set cs 0 (n, true) ++ (0, false) ∷ [])) (sym (append-nil log)) (named cs log n kept (same_number (cell cs 0).0)),
        inl (refl, refl),
        refl,
      ),
    )

-- who has the pen adds to all that was seen
pub adds_moves : (v : List SheetEntry) (e : SheetEntry) (p : Nib) → p.right ≡ may_write → p.key ≡ named_after 0 v → (e.shown ≡ true → begun_after None v ≡ Some e.sheet.value)
    → Moves KeepsFirstWord shows moves 0 (v, (p, None)) (λ n. either (n == 1) 1 n) (AddsSheet (step 0 1 1 e) (v, (p, None)))
adds_moves v e p right key may cs log kept pre away =
    let here = away right in
    let n = either ((cell cs 0).0 == 1) 1 (cell cs 0).0 in
    let same : v ≡ log = whole_log cs 0 v pre.0 log pre.1 kept.spent (subst (λ (k : ℕ). (cell cs k).1 ≡ false) key here.1) in
    let apart : p.key ≢ 0 = λ z. false≢true (sym here.1 ∙ subst (IsCellHome cs) (sym z) kept.home) in
    let some : 1 ≤ length log = subst (λ (l : List SheetEntry). 1 ≤ length l) same (not_empty v p.key key apart) in
    let legal : IsLegalLog (log ++ e ∷ []) = legal_push None log e kept.legal (subst (λ (l : List SheetEntry). e.shown ≡ true → begun_after None l ≡ Some e.sheet.value) same may) in (
      home_below cs 0 kept.home,
      kept.home,
      (
        gives,
        e ∷ [],
        None,
        right,
        added cs log e n p.key p.value kept (same_number (cell cs 0).0) here.0 apart some (subst (λ (l : List SheetEntry). p.key ≡ named_after 0 l) same key) legal,
        inl (refl, refl),
        ap (λ (l : List SheetEntry). l ++ e ∷ []) (sym same),
      ),
    )
  where
    not_empty : (l : List SheetEntry) (k : ℕ) → k ≡ named_after 0 l → k ≢ 0 → 1 ≤ length l
    not_empty [] k is apart = absurd (apart is)
    not_empty (x ∷ xs) k is apart = omega arith

-- the exchange of 1 for 1 in the first word
kept_so : (cs : List Cell) (log : List SheetEntry) → KeepsFirstWord cs log → KeepsFirstWord (set cs 0 (either ((cell cs 0).0 == 1) 1 (cell cs 0).0, true)) (log ++ [])
kept_so cs log kept =
    let n = either ((cell cs 0).0 == 1) 1 (cell cs 0).0 in
    let ds = set cs 0 (n, true) in
    subst (KeepsFirstWord ds) (sym (append-nil log)) (record {
      home = home_set cs 0 0 n kept.home;
      begun = λ some. first_set cs n kept.home ∙ (same_number (cell cs 0).0 ∙ kept.begun some);
      legal = kept.legal;
      spent = spent_kept cs ds (λ j h. home_set cs 0 j n h) 0 log kept.spent;
    })

-- who has the pen knows the whole log, so that others know no more
pub sees_moves : (v : List SheetEntry) (e : SheetEntry) (p : Nib) → p.right ≡ may_write
    → Moves KeepsFirstWord shows moves 0 (v, (p, None)) (λ n. either (n == 1) 1 n) (SeesAll (step 0 1 1 e) (v, (p, None)))
sees_moves v e p right cs log kept pre away =
    let here = away right in (
      home_below cs 0 kept.home,
      kept.home,
      (
        keeps,
        [],
        None,
        tt,
        kept_so cs log kept,
        inl (refl, refl),
        (
          refl,
          λ xs front key.
              let whole : xs ≡ log = whole_log cs 0 xs (front.0 ++ pre.0) log (sym (append_assoc xs front.0 pre.0) ∙ (ap (λ (l : List SheetEntry). l ++ pre.0) front.1 ∙ pre.1))
              kept.spent (subst (λ (k : ℕ). (cell cs k).1 ≡ false) key here.1) in
              prefix_same v xs (pre.0, pre.1 ∙ sym whole) front,
        ),
      ),
    )

first_goes : (e : SheetEntry) (cs : List Cell) (log : List SheetEntry) → e.shown ≡ false → KeepsFirstWord cs log → (b : Bool) → ((cell cs 0).0 == 0) ≡ b
    → Goes KeepsFirstWord shows moves 0 ([], (no_nib, None)) (λ n. either (n == 0) 1 n) (AddsFirst (step 0 0 1 e) ([], (no_nib, None))) cs log
first_goes e cs log begun kept true is = by_log log kept
  where
    zero_is : (cell cs 0).0 ≡ 0
    zero_is = grind (arith, nat_tests)

    by_log : (l : List SheetEntry) → KeepsFirstWord cs l → Goes KeepsFirstWord shows moves 0 ([], (no_nib, None)) (λ n. either (n == 0) 1 n) (AddsFirst (step 0 0 1 e) ([], (no_nib, None))) cs l
    by_log (x ∷ xs) k = absurd (let one = k.begun (omega arith) in omega (arith, zero_is))
    by_log [] k = (
      keeps,
      e ∷ [],
      None,
      tt,
      rw is (record {
        home = home_set cs 0 0 1 k.home;
        begun = λ _. first_set cs 1 k.home;
        legal = (λ s. absurd (false≢true (sym begun ∙ s)), tt);
        spent = (home_set cs 0 0 1 k.home, tt);
      }),
      inl (refl, refl),
      rw is refl,
    )
first_goes e cs log begun kept false is = (
  keeps,
  [],
  None,
  tt,
  rw is (record {
    home = home_set cs 0 0 (cell cs 0).0 kept.home;
    begun = λ some. first_set cs (cell cs 0).0 kept.home ∙ kept.begun (subst (λ (l : List SheetEntry). 1 ≤ length l) (append-nil log) some);
    legal = subst IsLegalLog (sym (append-nil log)) kept.legal;
    spent = subst (Rattle.screen_feed.specs.Rules.AreSpent (set cs 0 ((cell cs 0).0, true)) 0) (sym (append-nil log)) (spent_kept cs (set cs 0 ((cell cs 0).0, true)) (λ j h. home_set cs 0 j (cell cs 0).0 h) 0 log kept.spent);
  }),
  inl (refl, refl),
  rw is tt,
)

-- the first entry is added where there is none
pub first_moves : (e : SheetEntry) → e.shown ≡ false → Moves KeepsFirstWord shows moves 0 ([], (no_nib, None)) (λ n. either (n == 0) 1 n) (AddsFirst (step 0 0 1 e) ([], (no_nib, None)))
first_moves e begun cs log kept pre away = (home_below cs 0 kept.home, kept.home, first_goes e cs log begun kept ((cell cs 0).0 == 0) refl)
