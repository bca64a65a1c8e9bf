-- Cells that are at home stay there, and who has the pen of the cell that a log names last knows the whole log.
use Rattle.std.proofs.Common.{◌≡◌, ◌≢◌, ℕ, zero, suc, ◌<◌, true, false, List, [], ◌∷◌, ◌++◌, length, set, refl, sym, ◌∙◌, subst, arith}
use Rattle.std.proofs.lemmas.Bool.{false≢true}
use Rattle.std.proofs.lemmas.List.{append-nil}
use Rattle.logbook.specs.Pages.{Cell, cell}
use Rattle.screen_feed.specs.declared.book.SheetEntry.{SheetEntry}
use Rattle.screen_feed.specs.Logs.{named_after}
use Rattle.screen_feed.specs.Rules.{AreSpent, IsCellHome}

pub home_below : (cs : List Cell) (k : ℕ) → IsCellHome cs k → k < length cs
home_below [] k h = absurd (false≢true h)
home_below (c ∷ cs) zero h = omega arith
home_below (c ∷ cs) (suc k) h = let r = home_below cs k h in omega arith

pub home_set : (cs : List Cell) (i j n : ℕ) → IsCellHome cs j → IsCellHome (set cs i (n, true)) j
home_set [] i j n h = absurd (false≢true h)
home_set (c ∷ cs) zero zero n h = refl
home_set (c ∷ cs) zero (suc j) n h = h
home_set (c ∷ cs) (suc i) zero n h = h
home_set (c ∷ cs) (suc i) (suc j) n h = home_set cs i j n h

pub home_at : (cs : List Cell) (i n : ℕ) → i < length cs → IsCellHome (set cs i (n, true)) i
home_at [] i n h = absurd (omega arith)
home_at (c ∷ cs) zero n h = refl
home_at (c ∷ cs) (suc i) n h = home_at cs i n (omega arith)

pub home_push : (cs : List Cell) (j : ℕ) (d : Cell) → IsCellHome cs j → IsCellHome (cs ++ d ∷ []) j
home_push [] j d h = absurd (false≢true h)
home_push (c ∷ cs) zero d h = h
home_push (c ∷ cs) (suc j) d h = home_push cs j d h

-- the first word's number
pub first_set : (cs : List Cell) (n : ℕ) → IsCellHome cs 0 → (cell (set cs 0 (n, true)) 0).0 ≡ n
first_set [] n h = absurd (false≢true h)
first_set (c ∷ cs) n h = refl

pub first_other : (cs : List Cell) (k : ℕ) (d : Cell) → k ≢ 0 → (cell (set cs k d) 0).0 ≡ (cell cs 0).0
first_other [] k d apart = refl
first_other (c ∷ cs) zero d apart = absurd (apart refl)
first_other (c ∷ cs) (suc k) d apart = refl

pub first_push : (cs : List Cell) (d : Cell) → IsCellHome cs 0 → (cell (cs ++ d ∷ []) 0).0 ≡ (cell cs 0).0
first_push [] d h = absurd (false≢true h)
first_push (c ∷ cs) d h = refl

pub spent_kept : (cs ds : List Cell) → ((j : ℕ) → IsCellHome cs j → IsCellHome ds j) → (k : ℕ) (log : List SheetEntry) → AreSpent cs k log → AreSpent ds k log
spent_kept cs ds on k [] s = tt
spent_kept cs ds on k (e ∷ es) s = (on k s.0, spent_kept cs ds on e.next.value.nib.key es s.1)

pub spent_push : (cs : List Cell) (k : ℕ) (log : List SheetEntry) (e : SheetEntry) → AreSpent cs k log → IsCellHome cs (named_after k log) → AreSpent cs k (log ++ e ∷ [])
spent_push cs k [] e s h = (h, tt)
spent_push cs k (x ∷ xs) e s h = (s.0, spent_push cs x.next.value.nib.key xs e s.1 h)

spent_next : (cs : List Cell) (k : ℕ) (log : List SheetEntry) (e : SheetEntry) (es : List SheetEntry) → AreSpent cs k (log ++ e ∷ es) → IsCellHome cs (named_after k log)
spent_next cs k [] e es s = s.0
spent_next cs k (x ∷ xs) e es s = spent_next cs x.next.value.nib.key xs e es s.1

pub named_push : (k : ℕ) (log : List SheetEntry) (e : SheetEntry) → named_after k (log ++ e ∷ []) ≡ e.next.value.nib.key
named_push k [] e = refl
named_push k (x ∷ xs) e = named_push x.next.value.nib.key xs e

pub whole_log : (cs : List Cell) (k : ℕ) (v more log : List SheetEntry) → v ++ more ≡ log → AreSpent cs k log → (cell cs (named_after k v)).1 ≡ false → v ≡ log
whole_log cs k v [] log is s away = sym (append-nil v) ∙ is
whole_log cs k v (e ∷ es) log is s away = absurd (false≢true (sym away ∙ spent_next cs k v e es (subst (AreSpent cs k) (sym is) s)))
