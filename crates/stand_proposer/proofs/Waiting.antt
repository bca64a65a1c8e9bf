-- The parts that wait, by rank: each waits in the plan, and no two are the same part.
use Rattle.std.proofs.Common.{◌≡◌, ◌∙◌, ◌<◌, ◌≤◌, ◌+◌, ◌-◌, ℕ, zero, suc, Bool, true, false, cond, List, [], ◌∷◌, ◌++◌, refl, sym, ap, subst, arith, length, length-append, append_assoc, get_or, map, Option, None, Some}
use Rattle.std.specs.Prelude.{All, filter, is_none, slice_get}
use Rattle.std.specs.List.{AllByRecursion, flat_map}
use Rattle.std.proofs.lemmas.Bool.Decides.{nat_tests}
use Rattle.std.proofs.lemmas.List.Elements.{All-from_recursion}
use Rattle.apron_base.specs.declared.numbers.PartId.{PartId}
use Rattle.apron_base.specs.declared.numbers.StandNo.{StandNo}
use Rattle.apron_base.specs.declared.numbers.VisitNo.{VisitNo}
use Rattle.apron_base.specs.Sorting.{insert_by, sorted_by}
use Rattle.visit_book.specs.declared.visits.Part.{Part}
use Rattle.visit_book.specs.declared.visits.Visit.{Visit}
use Rattle.visit_book.specs.Ends.{is_live}
use Rattle.visit_book.specs.Numbers.{IsNumberedAbove, has_number, visit_at}
use Rattle.visit_book.specs.PartFields.{part_at}
use Rattle.visit_book.specs.Places.{stand_of}
use Rattle.plan_core.specs.PlanState.{IsPlan, IsVisitAt, PlanState}
use Rattle.plan_core.proofs.EditKept.{found_has}
use Rattle.visit_book.specs.declared.visits.PartRow.{PartRow}
use Rattle.plan_lists.specs.declared.waiting.Waiting.{Waiting}
use Rattle.plan_lists.specs.Rows.{rows_from}
use Rattle.plan_lists.specs.Unplaced.{by_rank, is_unplaced_row, ranks_before, unplaced_parts, waiting_of, with_rank}
use Rattle.stand_proposer.specs.SoFar.{WaitsInPlan}
use Rattle.stand_proposer.proofs.Puts.{place_part}

-- no two of the items are of the same part
abbrev pub Apart : {X : Type 0} → (X → PartId) → List X → Type 0
Apart key [] = Unit {0}
Apart key (x ∷ xs) = AllByRecursion (λ y. key x ≡ key y → ⊥) xs × Apart key xs

all_weaker : {X : Type 0} (P Q : X → Type 0) (xs : List X) → ((x : X) → P x → Q x) → AllByRecursion P xs → AllByRecursion Q xs
all_weaker P Q [] f h = tt
all_weaker P Q (x ∷ xs) f h = (f x h.0, all_weaker P Q xs f h.1)

all_append : {X : Type 0} (P : X → Type 0) (xs ys : List X) → AllByRecursion P xs → AllByRecursion P ys → AllByRecursion P (xs ++ ys)
all_append P [] ys h k = k
all_append P (x ∷ xs) ys h k = (h.0, all_append P xs ys h.1 k)

apart_append : {X : Type 0} (key : X → PartId) (xs ys : List X) → Apart key xs → Apart key ys → AllByRecursion (λ x. AllByRecursion (λ y. key x ≡ key y → ⊥) ys) xs → Apart key (xs ++ ys)
apart_append key [] ys h k cross = k
apart_append key (x ∷ xs) ys h k cross = (all_append (λ y. key x ≡ key y → ⊥) xs ys h.0 cross.0, apart_append key xs ys h.1 k cross.1)

abbrev id_of : Waiting → PartId
id_of waiting = waiting.row.id

-- a part of the visit from this number on, which is on no stand
record IsPartOf (v : Visit) (low : ℕ) (w : Waiting) : Type 0 where
  number : w.row.id.visit ≡ v.number
  from : low ≤ w.row.id.part
  part : part_at v.parts w.row.id.part ≡ Some w.row.part
  nowhere : is_unplaced_row w.row ≡ true

abbrev waits : Visit → List PartRow → List Waiting
waits v rows = map (with_rank v) (filter is_unplaced_row rows)

later_part : (v : Visit) (n : ℕ) (w : Waiting) → IsPartOf v (n + 1) w → IsPartOf v n w
later_part v n w h = record { number = h.number; from = omega (arith, h.from); part = h.part; nowhere = h.nowhere }

seam : (before : List Part) (p : Part) (parts : List Part) (k : ℕ) → k ≡ length before → slice_get (before ++ p ∷ parts) k ≡ Some p
seam [] p parts zero e = refl
seam [] p parts (suc k) e = absurd (omega (arith, e))
seam (q ∷ before) p parts zero e = absurd (omega (arith, e))
seam (q ∷ before) p parts (suc k) e = seam before p parts k (omega (arith, e))

record Own (v : Visit) (n : ℕ) (ws : List Waiting) : Type 0 where
  each : AllByRecursion (IsPartOf v n) ws
  apart : Apart id_of ws

rows_wait : (v : Visit) (before parts : List Part) (n : ℕ) → v.parts ≡ before ++ parts → n ≡ length before + 1 → Own v n (waits v (rows_from v n parts))
rows_wait v before [] n whole number = record { each = tt; apart = tt }
rows_wait v before (p ∷ parts) n whole number =
    by_test (is_unplaced_row here) refl
    (rows_wait v (before ++ p ∷ []) parts (n + 1) (whole ∙ sym (append_assoc before (p ∷ []) parts)) (omega (arith, number, length-append before (p ∷ []))))
  where
    here : PartRow
    here = record { id = record { visit = v.number; part = n }; part = p }

    found : part_at v.parts n ≡ Some p
    found = place_part v.parts n p (omega (arith, number)) (ap (λ (parts : List Part). slice_get parts (n - 1)) whole ∙ seam before p parts (n - 1) (omega (arith, number)))

    by_test : (b : Bool) → is_unplaced_row here ≡ b → Own v (n + 1) (waits v (rows_from v (n + 1) parts))
        → Own v n (map (with_rank v) (cond b (here ∷ filter is_unplaced_row (rows_from v (n + 1) parts)) (filter is_unplaced_row (rows_from v (n + 1) parts))))
    by_test true e rest = record {
      each = (record { number = refl; from = omega arith; part = found; nowhere = e }, all_weaker (IsPartOf v (n + 1)) (IsPartOf v n) (waits v (rows_from v (n + 1) parts)) (λ w h. later_part v n w h) rest.each);
      apart = (all_weaker (IsPartOf v (n + 1)) (λ w. here.id ≡ id_of w → ⊥) (waits v (rows_from v (n + 1) parts)) (λ w h same. omega (arith, h.from, ap (λ (id : PartId). id.part) same)) rest.each, rest.apart);
    }
    by_test false e rest = record {
      each = all_weaker (IsPartOf v (n + 1)) (IsPartOf v n) (waits v (rows_from v (n + 1) parts)) (λ w h. later_part v n w h) rest.each;
      apart = rest.apart;
    }

-- a part of one of the visits above a number, which waits
record IsOfOne (visits : List Visit) (n : ℕ) (w : Waiting) : Type 0 where
  visit : Visit
  at : visit_at visits w.row.id.visit ≡ Some visit
  live : is_live visit ≡ true
  part : part_at visit.parts w.row.id.part ≡ Some w.row.part
  nowhere : is_unplaced_row w.row ≡ true
  above : n + 1 ≤ w.row.id.visit.0

record AllOwn (visits : List Visit) (n : ℕ) (ws : List Waiting) : Type 0 where
  each : AllByRecursion (IsOfOne visits n) ws
  apart : Apart id_of ws

of_first : (v : Visit) (visits : List Visit) (n : ℕ) (w : Waiting) → v.number.0 ≡ n + 1 → is_live v ≡ true → IsPartOf v 1 w → IsOfOne (v ∷ visits) n w
of_first v visits n w number live h =
    let is : has_number w.row.id.visit v ≡ true = grind (arith, nat_tests, h.number) in
    record {
      visit = v;
      at = ap (λ b. cond b (Some v) (visit_at visits w.row.id.visit)) is;
      live = live;
      part = h.part;
      nowhere = h.nowhere;
      above = omega (arith, number, ap (λ (m : VisitNo). m.0) h.number);
    }

of_later : (v : Visit) (visits : List Visit) (n : ℕ) (w : Waiting) → v.number.0 ≡ n + 1 → IsOfOne visits (n + 1) w → IsOfOne (v ∷ visits) n w
of_later v visits n w number h =
    let other : has_number w.row.id.visit v ≡ false = grind (arith, nat_tests, h.above) in
    record {
      visit = h.visit;
      at = ap (λ b. cond b (Some v) (visit_at visits w.row.id.visit)) other ∙ h.at;
      live = h.live;
      part = h.part;
      nowhere = h.nowhere;
      above = omega (arith, h.above);
    }

all_wait : (n : ℕ) (visits : List Visit) → IsNumberedAbove n visits → AllOwn visits n (flat_map waiting_of visits)
all_wait n [] h = record { each = tt; apart = tt }
all_wait n (v ∷ visits) h = by_test (is_live v) refl (all_wait (n + 1) visits h.1)
  where
    by_test : (b : Bool) → is_live v ≡ b → AllOwn visits (n + 1) (flat_map waiting_of visits) → AllOwn (v ∷ visits) n (cond b (waits v (rows_from v 1 v.parts)) [] ++ flat_map waiting_of visits)
    by_test true live rest =
        let own = rows_wait v [] v.parts 1 refl (omega arith) in
        let mine : List Waiting = waits v (rows_from v 1 v.parts) in
        record {
          each = all_append (IsOfOne (v ∷ visits) n) mine (flat_map waiting_of visits)
              (all_weaker (IsPartOf v 1) (IsOfOne (v ∷ visits) n) mine (λ w k. of_first v visits n w h.0 live k) own.each)
              (all_weaker (IsOfOne visits (n + 1)) (IsOfOne (v ∷ visits) n) (flat_map waiting_of visits) (λ w k. of_later v visits n w h.0 k) rest.each);
          apart = apart_append id_of mine (flat_map waiting_of visits) own.apart rest.apart
              (all_weaker (IsPartOf v 1) (λ x. AllByRecursion (λ y. id_of x ≡ id_of y → ⊥) (flat_map waiting_of visits)) mine
              (λ x k. all_weaker (IsOfOne visits (n + 1)) (λ y. id_of x ≡ id_of y → ⊥) (flat_map waiting_of visits)
              (λ y later same. omega (arith, later.above, h.0, ap (λ (m : VisitNo). m.0) k.number, ap (λ (id : PartId). id.visit.0) same)) rest.each) own.each);
        }
    by_test false live rest = record {
      each = all_weaker (IsOfOne visits (n + 1)) (IsOfOne (v ∷ visits) n) (flat_map waiting_of visits) (λ w k. of_later v visits n w h.0 k) rest.each;
      apart = rest.apart;
    }

-- sorting keeps both
insert_all : {X : Type 0} (before : X → X → Bool) (P : X → Type 0) (item : X) (xs : List X) → P item → AllByRecursion P xs → AllByRecursion P (insert_by before item xs)
insert_all before P item [] own h = (own, tt)
insert_all before P item (x ∷ xs) own h = by_test (before x item) (insert_all before P item xs own h.1)
  where
    by_test : (b : Bool) → AllByRecursion P (insert_by before item xs) → AllByRecursion P (cond b (x ∷ insert_by before item xs) (item ∷ x ∷ xs))
    by_test true rest = (h.0, rest)
    by_test false rest = (own, h)

sorted_all : {X : Type 0} (before : X → X → Bool) (P : X → Type 0) (xs : List X) → AllByRecursion P xs → AllByRecursion P (sorted_by before xs)
sorted_all before P [] h = tt
sorted_all before P (x ∷ xs) h = insert_all before P x (sorted_by before xs) h.0 (sorted_all before P xs h.1)

insert_apart : {X : Type 0} (before : X → X → Bool) (key : X → PartId) (item : X) (xs : List X) → AllByRecursion (λ y. key item ≡ key y → ⊥) xs → Apart key xs → Apart key (insert_by before item xs)
insert_apart before key item [] own h = (tt, tt)
insert_apart before key item (x ∷ xs) own h = by_test (before x item) (insert_apart before key item xs own.1 h.1)
  where
    by_test : (b : Bool) → Apart key (insert_by before item xs) → Apart key (cond b (x ∷ insert_by before item xs) (item ∷ x ∷ xs))
    by_test true rest = (insert_all before (λ y. key x ≡ key y → ⊥) item xs (λ same. own.0 (sym same)) h.0, rest)
    by_test false rest = (own, h)

sorted_apart : {X : Type 0} (before : X → X → Bool) (key : X → PartId) (xs : List X) → Apart key xs → Apart key (sorted_by before xs)
sorted_apart before key [] h = tt
sorted_apart before key (x ∷ xs) h = insert_apart before key x (sorted_by before xs) (sorted_all before (λ y. key x ≡ key y → ⊥) xs h.0) (sorted_apart before key xs h.1)

-- and so does taking the rows
all_rows : (P : PartRow → Type 0) (ws : List Waiting) → AllByRecursion (λ w. P w.row) ws → AllByRecursion P (map (λ (w : Waiting). w.row) ws)
all_rows P [] h = tt
all_rows P (w ∷ ws) h = (h.0, all_rows P ws h.1)

apart_rows : (ws : List Waiting) → Apart id_of ws → Apart (λ (row : PartRow). row.id) (map (λ (w : Waiting). w.row) ws)
apart_rows [] h = tt
apart_rows (w ∷ ws) h = (all_rows (λ row. w.row.id ≡ row.id → ⊥) ws h.0, apart_rows ws h.1)

nowhere_is : (stand : Option StandNo) → is_none stand ≡ true → stand ≡ None
nowhere_is None h = refl
nowhere_is (Some stand) h = absurd (cc)

waits_in : (plan : PlanState) (w : Waiting) → IsPlan plan → IsOfOne plan.visits 0 w → WaitsInPlan plan w.row
waits_in plan w is h =
    let visit_is : IsVisitAt plan.airport plan.version h.visit = found_has (IsVisitAt plan.airport plan.version) plan.visits w.row.id.visit h.visit is.each h.at in (
      h.visit.kind,
      record {
        visit = h.visit;
        at = h.at;
        kind_is = refl;
        fresh = visit_is.edited;
        live = h.live;
        part = h.part;
        nowhere = nowhere_is (stand_of w.row.part.place) h.nowhere;
      },
      visit_is.well_formed,
    )

-- each of the parts by rank waits in the plan
rows_in_plan : (plan : PlanState) → IsPlan plan → All (WaitsInPlan plan) (unplaced_parts plan)
rows_in_plan plan is =
    let found : AllOwn plan.visits 0 (flat_map waiting_of plan.visits) = all_wait 0 plan.visits is.numbered in
    All-from_recursion (WaitsInPlan plan) (unplaced_parts plan) (all_rows (WaitsInPlan plan) (by_rank (flat_map waiting_of plan.visits))
    (sorted_all ranks_before (λ w. WaitsInPlan plan w.row) (flat_map waiting_of plan.visits)
    (all_weaker (IsOfOne plan.visits 0) (λ w. WaitsInPlan plan w.row) (flat_map waiting_of plan.visits) (λ w h. waits_in plan w is h) found.each)))

apart_at : {X : Type 0} (key : X → PartId) (xs : List X) (i j : ℕ) (d e : X) → Apart key xs → i < j → j < length xs → key (get_or xs i d) ≡ key (get_or xs j e) → ⊥
apart_at key [] i j d e h less inside same = omega (arith, inside)
apart_at key (x ∷ xs) i zero d e h less inside same = omega (arith, less)
apart_at key (x ∷ xs) zero (suc j) d e h less inside same = All-from_recursion (λ y. key x ≡ key y → ⊥) xs h.0 j e (omega (arith, inside)) same
apart_at key (x ∷ xs) (suc i) (suc j) d e h less inside same = apart_at key xs i j d e h.1 (omega (arith, less)) (omega (arith, inside)) same

-- no two of them are the same part
pub rows_apart : (plan : PlanState) (rows : List PartRow) → IsPlan plan → rows ≡ unplaced_parts plan → (i j : ℕ) (d e : PartRow) → i < j → j < length rows
    → (get_or rows i d).id ≡ (get_or rows j e).id → ⊥
rows_apart plan rows is are i j d e less inside same =
    let found : AllOwn plan.visits 0 (flat_map waiting_of plan.visits) = all_wait 0 plan.visits is.numbered in
    let apart : Apart (λ (row : PartRow). row.id) (unplaced_parts plan) =
    apart_rows (by_rank (flat_map waiting_of plan.visits)) (sorted_apart ranks_before id_of (flat_map waiting_of plan.visits) found.apart) in
    apart_at (λ (row : PartRow). row.id) rows i j d e (subst (Apart (λ (row : PartRow). row.id)) (sym are) apart) less inside same

-- one of them waits in the plan
pub row_in_plan : (plan : PlanState) (rows : List PartRow) → IsPlan plan → rows ≡ unplaced_parts plan → (i : ℕ) (d : PartRow) → i < length rows → WaitsInPlan plan (get_or rows i d)
row_in_plan plan rows is are i d inside = subst (All (WaitsInPlan plan)) (sym are) (rows_in_plan plan is) i d inside
