-- What one more edit makes that puts a waiting part on a stand.
use Rattle.std.proofs.Common.{◌≡◌, ◌≤◌, ◌+◌, ◌-◌, ◌==◌, ◌∙◌, ◌⊎◌, inl, inr, ℕ, zero, suc, Bool, true, false, cond, List, [], ◌∷◌, ◌++◌, refl, sym, ap, subst, arith, length, append_assoc, nat_lt, Option, None, Some, Result, Ok, Err, ok_or, option_map, option_to_list}
use Rattle.std.specs.Prelude.{Contains, ◌↔◌, slice_get, slice_set}
use Rattle.std.proofs.lemmas.Bool.Decides.{nat_tests}
use Rattle.std.proofs.lemmas.List.Elements.{Contains-append_cases, Contains-append_left, Contains-append_right, Contains-push, Contains-push_cases}
use Rattle.apron_base.specs.ResultChain.{◌>>=◌}
use Rattle.apron_base.specs.declared.numbers.PartId.{PartId}
use Rattle.apron_base.specs.declared.numbers.StandNo.{StandNo}
use Rattle.apron_base.specs.declared.numbers.TypeNo.{TypeNo}
use Rattle.apron_base.specs.declared.numbers.VisitNo.{VisitNo}
use Rattle.apron_base.specs.declared.slot.Slot.{Slot}
use Rattle.apron_base.proofs.Sorting.{listed_cases, listed_first, listed_later}
use Rattle.apron_rules.specs.declared.parts.AirportParts.{AirportParts}
use Rattle.apron_rules.specs.declared.rules.UnfitBy.{UnfitBy}
use Rattle.apron_rules.specs.Rules.{unfit_of}
use Rattle.visit_book.specs.declared.edits.Edit.{Edit}
use Rattle.visit_book.specs.declared.edits.EditFault.{EditFault}
use Rattle.visit_book.specs.declared.edits.EditFault.TheVariants.{UnknownVisit, Unfit}
use Rattle.visit_book.specs.declared.visits.Part.{Part}
use Rattle.visit_book.specs.declared.visits.Place.{Place}
use Rattle.visit_book.specs.declared.visits.Place.TheVariants.{Actual, Planned, Unplaced}
use Rattle.visit_book.specs.declared.visits.Visit.{Visit}
use Rattle.visit_book.specs.Numbers.{has_number, visit_at, with_visit}
use Rattle.visit_book.specs.PartFields.{part_at}
use Rattle.visit_book.specs.Places.{is_actual, stand_of}
use Rattle.visit_book.specs.Slots.{slot_of, slot_on, slots_from, slots_of, slots_of_visit}
use Rattle.plan_core.specs.Edits.{after_edit, after_edits, edit_visit, part_at_place, refuse_unfit, with_part}
use Rattle.plan_core.specs.PlanState.{PlanState}
use Rattle.plan_core.proofs.ByNumber.{found_number, number_is}
use Rattle.plan_core.proofs.Results.{ok_is, then_ok}
use Rattle.plan_core.proofs.SlotLists.{slots_from_alike}
use Rattle.visit_book.specs.declared.visits.PartRow.{PartRow}
use Rattle.stand_proposer.specs.Proposals.{put_edit}
use Rattle.stand_proposer.specs.SoFar.{Waits}

same_result : {T E : Type 0} (r : Result T E) → (r >>= λ x. Ok x) ≡ r
same_result (Ok x) = refl
same_result (Err e) = refl

-- one more edit after edits that apply
pub edits_push : (a : AirportParts) (base k : ℕ) (edits : List Edit) (edit : Edit) (visits new : List Visit) → after_edits a base k edits visits ≡ Ok new
    → after_edits a base k (edits ++ edit ∷ []) visits ≡ after_edit a base (k + length edits) edit new
edits_push a base k [] edit visits new e =
    let same : visits ≡ new = ok_is visits new e in
    let number : k ≡ k + 0 = omega arith in
    same_result (after_edit a base k edit visits) ∙ (ap (after_edit a base k edit) same ∙ ap (λ n. after_edit a base n edit new) number)
edits_push a base k (first ∷ edits) edit visits new e =
    let made = then_ok (after_edit a base k first visits) (λ after. after_edits a base (k + 1) edits after) new e in
    let rest : after_edits a base (k + 1) (edits ++ edit ∷ []) made.0 ≡ after_edit a base ((k + 1) + length edits) edit new = edits_push a base (k + 1) edits edit made.0 new made.2 in
    let number : (k + 1) + length edits ≡ k + length (first ∷ edits) = omega arith in
    ap (λ (r : Result (List Visit) EditFault). r >>= λ after. after_edits a base (k + 1) (edits ++ edit ∷ []) after) made.1
    ∙ (rest ∙ ap (λ n. after_edit a base n edit new) number)

-- the visit after its part is put on the stand
abbrev pub visit_after : Visit → PartRow → StandNo → Visit
visit_after visit row stand = with_part visit row.id.part (part_at_place (Planned stand) row.part)

not_actual : (place : Place) → stand_of place ≡ None → is_actual place ≡ false
not_actual (Unplaced bump) h = refl
not_actual (Planned stand) h = absurd (cc)
not_actual (Actual stand) h = absurd (cc)

joined : {T U E : Type 0} (r : Result (Unit {0}) E) (x : T) (f : T → U) → ((r >>= λ u. Ok x) >>= λ y. Ok (f y)) ≡ (r >>= λ u. Ok (f x))
joined (Ok u) x f = refl
joined (Err e) x f = refl

-- a waiting part is put on the stand, unless the type does not fit there
put_gives : (plan : PlanState) (visits : List Visit) (kind : TypeNo) (row : PartRow) (stand : StandNo) (k : ℕ) → (waits : Waits plan visits kind row)
    → after_edit plan.airport plan.version k (put_edit row.id stand) visits
    ≡ (refuse_unfit k (unfit_of plan.airport stand kind) >>= λ fits. Ok (with_visit visits (visit_after waits.visit row stand)))
put_gives plan visits kind row stand k waits =
    let fresh : nat_lt plan.version waits.visit.edited ≡ false = grind (arith, nat_tests, waits.fresh) in
    let planned : is_actual row.part.place ≡ false = not_actual row.part.place waits.nowhere in
    let within : edit_visit plan.airport plan.version k (put_edit row.id stand) waits.visit
    ≡ (refuse_unfit k (unfit_of plan.airport stand waits.visit.kind) >>= λ fits. Ok (visit_after waits.visit row stand)) =
    rw (fresh, waits.live, waits.part, planned) refl in
    ap (λ (found : Option Visit). ok_or found (UnknownVisit k) >>= λ visit. edit_visit plan.airport plan.version k (put_edit row.id stand) visit >>= λ after. Ok (with_visit visits after)) waits.at
    ∙ (ap (λ (r : Result Visit EditFault). r >>= λ after. Ok (with_visit visits after)) within
    ∙ (joined (refuse_unfit k (unfit_of plan.airport stand waits.visit.kind)) (visit_after waits.visit row stand) (with_visit visits)
    ∙ ap (λ (t : TypeNo). refuse_unfit k (unfit_of plan.airport stand t) >>= λ fits. Ok (with_visit visits (visit_after waits.visit row stand))) waits.kind_is))

pub put_fits : (plan : PlanState) (visits : List Visit) (kind : TypeNo) (row : PartRow) (stand : StandNo) (k : ℕ) → (waits : Waits plan visits kind row)
    → unfit_of plan.airport stand kind ≡ None
    → after_edit plan.airport plan.version k (put_edit row.id stand) visits ≡ Ok (with_visit visits (visit_after waits.visit row stand))
put_fits plan visits kind row stand k waits fits =
    put_gives plan visits kind row stand k waits
    ∙ ap (λ (unfit : Option UnfitBy). refuse_unfit k unfit >>= λ fits. Ok (with_visit visits (visit_after waits.visit row stand))) fits

pub put_unfit : (plan : PlanState) (visits : List Visit) (kind : TypeNo) (row : PartRow) (stand : StandNo) (k : ℕ) (by : UnfitBy) → Waits plan visits kind row
    → unfit_of plan.airport stand kind ≡ Some by
    → after_edit plan.airport plan.version k (put_edit row.id stand) visits ≡ Err (Unfit k by)
put_unfit plan visits kind row stand k by waits is =
    put_gives plan visits kind row stand k waits
    ∙ ap (λ (unfit : Option UnfitBy). refuse_unfit k unfit >>= λ fits. Ok (with_visit visits (visit_after waits.visit row stand))) is

-- a list with one more element somewhere
record Inserts (x : Slot) (xs ys : List Slot) : Type 0 where
  pre : List Slot
  post : List Slot
  before : xs ≡ pre ++ post
  after : ys ≡ pre ++ x ∷ post

in_front : (x : Slot) (zs xs ys : List Slot) → Inserts x xs ys → Inserts x (zs ++ xs) (zs ++ ys)
in_front x zs xs ys h = record {
  pre = zs ++ h.pre;
  post = h.post;
  before = ap (λ (us : List Slot). zs ++ us) h.before ∙ sym (append_assoc zs h.pre h.post);
  after = ap (λ (us : List Slot). zs ++ us) h.after ∙ sym (append_assoc zs h.pre (x ∷ h.post));
}

behind : (x : Slot) (zs xs ys : List Slot) → Inserts x xs ys → Inserts x (xs ++ zs) (ys ++ zs)
behind x zs xs ys h = record {
  pre = h.pre;
  post = h.post ++ zs;
  before = ap (λ (us : List Slot). us ++ zs) h.before ∙ append_assoc h.pre h.post zs;
  after = ap (λ (us : List Slot). us ++ zs) h.after ∙ append_assoc h.pre (x ∷ h.post) zs;
}

-- its elements are those of the list and this one
inserted : (x : Slot) (xs ys : List Slot) → Inserts x xs ys → (y : Slot) → Contains (xs ++ x ∷ []) y ↔ Contains ys y
inserted x xs ys h y = (
  λ listed. subst (λ (us : List Slot). Contains us y) (sym h.after) (elim (Contains-push_cases xs x y listed) [
    | inl old ↦ elim (Contains-append_cases h.pre h.post y (subst (λ (us : List Slot). Contains us y) h.before old)) [
      | inl first ↦ Contains-append_left h.pre (x ∷ h.post) y first
      | inr last ↦ Contains-append_right h.pre (x ∷ h.post) y (listed_later x h.post y last)
    ]
    | inr own ↦ Contains-append_right h.pre (x ∷ h.post) y (subst (Contains (x ∷ h.post)) own (listed_first x h.post))
  ]),
  λ listed. elim (Contains-append_cases h.pre (x ∷ h.post) y (subst (λ (us : List Slot). Contains us y) h.after listed)) [
    | inl first ↦ Contains-append_left xs (x ∷ []) y (subst (λ (us : List Slot). Contains us y) (sym h.before) (Contains-append_left h.pre h.post y first))
    | inr last ↦ elim (listed_cases x h.post y last) [
      | inl own ↦ subst (Contains (xs ++ x ∷ [])) own (Contains-push xs x)
      | inr later ↦ Contains-append_left xs (x ∷ []) y (subst (λ (us : List Slot). Contains us y) (sym h.before) (Contains-append_right h.pre h.post y later))
    ]
  ],
)

-- the slots of parts with one of them put on a stand
parts_put : (a : AirportParts) (v : Visit) (n m j : ℕ) (parts : List Part) (part : Part) (stand : StandNo) → m ≡ n + j → slice_get parts j ≡ Some part → stand_of part.place ≡ None
    → Inserts (slot_on a v m (part_at_place (Planned stand) part) stand) (slots_from a v n parts) (slots_from a v n (slice_set parts j (part_at_place (Planned stand) part)))
parts_put a v n m j [] part stand number found none = absurd (cc)
parts_put a v n m zero (p ∷ parts) part stand number found none =
    let same : p ≡ part = cc in
    let is : m ≡ n = omega (arith, number) in
    let bare : option_to_list (slot_of a v n p) ≡ [] = ap (λ (q : Part). option_to_list (slot_of a v n q)) same ∙ ap (λ (on : Option StandNo). option_to_list (option_map (slot_on a v n part) on)) none in
    record {
      pre = [];
      post = slots_from a v (n + 1) parts;
      before = ap (λ (us : List Slot). us ++ slots_from a v (n + 1) parts) bare;
      after = ap (λ (i : ℕ). slot_on a v i (part_at_place (Planned stand) part) stand ∷ slots_from a v (n + 1) parts) (sym is);
    }
parts_put a v n m (suc j) (p ∷ parts) part stand number found none =
    in_front (slot_on a v m (part_at_place (Planned stand) part) stand) (option_to_list (slot_of a v n p)) (slots_from a v (n + 1) parts) (slots_from a v (n + 1) (slice_set parts j (part_at_place (Planned stand) part)))
    (parts_put a v (n + 1) m j parts part stand (omega (arith, number)) found none)

-- a part of a number is at its place
pub part_place : (parts : List Part) (k : ℕ) (part : Part) → part_at parts k ≡ Some part → (1 ≤ k) × (slice_get parts (k - 1) ≡ Some part)
part_place parts k part h = by_test (k == 0) refl h
  where
    by_test : (b : Bool) → (k == 0) ≡ b → cond b None (slice_get parts (k - 1)) ≡ Some part → (1 ≤ k) × (slice_get parts (k - 1) ≡ Some part)
    by_test true e found = absurd (cc)
    by_test false e found = (grind (arith, nat_tests), found)

pub place_part : (parts : List Part) (k : ℕ) (part : Part) → 1 ≤ k → slice_get parts (k - 1) ≡ Some part → part_at parts k ≡ Some part
place_part parts k part some h =
    let counted : (k == 0) ≡ false = grind (arith, nat_tests) in
    ap (λ b. cond b None (slice_get parts (k - 1))) counted ∙ h

-- of one visit
visit_put : (a : AirportParts) (v : Visit) (row : PartRow) (stand : StandNo) → part_at v.parts row.id.part ≡ Some row.part → stand_of row.part.place ≡ None
    → Inserts (slot_on a v row.id.part (part_at_place (Planned stand) row.part) stand) (slots_of_visit a v) (slots_of_visit a (visit_after v row stand))
visit_put a v row stand found none =
    let at = part_place v.parts row.id.part row.part found in
    let put_there = parts_put a v 1 row.id.part (row.id.part - 1) v.parts row.part stand (omega (arith, at.0)) at.1 none in
    subst (Inserts (slot_on a v row.id.part (part_at_place (Planned stand) row.part) stand) (slots_of_visit a v))
    (slots_from_alike a v (visit_after v row stand) 1 (slice_set v.parts (row.id.part - 1) (part_at_place (Planned stand) row.part)) refl refl) put_there

-- of all visits
visits_put : (a : AirportParts) (visits : List Visit) (v after : Visit) (x : Slot) → visit_at visits after.number ≡ Some v → Inserts x (slots_of_visit a v) (slots_of_visit a after)
    → Inserts x (slots_of a visits) (slots_of a (with_visit visits after))
visits_put a [] v after x found h = absurd (cc)
visits_put a (o ∷ visits) v after x found h = by_test (has_number after.number o) found (λ later. visits_put a visits v after x later h)
  where
    by_test : (b : Bool) → cond b (Some o) (visit_at visits after.number) ≡ Some v → (visit_at visits after.number ≡ Some v → Inserts x (slots_of a visits) (slots_of a (with_visit visits after)))
        → Inserts x (slots_of_visit a o ++ slots_of a visits) (slots_of a (cond b (after ∷ visits) (o ∷ with_visit visits after)))
    by_test true e rest =
        let same : o ≡ v = cc in
        behind x (slots_of a visits) (slots_of_visit a o) (slots_of_visit a after) (subst (λ (u : Visit). Inserts x (slots_of_visit a u) (slots_of_visit a after)) (sym same) h)
    by_test false e rest = in_front x (slots_of_visit a o) (slots_of a visits) (slots_of a (with_visit visits after)) (rest e)

-- the number of the visit that waits
pub waits_number : (plan : PlanState) (visits : List Visit) (kind : TypeNo) (row : PartRow) → (waits : Waits plan visits kind row) → waits.visit.number ≡ row.id.visit
waits_number plan visits kind row waits = number_is waits.visit.number row.id.visit (found_number visits row.id.visit waits.visit waits.at)

-- the slots after a waiting part is put on a stand are those before it and its own
pub put_slots : (plan : PlanState) (a : AirportParts) (visits : List Visit) (kind : TypeNo) (row : PartRow) (stand : StandNo) → (waits : Waits plan visits kind row) → (y : Slot)
    → Contains (slots_of a visits ++ slot_on a waits.visit row.id.part (part_at_place (Planned stand) row.part) stand ∷ []) y
    ↔ Contains (slots_of a (with_visit visits (visit_after waits.visit row stand))) y
put_slots plan a visits kind row stand waits =
    let number = waits_number plan visits kind row waits in
    inserted (slot_on a waits.visit row.id.part (part_at_place (Planned stand) row.part) stand) (slots_of a visits) (slots_of a (with_visit visits (visit_after waits.visit row stand)))
    (visits_put a visits waits.visit (visit_after waits.visit row stand) (slot_on a waits.visit row.id.part (part_at_place (Planned stand) row.part) stand)
    (ap (visit_at visits) number ∙ waits.at) (visit_put a waits.visit row stand waits.part waits.nowhere))

-- what is found of a number after a visit was put in
found_after : (visits : List Visit) (v after : Visit) (n : VisitNo) → visit_at visits after.number ≡ Some v
    → ((n.0 ≡ after.number.0) × (visit_at (with_visit visits after) n ≡ Some after)) ⊎ (visit_at (with_visit visits after) n ≡ visit_at visits n)
found_after [] v after n found = absurd (cc)
found_after (o ∷ visits) v after n found = by_test (has_number after.number o) refl found (λ later. found_after visits v after n later)
  where
    here : (b : Bool) → has_number after.number o ≡ true → has_number n after ≡ b → ((n.0 ≡ after.number.0) × (visit_at (after ∷ visits) n ≡ Some after)) ⊎ (visit_at (after ∷ visits) n ≡ visit_at (o ∷ visits) n)
    here true at e =
        let same : n.0 ≡ after.number.0 = grind (arith, nat_tests) in
        inl (same, ap (λ b. cond b (Some after) (visit_at visits n)) e)
    here false at e =
        let other : has_number n o ≡ false = grind (arith, nat_tests) in
        inr (ap (λ b. cond b (Some after) (visit_at visits n)) e ∙ sym (ap (λ b. cond b (Some o) (visit_at visits n)) other))

    there : (b : Bool) → ((n.0 ≡ after.number.0) × (visit_at (with_visit visits after) n ≡ Some after)) ⊎ (visit_at (with_visit visits after) n ≡ visit_at visits n)
        → has_number after.number o ≡ false → has_number n o ≡ b
        → ((n.0 ≡ after.number.0) × (visit_at (o ∷ with_visit visits after) n ≡ Some after)) ⊎ (visit_at (o ∷ with_visit visits after) n ≡ visit_at (o ∷ visits) n)
    there true rest at e = inr (ap (λ b. cond b (Some o) (visit_at (with_visit visits after) n)) e ∙ sym (ap (λ b. cond b (Some o) (visit_at visits n)) e))
    there false (inl same) at e = inl (same.0, ap (λ b. cond b (Some o) (visit_at (with_visit visits after) n)) e ∙ same.1)
    there false (inr old) at e = inr (ap (λ b. cond b (Some o) (visit_at (with_visit visits after) n)) e ∙ (old ∙ sym (ap (λ b. cond b (Some o) (visit_at visits n)) e)))

    by_test : (b : Bool) → has_number after.number o ≡ b → cond b (Some o) (visit_at visits after.number) ≡ Some v
        → (visit_at visits after.number ≡ Some v → ((n.0 ≡ after.number.0) × (visit_at (with_visit visits after) n ≡ Some after)) ⊎ (visit_at (with_visit visits after) n ≡ visit_at visits n))
        → ((n.0 ≡ after.number.0) × (visit_at (cond b (after ∷ visits) (o ∷ with_visit visits after)) n ≡ Some after)) ⊎ (visit_at (cond b (after ∷ visits) (o ∷ with_visit visits after)) n ≡ visit_at (o ∷ visits) n)
    by_test true at e rest = here (has_number n after) at refl
    by_test false at e rest = there (has_number n o) (rest e) at refl

other_place : (parts : List Part) (i j : ℕ) (part p : Part) → (i ≡ j → ⊥) → slice_get parts j ≡ Some p → slice_get (slice_set parts i part) j ≡ Some p
other_place [] i j part p apart h = h
other_place (q ∷ parts) zero zero part p apart h = absurd (apart refl)
other_place (q ∷ parts) zero (suc j) part p apart h = h
other_place (q ∷ parts) (suc i) zero part p apart h = h
other_place (q ∷ parts) (suc i) (suc j) part p apart h = other_place parts i j part p (λ e. apart (omega (arith, e))) h

other_part : (parts : List Part) (i j : ℕ) (part p : Part) → (i ≡ j → ⊥) → 1 ≤ i → part_at parts j ≡ Some p → part_at (slice_set parts (i - 1) part) j ≡ Some p
other_part parts i j part p apart some h =
    let at = part_place parts j p h in
    place_part (slice_set parts (i - 1) part) j p at.0 (other_place parts (i - 1) (j - 1) part p (λ e. apart (omega (arith, e, some, at.0))) at.1)

abbrev id_of : VisitNo → ℕ → PartId
id_of visit part = record { visit = visit; part = part }

pub id_is : (id other : PartId) → id.visit ≡ other.visit → id.part ≡ other.part → id ≡ other
id_is id other e f = let same : id_of id.visit id.part ≡ id_of other.visit other.part = cc in same

-- another part that waits still waits
pub still_waits : (plan : PlanState) (visits : List Visit) (kind : TypeNo) (row : PartRow) (stand : StandNo) → (waits : Waits plan visits kind row)
    → (type_of : TypeNo) (other : PartRow) → Waits plan visits type_of other → (other.id ≡ row.id → ⊥)
    → Waits plan (with_visit visits (visit_after waits.visit row stand)) type_of other
still_waits plan visits kind row stand waits type_of other too apart =
    let after = visit_after waits.visit row stand in
    let number = waits_number plan visits kind row waits in
    elim (found_after visits waits.visit after other.id.visit (ap (visit_at visits) number ∙ waits.at)) [
      | inl changed ↦ (
          let same : other.id.visit ≡ row.id.visit = number_is other.id.visit after.number changed.0 ∙ number in
          let one : ◌≡◌ {A = Option Visit} (Some too.visit) (Some waits.visit) = sym too.at ∙ (ap (visit_at visits) same ∙ waits.at) in
          let is : too.visit ≡ waits.visit = cc in
          let at = part_place waits.visit.parts row.id.part row.part waits.part in
          record {
            visit = after;
            at = changed.1;
            kind_is = ap (λ (u : Visit). u.kind) (sym is) ∙ too.kind_is;
            fresh = waits.fresh;
            live = waits.live;
            part = other_part waits.visit.parts row.id.part other.id.part (part_at_place (Planned stand) row.part) other.part (λ e. apart (id_is other.id row.id same (sym e))) at.0
                (ap (λ (u : Visit). part_at u.parts other.id.part) (sym is) ∙ too.part);
            nowhere = too.nowhere;
          }
          )
      | inr old ↦ record {
        visit = too.visit;
        at = old ∙ too.at;
        kind_is = too.kind_is;
        fresh = too.fresh;
        live = too.live;
        part = too.part;
        nowhere = too.nowhere;
      }
    ]
