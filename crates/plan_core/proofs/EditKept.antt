-- An edit changes the parts of its visit alone, and keeps it well formed.
use Rattle.std.proofs.Common.{◌≡◌, ◌<◌, ◌≤◌, ◌+◌, ◌-◌, ◌==◌, ◌∙◌, ℕ, zero, suc, Bool, true, false, List, [], ◌∷◌, ◌++◌, refl, ap, arith, drop, length-set, nat_lt, not, subst, sym, take, Option, None, Some, Ok, ok_or, if◌then◌else◌}
use Rattle.std.specs.Prelude.{slice_get, slice_set, All}
use Rattle.std.specs.List.{AllByRecursion, position_or_len}
use Rattle.std.specs.Option.{option_and_then, option_map}
use Rattle.std.proofs.lemmas.List.Elements.{All-set, recursion_from_All}
use Rattle.std.proofs.lemmas.List.Folds.{find_at}
use Rattle.apron_base.specs.declared.numbers.StandNo.{StandNo}
use Rattle.apron_base.specs.declared.numbers.VisitNo.{VisitNo}
use Rattle.apron_base.specs.ResultChain.{◌>>=◌, refuse_if}
use Rattle.apron_rules.specs.declared.parts.AirportParts.{AirportParts}
use Rattle.apron_rules.specs.Rules.{unfit_of}
use Rattle.visit_book.specs.declared.visits.Visit.{Visit}
use Rattle.visit_book.specs.declared.visits.Part.{Part}
use Rattle.visit_book.specs.declared.visits.Place.{Place}
use Rattle.visit_book.specs.declared.visits.Place.TheVariants.{Planned, Unplaced}
use Rattle.visit_book.specs.declared.visits.End.TheVariants.{Cancelled}
use Rattle.visit_book.specs.declared.edits.Edit.{Edit}
use Rattle.visit_book.specs.declared.edits.Edit.TheVariants.{Put, Lift, Cut, Join}
use Rattle.visit_book.specs.declared.edits.EditFault.TheVariants.{BadCut, BadJoin, Gone, NoSuchPart, OnBlock, Overtaken, UnknownVisit}
use Rattle.visit_book.specs.Changes.{cut_first, cut_of, has_actual_behind, join_first, join_of, with_parts}
use Rattle.visit_book.specs.Edits.{part_of, visit_of}
use Rattle.visit_book.specs.Ends.{is_live, is_open}
use Rattle.visit_book.specs.NewVisits.{new_of}
use Rattle.visit_book.specs.Numbers.{has_number, visit_at, with_visit}
use Rattle.visit_book.specs.PartFields.{part_at}
use Rattle.visit_book.specs.Places.{IsPlaceOf, is_actual}
use Rattle.visit_book.specs.WellFormed.{IsEarlyIfShort, IsSpaced, IsWellFormed, latest_end}
use Rattle.visit_book.proofs.Stands.{cut_places, join_places}
use Rattle.plan_core.specs.Edits.{after_edit, edit_part, edit_visit, part_at_place, refuse_unfit, with_part}
use Rattle.plan_core.specs.PlanState.{IsSameVisit}
use Rattle.plan_core.proofs.Bumps.{HaveNoNewBump, no_new_bump, set_places}
use Rattle.plan_core.proofs.Results.{found_ok, ok_is, then_ok}

got_by : {X : Type 0} (P : X → Type 0) (xs : List X) (i : ℕ) (x : X) → slice_get xs i ≡ Some x → AllByRecursion P xs → P x
got_by P [] i x g h = absurd (cc)
got_by P (y ∷ xs) zero x g h = let is : y ≡ x = cc in subst P is h.0
got_by P (y ∷ xs) (suc i) x g h = got_by P xs i x g h.1

-- what holds of each element holds of the one that is found
got_all : {X : Type 0} (P : X → Type 0) (xs : List X) (i : ℕ) (x : X) → slice_get xs i ≡ Some x → All P xs → P x
got_all P xs i x g h = got_by P xs i x g (recursion_from_All P xs h)

-- another place changes no minute
spaced_set : (tow start j : ℕ) (parts : List Part) (part : Part) (place : Place) → slice_get parts j ≡ Some part → IsSpaced tow start parts
    → IsSpaced tow start (slice_set parts j (part_at_place place part))
spaced_set tow start j [] part place g h = tt
spaced_set tow start zero (p ∷ parts) part place g h =
    let is : p ≡ part = cc in
    let Here : Part → Type 0 = λ q. (start ≤ q.from) × (q.from < q.to) × IsSpaced tow (q.to + tow) parts in
    subst Here is h
spaced_set tow start (suc j) (p ∷ parts) part place g h = (h.0, h.1, spaced_set tow (p.to + tow) j parts part place g h.2)

live_not_cancelled : (visit : Visit) → is_live visit ≡ true → visit.end ≡ Cancelled → ⊥
live_not_cancelled visit live over = let closed : is_open visit.end ≡ false = rw over refl in absurd (cc)

got_part : (parts : List Part) (j : ℕ) (part : Part) (zeroth : Bool) → (if zeroth then None else slice_get parts (j - 1)) ≡ Some part → slice_get parts (j - 1) ≡ Some part
got_part parts j part true e = absurd (cc)
got_part parts j part false e = e

-- a part in another place of the airport, not in fact, keeps its visit well formed
pub placed_keeps : (a : AirportParts) (visit : Visit) (j : ℕ) (part : Part) (place : Place) → part_at visit.parts j ≡ Some part → IsPlaceOf a place
    → is_actual place ≡ false → is_live visit ≡ true → IsWellFormed a visit → IsWellFormed a (with_part visit j (part_at_place place part))
placed_keeps a visit j part place found here planned live h =
    let g : slice_get visit.parts (j - 1) ≡ Some part = got_part visit.parts j part (j == 0) found in
    record {
      kind = h.kind;
      class = h.class;
      some = omega (arith, h.some, length-set visit.parts (j - 1) (part_at_place place part));
      few = omega (arith, h.few, length-set visit.parts (j - 1) (part_at_place place part));
      spaced = spaced_set a.tow 0 (j - 1) visit.parts part place g h.spaced;
      ends = All-set (λ part. part.to ≤ latest_end a visit.kind) visit.parts (j - 1) (part_at_place place part) (got_all (λ part. part.to ≤ latest_end a visit.kind) visit.parts (j - 1) part g h.ends) h.ends;
      short = All-set (IsEarlyIfShort a visit.kind) visit.parts (j - 1) (part_at_place place part) (got_all (IsEarlyIfShort a visit.kind) visit.parts (j - 1) part g h.short) h.short;
      places = All-set (λ part. IsPlaceOf a part.place) visit.parts (j - 1) (part_at_place place part) here h.places;
      facts = λ free. All-set (λ part. is_actual part.place ≡ false) visit.parts (j - 1) (part_at_place place part) planned (h.facts free);
      cancelled = λ over. absurd (live_not_cancelled visit live over);
    }

-- the visit with other parts
abbrev pub HasOtherParts : Visit → Visit → Type 0
HasOtherParts visit new = (parts : List Part) × (with_parts visit parts ≡ new)

-- the visit with other parts, none of which has a record that none of its parts had
record IsRemade (visit new : Visit) : Type 0 where
  pub parts : List Part
  pub is : with_parts visit parts ≡ new
  pub bumps : HaveNoNewBump parts visit.parts

if_some : (b : Bool) (x y : Visit) → (if b then Some x else None) ≡ Some y → x ≡ y
if_some true x y e = cc
if_some false x y e = absurd (cc)

cut_remade : (found : Option Part) (test : Part → Bool) (visit : Visit) (parts : List Part) (new : Visit) → HaveNoNewBump parts visit.parts
    → option_and_then (λ part. if test part then Some (with_parts visit parts) else None) found ≡ Some new → IsRemade visit new
cut_remade None test visit parts new bumps e = absurd (cc)
cut_remade (Some part) test visit parts new bumps e = record { parts = parts; is = if_some (test part) (with_parts visit parts) new e; bumps = bumps }

join_remade : (found : Option Part) (visit : Visit) (parts : List Part) (new : Visit) → HaveNoNewBump parts visit.parts
    → option_map (λ next. with_parts visit parts) found ≡ Some new → IsRemade visit new
join_remade None visit parts new bumps e = absurd (cc)
join_remade (Some part) visit parts new bumps e = let is : with_parts visit parts ≡ new = cc in record { parts = parts; is = is; bumps = bumps }

-- a part in another place, planned or without a record
set_remade : (visit : Visit) (j : ℕ) (part : Part) (place : Place) (new : Visit)
    → ((Holds : Place → Type 0) → ((stand : StandNo) → Holds (Planned stand)) → Holds (Unplaced None) → Holds place) → with_part visit j (part_at_place place part) ≡ new
    → IsRemade visit new
set_remade visit j part place new here is = record {
  parts = slice_set visit.parts (j - 1) (part_at_place place part);
  is = is;
  bumps = no_new_bump (slice_set visit.parts (j - 1) (part_at_place place part)) visit.parts
      (λ Holds planned none h. set_places Holds visit.parts (j - 1) (part_at_place place part) (here Holds planned none) h);
}

-- what an edit of a part makes of its visit is the visit with other parts
part_remade : (a : AirportParts) (k : ℕ) (edit : Edit) (v : Visit) (part : Part) (new : Visit) → edit_part a k edit v part ≡ Ok new → IsRemade v new
part_remade a k (Put n j s) v part new e =
    let planned = then_ok (refuse_if (is_actual part.place) (OnBlock k))
    (λ planned. refuse_unfit k (unfit_of a s v.kind) >>= λ fits. Ok (with_part v j (part_at_place (Planned s) part))) new e in
    let fits = then_ok (refuse_unfit k (unfit_of a s v.kind)) (λ fits. Ok (with_part v j (part_at_place (Planned s) part))) new planned.2 in
    set_remade v j part (Planned s) new (λ Holds planned none. planned s) (ok_is (with_part v j (part_at_place (Planned s) part)) new fits.2)
part_remade a k (Lift n j) v part new e =
    let planned = then_ok (refuse_if (is_actual part.place) (OnBlock k)) (λ planned. Ok (with_part v j (part_at_place (Unplaced None) part))) new e in
    set_remade v j part (Unplaced None) new (λ Holds planned none. none) (ok_is (with_part v j (part_at_place (Unplaced None) part)) new planned.2)
part_remade a k (Cut n j at) v part new e =
    let planned = then_ok (refuse_if (has_actual_behind j v) (OnBlock k)) (λ planned. ok_or (cut_of a j at v) (BadCut k)) new e in
    cut_remade (part_at v.parts j) _ v _ new
    (no_new_bump (take (j - 1) v.parts ++ cut_first a.tow at (drop (j - 1) v.parts)) v.parts
    (λ Holds planned none h. cut_places Holds a.tow at (j - 1) v.parts none h))
    (found_ok (cut_of a j at v) (BadCut k) new planned.2)
part_remade a k (Join n j) v part new e =
    let planned = then_ok (refuse_if (has_actual_behind j v) (OnBlock k)) (λ planned. ok_or (join_of j v) (BadJoin k)) new e in
    join_remade (part_at v.parts (j + 1)) v _ new
    (no_new_bump (take (j - 1) v.parts ++ join_first (drop (j - 1) v.parts)) v.parts (λ Holds planned none h. join_places Holds (j - 1) v.parts h))
    (found_ok (join_of j v) (BadJoin k) new planned.2)

-- so is what any edit makes of its visit
visit_remade : (a : AirportParts) (base k : ℕ) (edit : Edit) (v new : Visit) → edit_visit a base k edit v ≡ Ok new → IsRemade v new
visit_remade a base k edit v new e =
    let fresh = then_ok (refuse_if (nat_lt base v.edited) (Overtaken k v.number v.edited))
    (λ fresh. refuse_if (not (is_live v)) (Gone k) >>= λ live. ok_or (part_at v.parts (part_of edit)) (NoSuchPart k) >>= λ part. edit_part a k edit v part) new e in
    let live = then_ok (refuse_if (not (is_live v)) (Gone k)) (λ live. ok_or (part_at v.parts (part_of edit)) (NoSuchPart k) >>= λ part. edit_part a k edit v part) new fresh.2 in
    let found = then_ok (ok_or (part_at v.parts (part_of edit)) (NoSuchPart k)) (λ part. edit_part a k edit v part) new live.2 in
    part_remade a k edit v found.0 new found.2

pub visit_parts : (a : AirportParts) (base k : ℕ) (edit : Edit) (v new : Visit) → edit_visit a base k edit v ≡ Ok new → HasOtherParts v new
visit_parts a base k edit v new e = let made : IsRemade v new = visit_remade a base k edit v new e in (made.parts, made.is)

-- an edit makes no record of what took a stand
pub visit_bumps : (a : AirportParts) (base k : ℕ) (edit : Edit) (v new : Visit) → edit_visit a base k edit v ≡ Ok new → HaveNoNewBump new.parts v.parts
visit_bumps a base k edit v new e =
    let made : IsRemade v new = visit_remade a base k edit v new e in subst (λ (w : Visit). HaveNoNewBump w.parts v.parts) made.is made.bumps

-- so it keeps the visit's number
pub visit_number : (a : AirportParts) (base k : ℕ) (edit : Edit) (v new : Visit) → edit_visit a base k edit v ≡ Ok new → new.number ≡ v.number
visit_number a base k edit v new e = ap (λ (w : Visit). w.number) (sym (visit_parts a base k edit v new e).1)

-- and the entry and data that the visit was added with
pub visit_same : (a : AirportParts) (base k : ℕ) (edit : Edit) (v new : Visit) → edit_visit a base k edit v ≡ Ok new → IsSameVisit new v
visit_same a base k edit v new e =
    let made = (visit_parts a base k edit v new e).1 in
    record { new = ap new_of (sym made); added = ap (λ (w : Visit). w.added) (sym made) }

-- what an edit makes of visits, it makes of the visit of its number
pub record EditsVisit (a : AirportParts) (base k : ℕ) (edit : Edit) (visits new : List Visit) : Type 0 where
  pub visit : Visit
  pub after : Visit
  pub found : visit_at visits (visit_of edit) ≡ Some visit
  pub makes : edit_visit a base k edit visit ≡ Ok after
  pub puts : with_visit visits after ≡ new

pub edits_visit : (a : AirportParts) (base k : ℕ) (edit : Edit) (visits new : List Visit) → after_edit a base k edit visits ≡ Ok new → EditsVisit a base k edit visits new
edits_visit a base k edit visits new e =
    let found = then_ok (ok_or (visit_at visits (visit_of edit)) (UnknownVisit k)) (λ visit. edit_visit a base k edit visit >>= λ after. Ok (with_visit visits after)) new e in
    let made = then_ok (edit_visit a base k edit found.0) (λ after. Ok (with_visit visits after)) new found.2 in
    record {
      visit = found.0;
      after = made.0;
      found = found_ok (visit_at visits (visit_of edit)) (UnknownVisit k) found.0 found.1;
      makes = made.1;
      puts = ok_is (with_visit visits made.0) new made.2;
    }

-- what holds of all visits holds of the one that is found
pub found_has : (P : Visit → Type 0) (visits : List Visit) (number : VisitNo) (v : Visit) → All P visits → visit_at visits number ≡ Some v → P v
found_has P visits number v all at = got_all P visits (position_or_len (has_number number) visits) v (sym (find_at (has_number number) visits) ∙ at) all
