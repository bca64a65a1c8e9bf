-- What is left of the parts of a visit that is settled.
use Rattle.std.proofs.Common.{◌≡◌, ◌∙◌, ◌⊎◌, ◌+◌, ℕ, Bool, true, false, List, [], ◌∷◌, ◌++◌, refl, sym, ap, inl, inr, Option, None, Some, map, option_to_list, if◌then◌else◌}
use Rattle.std.specs.Prelude.{filter, filter_map, fold, is_some, not}
use Rattle.std.specs.List.{list_any}
use Rattle.std.proofs.lemmas.List.Elements.{filter-append}
use Rattle.apron_base.specs.declared.slot.Slot.{Slot}
use Rattle.apron_base.specs.declared.numbers.StandNo.{StandNo}
use Rattle.apron_rules.specs.declared.parts.AirportParts.{AirportParts}
use Rattle.visit_book.specs.declared.visits.Part.{Part}
use Rattle.visit_book.specs.declared.visits.Place.{Place}
use Rattle.visit_book.specs.declared.visits.Place.TheVariants.{Unplaced, Planned, Actual}
use Rattle.visit_book.specs.declared.visits.Visit.{Visit}
use Rattle.visit_book.specs.Slots.{slot_of, slot_on, slots_from}
use Rattle.plan_core.proofs.SlotLists.{slots_from_alike}
use Rattle.plan_core.specs.Edits.{part_at_place}
use Rattle.bump_core.specs.declared.ranks.Ranked.{Ranked}
use Rattle.bump_core.specs.declared.ranks.Conflict.{Conflict}
use Rattle.bump_core.specs.Ranks.{all_parts_on, blocks, blocks_before, conflict, is_free, parts_on, ranked_part}
use Rattle.bump_core.specs.Settle.{best, conflicts, place_after, settled_parts, settled_place, settled_visit, with_better}
use Rattle.bump_core.proofs.Rounds.{Among}

any_first : {X Y : Type 0} (h : X → Option Y) (x : X) (xs : List X) (found : Option Y) → h x ≡ found
    → (filter_map h xs ≡ [] → list_any (λ x. is_some (h x)) xs ≡ false) → filter_map h (x ∷ xs) ≡ [] → list_any (λ x. is_some (h x)) (x ∷ xs) ≡ false
any_first h x xs (Some y) is rest e = let whole : y ∷ filter_map h xs ≡ [] = rw is at e in absurd (cc)
any_first h x xs None is rest e = rw is (rest (rw is at e))

-- if nothing comes out, no item gives something
pub none_any : {X Y : Type 0} (h : X → Option Y) (xs : List X) → filter_map h xs ≡ [] → list_any (λ x. is_some (h x)) xs ≡ false
none_any h [] e = refl
none_any h (x ∷ xs) e = any_first h x xs (h x) refl (none_any h xs) e

some_first : {X Y : Type 0} (h : X → Option Y) (x : X) (y : Y) (xs : List X) (ys : List Y) (found : Option Y) → h x ≡ found
    → ((y : Y) (ys : List Y) → filter_map h xs ≡ y ∷ ys → list_any (λ x. is_some (h x)) xs ≡ true)
    → filter_map h (x ∷ xs) ≡ y ∷ ys → list_any (λ x. is_some (h x)) (x ∷ xs) ≡ true
some_first h x y xs ys (Some z) is rest e = rw is refl
some_first h x y xs ys None is rest e = rw is (rest y ys (rw is at e))

-- if something comes out, some item gives it
pub some_any : {X Y : Type 0} (h : X → Option Y) (y : Y) (xs : List X) (ys : List Y) → filter_map h xs ≡ y ∷ ys → list_any (λ x. is_some (h x)) xs ≡ true
some_any h y [] ys e = absurd (cc)
some_any h y (x ∷ xs) ys e = some_first h x y xs ys (h x) refl (λ z zs g. some_any h z xs zs g) e

best_more : (a b : Conflict) (more : Bool) (bs : List Conflict) → ((a : Conflict) → (mine : Conflict) × (fold with_better (Some a) bs ≡ Some mine))
    → (mine : Conflict) × (fold with_better (if more then Some b else Some a) bs ≡ Some mine)
best_more a b true bs rest = rest b
best_more a b false bs rest = rest a

pub best_some : (a : Conflict) (bs : List Conflict) → (mine : Conflict) × (fold with_better (Some a) bs ≡ Some mine)
best_some a [] = (a, refl)
best_some a (b ∷ bs) = best_more a b (blocks_before b.blocker a.blocker) bs (λ d. best_some d bs)

free_by : (airport : AirportParts) (kept : List Ranked) (holder : Ranked) (bs : List Conflict) → conflicts airport kept holder ≡ bs
    → ((bs ≡ []) × (is_free (blocks airport) kept holder ≡ true)) ⊎ ((b : Conflict) × (best bs ≡ Some b) × (is_free (blocks airport) kept holder ≡ false))
free_by airport kept holder [] e = inl (refl, ap not (none_any (λ other. conflict airport other holder) kept e))
free_by airport kept holder (b ∷ bs) e =
    let found = best_some b bs in inr (found.0, found.1, ap not (some_any (λ other. conflict airport other holder) b kept bs e))

-- a part has a best blocker exactly if it is not free
pub free_or_blocked : (airport : AirportParts) (kept : List Ranked) (holder : Ranked)
    → ((best (conflicts airport kept holder) ≡ None) × (is_free (blocks airport) kept holder ≡ true))
    ⊎ ((b : Conflict) × (best (conflicts airport kept holder) ≡ Some b) × (is_free (blocks airport) kept holder ≡ false))
free_or_blocked airport kept holder = elim (free_by airport kept holder (conflicts airport kept holder) refl) [
  | inl free ↦ inl (ap best free.0, free.1)
  | inr blocked ↦ inr blocked
]

-- whether it is free depends only on what blocks it
pub free_same : (airport : AirportParts) (ks ls : List Ranked) (holder : Ranked) → conflicts airport ks holder ≡ conflicts airport ls holder
    → is_free (blocks airport) ks holder ≡ is_free (blocks airport) ls holder
free_same airport ks ls holder e =
    elim (free_by airport ks holder (conflicts airport ks holder) refl) [
      | inl free ↦ free.1 ∙ sym (ap not (none_any (λ other. conflict airport other holder) ls (sym e ∙ free.0)))
      | inr blocked ↦ elim (free_by airport ls holder (conflicts airport ls holder) refl) [
        | inl free ↦
            let none : best (conflicts airport ks holder) ≡ None = ap best (e ∙ free.0) in let some : best (conflicts airport ks holder) ≡ Some blocked.0 = blocked.1 in absurd (cc)
        | inr other ↦ blocked.2 ∙ sym other.2
      ]
    ]

pub actual_unblocked : (airport : AirportParts) (other holder : Ranked) → holder.slot.actual ≡ true → conflict airport other holder ≡ None
unfolding conflict
actual_unblocked airport other holder e = rw e refl

actual_free_by : (airport : AirportParts) (holder : Ranked) (kept : List Ranked) → holder.slot.actual ≡ true
    → list_any (λ other. blocks airport other holder) kept ≡ false
actual_free_by airport holder [] e = refl
actual_free_by airport holder (other ∷ kept) e = rw (actual_unblocked airport other holder e) (actual_free_by airport holder kept e)

-- an actual part is always free
pub actual_free : (airport : AirportParts) (holder : Ranked) (kept : List Ranked) → holder.slot.actual ≡ true → is_free (blocks airport) kept holder ≡ true
actual_free airport holder kept e = ap not (actual_free_by airport holder kept e)

-- the slot of a part, if it has one
abbrev pub slots_at : AirportParts → Visit → ℕ → Part → List Slot
slots_at airport visit number part = option_to_list (slot_of airport visit number part)

-- the slot of a part that is settled is left exactly if the part is free
slots_against : (airport : AirportParts) (entry : ℕ) (kept : List Ranked) (visit : Visit) (number : ℕ) (part : Part) (stand : StandNo) (holder : Ranked) (found : Option Conflict)
    (free : Bool) → holder ≡ ranked_part visit (slot_on airport visit number (part_at_place (Planned stand) part) stand)
    → is_free (blocks airport) kept holder ≡ free → ((found ≡ None) × (free ≡ true)) ⊎ ((b : Conflict) × (found ≡ Some b) × (free ≡ false))
    → map (ranked_part visit) (slots_at airport visit number (part_at_place (place_after entry stand found) part)) ≡ filter (is_free (blocks airport) kept) (holder ∷ [])
slots_against airport entry kept visit number part stand holder found free e is h = elim h [
  | inl here ↦ rw (here.0, is, here.1) (ap (λ x. x ∷ []) (sym e))
  | inr gone ↦ rw (gone.1, is, gone.2) refl
]

slots_settled : (airport : AirportParts) (entry : ℕ) (kept : List Ranked) (visit : Visit) (number : ℕ) (part : Part) (place : Place)
    → map (ranked_part visit) (slots_at airport visit number (part_at_place (settled_place airport entry kept visit number (part_at_place place part) place) part))
    ≡ filter (is_free (blocks airport) kept) (map (ranked_part visit) (slots_at airport visit number (part_at_place place part)))
slots_settled airport entry kept visit number part (Unplaced bump) = refl
slots_settled airport entry kept visit number part (Actual stand) =
    let holder : Ranked = ranked_part visit (slot_on airport visit number (part_at_place (Actual stand) part) stand) in rw (actual_free airport holder kept refl) refl
slots_settled airport entry kept visit number part (Planned stand) =
    let holder : Ranked = ranked_part visit (slot_on airport visit number (part_at_place (Planned stand) part) stand) in
    slots_against airport entry kept visit number part stand holder (best (conflicts airport kept holder)) (is_free (blocks airport) kept holder) refl refl
    (free_or_blocked airport kept holder)

pub map_append : {X Y : Type 0} (f : X → Y) (xs ys : List X) → map f (xs ++ ys) ≡ map f xs ++ map f ys
map_append f [] ys = refl
map_append f (x ∷ xs) ys = ap (λ zs. f x ∷ zs) (map_append f xs ys)

slots_left : (airport : AirportParts) (entry : ℕ) (kept : List Ranked) (visit : Visit) (number : ℕ) (parts : List Part)
    → map (ranked_part visit) (slots_from airport visit number (settled_parts airport entry kept visit number parts))
    ≡ filter (is_free (blocks airport) kept) (map (ranked_part visit) (slots_from airport visit number parts))
slots_left airport entry kept visit number [] = refl
slots_left airport entry kept visit number (part ∷ parts) =
    let after : Part = part_at_place (settled_place airport entry kept visit number part part.place) part in
    let free : Ranked → Bool = is_free (blocks airport) kept in
    let more : List Slot = slots_from airport visit (number + 1) parts in
    let first : map (ranked_part visit) (slots_at airport visit number after) ≡ filter free (map (ranked_part visit) (slots_at airport visit number part)) =
    slots_settled airport entry kept visit number part part.place in
    map_append (ranked_part visit) (slots_at airport visit number after) (slots_from airport visit (number + 1) (settled_parts airport entry kept visit (number + 1) parts))
    ∙ (rw (first, slots_left airport entry kept visit (number + 1) parts)
    (sym (filter-append free (map (ranked_part visit) (slots_at airport visit number part)) (map (ranked_part visit) more)))
    ∙ ap (filter free) (sym (map_append (ranked_part visit) (slots_at airport visit number part) more)))

-- the parts of a settled visit are those that were free
pub parts_left : (airport : AirportParts) (entry : ℕ) (kept : List Ranked) (visit : Visit)
    → parts_on airport (settled_visit airport entry kept visit) ≡ filter (is_free (blocks airport) kept) (parts_on airport visit)
parts_left airport entry kept visit =
    ap (map (ranked_part visit)) (slots_from_alike airport (settled_visit airport entry kept visit) visit 1 (settled_parts airport entry kept visit 1 visit.parts) refl refl)
    ∙ slots_left airport entry kept visit 1 visit.parts

-- and the same for visits
pub all_left : (airport : AirportParts) (entry : ℕ) (kept : List Ranked) (visits : List Visit)
    → all_parts_on airport (map (settled_visit airport entry kept) visits) ≡ filter (is_free (blocks airport) kept) (all_parts_on airport visits)
all_left airport entry kept [] = refl
all_left airport entry kept (visit ∷ visits) =
    rw (parts_left airport entry kept visit, all_left airport entry kept visits) (sym (filter-append (is_free (blocks airport) kept) (parts_on airport visit) (all_parts_on airport visits)))

place_same : (airport : AirportParts) (entry : ℕ) (ks ls : List Ranked) (visit : Visit) (number : ℕ) (part : Part) (place : Place)
    → ((holder : Ranked) → Among holder (map (ranked_part visit) (slots_at airport visit number (part_at_place place part))) → conflicts airport ks holder ≡ conflicts airport ls holder)
    → settled_place airport entry ks visit number (part_at_place place part) place ≡ settled_place airport entry ls visit number (part_at_place place part) place
place_same airport entry ks ls visit number part (Unplaced bump) h = refl
place_same airport entry ks ls visit number part (Actual stand) h = refl
place_same airport entry ks ls visit number part (Planned stand) h =
    let holder : Ranked = ranked_part visit (slot_on airport visit number (part_at_place (Planned stand) part) stand) in
    ap (λ found. place_after entry stand (best found)) (h holder (inl refl))

pub among_left : {X : Type 0} (x : X) (xs ys : List X) → Among x xs → Among x (xs ++ ys)
among_left x [] ys h = absurd h
among_left x (y ∷ xs) ys h = elim h [ inl here ↦ inl here | inr there ↦ inr (among_left x xs ys there) ]

pub among_right : {X : Type 0} (x : X) (xs ys : List X) → Among x ys → Among x (xs ++ ys)
among_right x [] ys h = h
among_right x (y ∷ xs) ys h = inr (among_right x xs ys h)

pub among_along : {X : Type 0} (x : X) (xs ys : List X) → xs ≡ ys → Among x xs → Among x ys
among_along x xs ys e h = rw (← e) h

parts_same : (airport : AirportParts) (entry : ℕ) (ks ls : List Ranked) (visit : Visit) (number : ℕ) (parts : List Part)
    → ((holder : Ranked) → Among holder (map (ranked_part visit) (slots_from airport visit number parts)) → conflicts airport ks holder ≡ conflicts airport ls holder)
    → settled_parts airport entry ks visit number parts ≡ settled_parts airport entry ls visit number parts
parts_same airport entry ks ls visit number [] h = refl
parts_same airport entry ks ls visit number (part ∷ parts) h =
    let here : List Slot = slots_at airport visit number part in
    let more : List Slot = slots_from airport visit (number + 1) parts in
    let whole : map (ranked_part visit) (here ++ more) ≡ map (ranked_part visit) here ++ map (ranked_part visit) more = map_append (ranked_part visit) here more in
    let first : settled_place airport entry ks visit number part part.place ≡ settled_place airport entry ls visit number part part.place =
    place_same airport entry ks ls visit number part part.place (λ holder in'. h holder (among_along holder _ _ (sym whole) (among_left holder (map (ranked_part visit) here) (map (ranked_part visit) more) in'))) in
    let rest : settled_parts airport entry ks visit (number + 1) parts ≡ settled_parts airport entry ls visit (number + 1) parts =
    parts_same airport entry ks ls visit (number + 1) parts (λ holder in'. h holder (among_along holder _ _ (sym whole) (among_right holder (map (ranked_part visit) here) (map (ranked_part visit) more) in'))) in
    rw (first, rest) refl

-- how a visit is settled depends only on the blockers of its parts
pub visit_same : (airport : AirportParts) (entry : ℕ) (ks ls : List Ranked) (visit : Visit)
    → ((holder : Ranked) → Among holder (parts_on airport visit) → conflicts airport ks holder ≡ conflicts airport ls holder)
    → settled_visit airport entry ks visit ≡ settled_visit airport entry ls visit
visit_same airport entry ks ls visit h =
    ap (λ (parts : List Part). let v : Visit = record visit { parts = parts } in v) (parts_same airport entry ks ls visit 1 visit.parts h)

place_none : (airport : AirportParts) (entry : ℕ) (visit : Visit) (number : ℕ) (part : Part) (place : Place)
    → settled_place airport entry [] visit number part place ≡ place
place_none airport entry visit number part (Unplaced bump) = refl
place_none airport entry visit number part (Actual stand) = refl
place_none airport entry visit number part (Planned stand) = refl

parts_none : (airport : AirportParts) (entry : ℕ) (visit : Visit) (number : ℕ) (parts : List Part) → settled_parts airport entry [] visit number parts ≡ parts
parts_none airport entry visit number [] = refl
parts_none airport entry visit number (part ∷ parts) =
    rw (place_none airport entry visit number part part.place, parts_none airport entry visit (number + 1) parts) refl

-- against nothing a visit stays as it is
pub visit_none : (airport : AirportParts) (entry : ℕ) (visit : Visit) → settled_visit airport entry [] visit ≡ visit
visit_none airport entry visit = ap (λ (parts : List Part). let v : Visit = record visit { parts = parts } in v) (parts_none airport entry visit 1 visit.parts)

visits_by : (airport : AirportParts) (entry : ℕ) (ks ls : List Ranked) (visits : List Visit)
    → ((holder : Ranked) → Among holder (all_parts_on airport visits) → conflicts airport ks holder ≡ conflicts airport ls holder)
    → map (settled_visit airport entry ks) visits ≡ map (settled_visit airport entry ls) visits
visits_by airport entry ks ls [] h = refl
visits_by airport entry ks ls (visit ∷ visits) h =
    rw (
      visit_same airport entry ks ls visit (λ holder in'. h holder (among_left holder (parts_on airport visit) (all_parts_on airport visits) in')),
      visits_by airport entry ks ls visits (λ holder in'. h holder (among_right holder (parts_on airport visit) (all_parts_on airport visits) in')),
    ) refl

pub visits_same : (airport : AirportParts) (entry : ℕ) (ks ls : List Ranked) (visits : List Visit)
    → ((holder : Ranked) → Among holder (all_parts_on airport visits) → conflicts airport ks holder ≡ conflicts airport ls holder)
    → map (settled_visit airport entry ks) visits ≡ map (settled_visit airport entry ls) visits
visits_same airport entry ks ls visits h = visits_by airport entry ks ls visits h

pub visits_none : (airport : AirportParts) (entry : ℕ) (visits : List Visit) → map (settled_visit airport entry []) visits ≡ visits
visits_none airport entry [] = refl
visits_none airport entry (visit ∷ visits) = rw (visit_none airport entry visit, visits_none airport entry visits) refl
