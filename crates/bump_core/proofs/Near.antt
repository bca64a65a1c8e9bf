-- Settling near a changed visit is settling.
use Rattle.std.proofs.Common.{◌≡◌, ◌∙◌, ◌⊎◌, ◌<◌, ◌≤◌, ◌+◌, ◌==◌, ℕ, Bool, true, false, ◌&&◌, List, [], ◌∷◌, ◌++◌, refl, sym, ap, arith, inl, inr, Option, None, Some, map, length, if◌then◌else◌, nat_lt, ◌||◌, append-nil, subst}
use Rattle.std.specs.Prelude.{filter, filter_map, is_some, not}
use Rattle.std.specs.List.{cons_option}
use Rattle.std.proofs.lemmas.Bool.Decides.{nat_tests}
use Rattle.std.proofs.lemmas.List.Concat.{flat_map-append}
use Rattle.std.proofs.lemmas.List.Elements.{filter-append, filter_map-append}
use Rattle.apron_base.specs.declared.slot.Slot.{Slot}
use Rattle.apron_base.specs.declared.numbers.VisitNo.{VisitNo}
use Rattle.apron_rules.specs.declared.parts.AirportParts.{AirportParts}
use Rattle.apron_rules.specs.Clash.{IsSound, rule_at}
use Rattle.clash_check.specs.Meetings.{meeting}
use Rattle.clash_check.proofs.Meetings.{meeting_none}
use Rattle.visit_book.specs.declared.visits.Part.{Part}
use Rattle.visit_book.specs.declared.visits.Place.{Place}
use Rattle.visit_book.specs.declared.visits.Place.TheVariants.{Unplaced, Planned, Actual}
use Rattle.visit_book.specs.declared.visits.Visit.{Visit}
use Rattle.visit_book.specs.Numbers.{IsNumbered, IsNumberedAbove, with_visit}
use Rattle.visit_book.specs.Numbers.{has_number}
use Rattle.visit_book.specs.Slots.{slots_from, slots_of, slots_of_visit}
use Rattle.plan_core.specs.Edits.{part_at_place}
use Rattle.bump_core.specs.Near.{actual_parts, others, settled_near, visit_near}
use Rattle.bump_core.specs.declared.ranks.Ranked.{Ranked}
use Rattle.bump_core.specs.declared.ranks.Conflict.{Conflict}
use Rattle.bump_core.specs.Ranks.{all_parts_on, blocks, blocks_before, conflict, is_free, is_lower, parts_on, rank, ranked_part}
use Rattle.bump_core.specs.Settle.{conflicts, settle, settled_visit}
use Rattle.bump_core.proofs.Rounds.{Among, and_same, any_filter, any_same}
use Rattle.bump_core.proofs.Order.{blocking_tells, blocks_tell, lower_cases}
use Rattle.bump_core.proofs.Blockers.{actual_free, all_left, among_along, among_left, among_right, map_append, parts_left, slots_at, visit_same, visits_same}
use Rattle.bump_core.proofs.Settled.{among_map, filter_among, none_given, fixed_settled, sound_unblocked}

pub among_cases : {X : Type 0} (x : X) (xs ys : List X) → Among x (xs ++ ys) → Among x xs ⊎ Among x ys
among_cases x [] ys h = inr h
among_cases x (y ∷ xs) ys h = elim h [
  | inl here ↦ inl (inl here)
  | inr there ↦ elim (among_cases x xs ys there) [ inl left ↦ inl (inr left) | inr right ↦ inr right ]
]

slot_at_number : (airport : AirportParts) (visit : Visit) (number : ℕ) (part : Part) (place : Place) (slot : Slot)
    → Among slot (slots_at airport visit number (part_at_place place part))
    → slot.part.visit.0 ≡ visit.number.0
slot_at_number airport visit number part (Unplaced bump) slot h = absurd h
slot_at_number airport visit number part (Planned stand) slot h = elim h [ inl here ↦ ap (λ (x : Slot). x.part.visit.0) here | inr there ↦ absurd there ]
slot_at_number airport visit number part (Actual stand) slot h = elim h [ inl here ↦ ap (λ (x : Slot). x.part.visit.0) here | inr there ↦ absurd there ]

slot_from_number : (airport : AirportParts) (visit : Visit) (number : ℕ) (parts : List Part) (slot : Slot)
    → Among slot (slots_from airport visit number parts)
    → slot.part.visit.0 ≡ visit.number.0
slot_from_number airport visit number [] slot h = absurd h
slot_from_number airport visit number (part ∷ parts) slot h =
    elim (among_cases slot (slots_at airport visit number part) (slots_from airport visit (number + 1) parts) h) [
      | inl here ↦ slot_at_number airport visit number part part.place slot here
      | inr there ↦ slot_from_number airport visit (number + 1) parts slot there
    ]

-- a part on a stand of a visit has its number, its class and its minute on block
pub record IsPartOf (visit : Visit) (holder : Ranked) : Type 0 where
  pub number : holder.slot.part.visit.0 ≡ visit.number.0
  pub class : holder.class ≡ visit.class
  pub on : holder.on ≡ visit.on

pub part_of : (airport : AirportParts) (visit : Visit) (holder : Ranked) → Among holder (parts_on airport visit) → IsPartOf visit holder
part_of airport visit holder h =
    let found = among_map (ranked_part visit) (slots_of_visit airport visit) holder h in
    record {
      number = ap (λ (x : Ranked). x.slot.part.visit.0) found.2 ∙ slot_from_number airport visit 1 visit.parts found.0 found.1;
      class = ap (λ (x : Ranked). x.class) found.2;
      on = ap (λ (x : Ranked). x.on) found.2;
    }

-- the visits have other numbers
abbrev pub Apart : ℕ → List Visit → Type 0
Apart number [] = Unit {0}
Apart number (visit ∷ visits) = (visit.number.0 ≡ number → ⊥) × Apart number visits

apart_parts : (airport : AirportParts) (number : ℕ) (visits : List Visit) (holder : Ranked) → Apart number visits → Among holder (all_parts_on airport visits)
    → holder.slot.part.visit.0 ≡ number → ⊥
apart_parts airport number [] holder h in' same = in'
apart_parts airport number (visit ∷ visits) holder h in' same = elim (among_cases holder (parts_on airport visit) (all_parts_on airport visits) in') [
  | inl here ↦ h.0 (sym (part_of airport visit holder here).number ∙ same)
  | inr there ↦ apart_parts airport number visits holder h.1 there same
]

-- slots of one visit don't clash
same_visit : (airport : AirportParts) (p q : Slot) (m : ℕ) → (p.part.visit.0 == q.part.visit.0) ≡ true → rule_at airport p q m ≡ None
same_visit airport p q m e = rw e refl

-- parts of one visit don't block each other
own_by : (airport : AirportParts) (other holder : Ranked) (found : Option Conflict) → conflict airport other holder ≡ found
    → other.slot.part.visit.0 ≡ holder.slot.part.visit.0 → found ≡ None
own_by airport other holder None is same = refl
own_by airport other holder (Some b) is same =
    let here : (other.slot.part.visit.0 == holder.slot.part.visit.0) ≡ true = grind (arith, nat_tests) in
    let none : meeting airport other.slot holder.slot ≡ None =
    meeting_none airport other.slot holder.slot (λ m. same_visit airport other.slot holder.slot m here) in
    let some = (blocking_tells airport other holder b is).meets in
    absurd (cc)

pub own_unblocked : (airport : AirportParts) (other holder : Ranked) → other.slot.part.visit.0 ≡ holder.slot.part.visit.0
    → conflict airport other holder ≡ None
own_unblocked airport other holder same = own_by airport other holder (conflict airport other holder) refl same

squeeze : (x y : ℕ) (a b : Bool) → (nat_lt x y || (x == y && a)) ≡ true → (nat_lt y x || (y == x && b)) ≡ true → (x ≡ y) × (a ≡ true) × (b ≡ true)
squeeze x y a b h number = elim (lower_cases x y a h) [
  | inl below ↦ elim (lower_cases y x b number) [ inl above ↦ absurd (omega arith) | inr same ↦ absurd (omega (arith, same.0)) ]
  | inr one ↦ elim (lower_cases y x b number) [ inl above ↦ absurd (omega (arith, one.0)) | inr same ↦ (one.0, one.1, same.1) ]
]

-- what ranks between two planned parts of a visit is of that visit
between : (flag class on visit first last : ℕ) (other_flag other_class other_on other_visit part : ℕ)
    → is_lower (flag ∷ class ∷ on ∷ visit ∷ first ∷ []) (other_flag ∷ other_class ∷ other_on ∷ other_visit ∷ part ∷ []) ≡ true
    → is_lower (other_flag ∷ other_class ∷ other_on ∷ other_visit ∷ part ∷ []) (flag ∷ class ∷ on ∷ visit ∷ last ∷ []) ≡ true → visit ≡ other_visit
between flag class on visit first last other_flag other_class other_on other_visit part h g =
    let flags = squeeze flag other_flag _ _ h g in
    let classes = squeeze class other_class _ _ flags.1 flags.2 in
    let ons = squeeze on other_on _ _ classes.1 classes.2 in
    (squeeze visit other_visit _ _ ons.1 ons.2).0

rank_of : Bool → Visit → ℕ → List ℕ
rank_of actual visit number = (if actual then 0 else 1) ∷ visit.class ∷ visit.on ∷ visit.number.0 ∷ number ∷ []

rank_is : (visit : Visit) (holder : Ranked) (actual : Bool) → IsPartOf visit holder → holder.slot.actual ≡ actual
    → rank holder ≡ rank_of actual visit holder.slot.part.part
unfolding rank_of
rank_is visit holder actual h e = rw (e, h.class, h.on, h.number) refl

pub between_parts : (visit : Visit) (mine other holder : Ranked) → IsPartOf visit mine → IsPartOf visit holder → mine.slot.actual ≡ false
    → holder.slot.actual ≡ false
    → blocks_before mine other ≡ true → blocks_before other holder ≡ true → other.slot.part.visit.0 ≡ visit.number.0
unfolding blocks_before rank_of
between_parts visit mine other holder at to e f h number =
    let first : is_lower (rank_of false visit mine.slot.part.part) (rank other) ≡ true =
    subst (λ xs. is_lower xs (rank other) ≡ true) (rank_is visit mine false at e) h in
    let second : is_lower (rank other) (rank_of false visit holder.slot.part.part) ≡ true =
    subst (λ xs. is_lower (rank other) xs ≡ true) (rank_is visit holder false to f) number in
    sym (between 1 visit.class visit.on visit.number.0 mine.slot.part.part holder.slot.part.part (if other.slot.actual then 0 else 1) other.class other.on other.slot.part.visit.0 other.slot.part.part first second)

-- a part of the changed visit that takes a stand from a part better than another of its own parts
-- is actual
actual_by : (airport : AirportParts) (visit : Visit) (mine other holder : Ranked) (b : Bool) → mine.slot.actual ≡ b → IsPartOf visit mine
    → IsPartOf visit holder
    → (other.slot.part.visit.0 ≡ visit.number.0 → ⊥) → blocks airport mine other ≡ true → blocks airport other holder ≡ true → b ≡ true
actual_by airport visit mine other holder true e at to apart h number = refl
actual_by airport visit mine other holder false e at to apart h number =
    absurd (apart (between_parts visit mine other holder at to e (blocks_tell airport other holder number).0 (blocks_tell airport mine other h).1 (blocks_tell airport other holder number).1))

given_first : {X Y : Type 0} (f g : X → Bool) (h : X → Option Y) (x : X) (xs : List X) (b mine : Bool) (found : Option Y) → f x ≡ b → g x ≡ mine → h x ≡ found
    → (is_some found ≡ true → b ≡ mine) → filter_map h (filter f xs) ≡ filter_map h (filter g xs)
    → filter_map h (filter f (x ∷ xs)) ≡ filter_map h (filter g (x ∷ xs))
given_first f g h x xs true true found e i is same rest = rw (e, i) (ap (cons_option (h x)) rest)
given_first f g h x xs false false found e i is same rest = rw (e, i) rest
given_first f g h x xs true false None e i is same rest = rw (e, i, is) rest
given_first f g h x xs false true None e i is same rest = rw (e, i, is) rest
given_first f g h x xs true false (Some y) e i is same rest = absurd (let no' : true ≡ false = same refl in cc)
given_first f g h x xs false true (Some y) e i is same rest = absurd (let no' : false ≡ true = same refl in cc)

-- two tests that agree on the items that give something
given_within : {X Y : Type 0} (f g : X → Bool) (h : X → Option Y) (xs : List X) → ((x : X) → Among x xs → is_some (h x) ≡ true → f x ≡ g x)
    → filter_map h (filter f xs) ≡ filter_map h (filter g xs)
given_within f g h [] same = refl
given_within f g h (x ∷ xs) same =
    given_first f g h x xs (f x) (g x) (h x) refl refl refl (same x (inl refl)) (given_within f g h xs (λ y in'. same y (inr in')))

-- the changed visit is between these, and their parts don't block each other
pub record Around (airport : AirportParts) (pre post : List Visit) (changed : Visit) : Type 0 where
  pub before : Apart changed.number.0 pre
  pub after : Apart changed.number.0 post
  pub sound : (other holder : Ranked) → Among other (all_parts_on airport (pre ++ post)) → Among holder (all_parts_on airport (pre ++ post)) → conflict airport other holder ≡ None

-- the parts of the others
abbrev pub rest_parts : AirportParts → List Visit → List Visit → List Ranked
rest_parts airport pre post = all_parts_on airport (pre ++ post)

abbrev left_of : AirportParts → List Visit → List Visit → Visit → List Ranked
left_of airport pre post changed = filter (is_free (blocks airport) (actual_parts airport changed)) (rest_parts airport pre post)

apart_append : (number : ℕ) (pre post : List Visit) → Apart number pre → Apart number post → Apart number (pre ++ post)
apart_append number [] post h k = k
apart_append number (visit ∷ pre) post h k = (h.0, apart_append number pre post h.1 k)

-- the actual parts of the changed visit leave such a part exactly if the parts of it that stay do
left_same : (airport : AirportParts) (pre post : List Visit) (changed : Visit) (ks : List Ranked) (other holder : Ranked) → Around airport pre post changed
    → Among other (rest_parts airport pre post) → Among holder (parts_on airport changed) → blocks airport other holder ≡ true
    → is_free (blocks airport) (filter (is_free (blocks airport) ks) (parts_on airport changed)) other ≡ is_free (blocks airport) (actual_parts airport changed) other
left_same airport pre post changed ks other holder around in' own h =
    let apart : other.slot.part.visit.0 ≡ changed.number.0 → ⊥ =
    apart_parts airport changed.number.0 (pre ++ post) other (apart_append changed.number.0 pre post around.before around.after) in' in
    ap not (any_filter (is_free (blocks airport) ks) (λ mine. blocks airport mine other) (parts_on airport changed)
    ∙ (any_same (λ mine. is_free (blocks airport) ks mine && blocks airport mine other) (λ mine. mine.slot.actual && blocks airport mine other) (parts_on airport changed)
    (λ mine here. and_same (is_free (blocks airport) ks mine) mine.slot.actual (blocks airport mine other) (λ b.
    let actual : mine.slot.actual ≡ true =
    actual_by airport changed mine other holder mine.slot.actual refl (part_of airport changed mine here) (part_of airport changed holder own) apart b h in
    actual_free airport mine ks actual ∙ sym actual))
    ∙ sym (any_filter (λ (mine : Ranked). mine.slot.actual) (λ mine. blocks airport mine other) (parts_on airport changed))))

same_as_none : {X : Type 0} (xs ys : List X) → xs ≡ [] → ys ≡ [] → xs ≡ ys
same_as_none xs ys e f = e ∙ sym f

-- the parts that stay, before, of and after the changed visit
abbrev staying : AirportParts → List Visit → List Visit → List Ranked → List Ranked
staying airport pre post own =
    filter (is_free (blocks airport) own) (all_parts_on airport pre) ++ (own ++ filter (is_free (blocks airport) own) (all_parts_on airport post))

blockings_staying : (airport : AirportParts) (pre post : List Visit) (own : List Ranked) (holder : Ranked)
    → conflicts airport (staying airport pre post own) holder
    ≡ conflicts airport (filter (is_free (blocks airport) own) (all_parts_on airport pre)) holder
    ++ (conflicts airport own holder ++ conflicts airport (filter (is_free (blocks airport) own) (all_parts_on airport post)) holder)
blockings_staying airport pre post own holder =
    let given : Ranked → Option Conflict = λ other. conflict airport other holder in
    let before : List Ranked = filter (is_free (blocks airport) own) (all_parts_on airport pre) in
    let after : List Ranked = filter (is_free (blocks airport) own) (all_parts_on airport post) in
    filter_map-append given before (own ++ after) ∙ ap (λ xs. filter_map given before ++ xs) (filter_map-append given own after)

pub parts_append : (airport : AirportParts) (pre post : List Visit)
    → all_parts_on airport (pre ++ post) ≡ all_parts_on airport pre ++ all_parts_on airport post
parts_append airport pre post = flat_map-append (parts_on airport) pre post

in_pre : (airport : AirportParts) (pre post : List Visit) (holder : Ranked) → Among holder (all_parts_on airport pre)
    → Among holder (rest_parts airport pre post)
in_pre airport pre post holder h =
    among_along holder _ _ (sym (parts_append airport pre post)) (among_left holder (all_parts_on airport pre) (all_parts_on airport post) h)

in_post : (airport : AirportParts) (pre post : List Visit) (holder : Ranked) → Among holder (all_parts_on airport post)
    → Among holder (rest_parts airport pre post)
in_post airport pre post holder h =
    among_along holder _ _ (sym (parts_append airport pre post)) (among_right holder (all_parts_on airport pre) (all_parts_on airport post) h)

no_blockings : (airport : AirportParts) (test : Ranked → Bool) (parts : List Ranked) (holder : Ranked)
    → ((other : Ranked) → Among other parts → conflict airport other holder ≡ None)
    → conflicts airport (filter test parts) holder ≡ []
no_blockings airport test parts holder h =
    none_given (λ other. conflict airport other holder) (filter test parts) (λ other here. h other (filter_among test other parts here).1)

-- a part of another visit is blocked only by what stays of the changed one
other_blockings : (airport : AirportParts) (pre post : List Visit) (changed : Visit) (own : List Ranked) (holder : Ranked) → Around airport pre post changed
    → Among holder (rest_parts airport pre post) → conflicts airport own holder ≡ conflicts airport (staying airport pre post own) holder
other_blockings airport pre post changed own holder around in' =
    let free : Ranked → Bool = is_free (blocks airport) own in
    let first : conflicts airport (filter free (all_parts_on airport pre)) holder ≡ [] =
    no_blockings airport free (all_parts_on airport pre) holder (λ other here. around.sound other holder (in_pre airport pre post other here) in') in
    let last : conflicts airport (filter free (all_parts_on airport post)) holder ≡ [] =
    no_blockings airport free (all_parts_on airport post) holder (λ other here. around.sound other holder (in_post airport pre post other here) in') in
    sym (blockings_staying airport pre post own holder ∙ rw (first, last) (append-nil (conflicts airport own holder)))

-- a part of the changed visit is blocked by what its actual parts leave of the others
own_blockings : (airport : AirportParts) (pre post : List Visit) (changed : Visit) (ks : List Ranked) (holder : Ranked) → Around airport pre post changed
    → Among holder (parts_on airport changed)
    → conflicts airport (left_of airport pre post changed) holder
    ≡ conflicts airport (staying airport pre post (filter (is_free (blocks airport) ks) (parts_on airport changed))) holder
own_blockings airport pre post changed ks holder around in' =
    let own : List Ranked = filter (is_free (blocks airport) ks) (parts_on airport changed) in
    let given : Ranked → Option Conflict = λ other. conflict airport other holder in
    let left : Ranked → Bool = is_free (blocks airport) (actual_parts airport changed) in
    let stays : Ranked → Bool = is_free (blocks airport) own in
    let mine : conflicts airport own holder ≡ [] =
    none_given given own (λ other here. own_unblocked airport other holder
    ((part_of airport changed other (filter_among (is_free (blocks airport) ks) other (parts_on airport changed) here).1).number ∙ sym (part_of airport changed holder in').number)) in
    let first : filter_map given (filter left (all_parts_on airport pre)) ≡ filter_map given (filter stays (all_parts_on airport pre)) =
    given_within left stays given (all_parts_on airport pre) (λ other here b. sym (left_same airport pre post changed ks other holder around (in_pre airport pre post other here) in' b)) in
    let last : filter_map given (filter left (all_parts_on airport post)) ≡ filter_map given (filter stays (all_parts_on airport post)) =
    given_within left stays given (all_parts_on airport post) (λ other here b. sym (left_same airport pre post changed ks other holder around (in_post airport pre post other here) in' b)) in
    let whole : conflicts airport (staying airport pre post own) holder ≡ filter_map given (filter stays (all_parts_on airport pre)) ++ filter_map given (filter stays (all_parts_on airport post)) =
    blockings_staying airport pre post own holder
    ∙ ap (λ xs. filter_map given (filter stays (all_parts_on airport pre)) ++ (xs ++ filter_map given (filter stays (all_parts_on airport post)))) mine in
    let both_same : filter_map given (filter left (all_parts_on airport pre)) ++ filter_map given (filter left (all_parts_on airport post))
    ≡ filter_map given (filter stays (all_parts_on airport pre)) ++ filter_map given (filter stays (all_parts_on airport post)) = rw (first, last) refl in
    ap (λ parts. filter_map given (filter left parts)) (parts_append airport pre post)
    ∙ (ap (filter_map given) (filter-append left (all_parts_on airport pre) (all_parts_on airport post))
    ∙ (filter_map-append given (filter left (all_parts_on airport pre)) (filter left (all_parts_on airport post))
    ∙ (both_same ∙ sym whole)))

-- the others and the changed visit, each settled near the change
abbrev near_parts : AirportParts → ℕ → List Visit → List Visit → Visit → List Visit
near_parts airport entry pre post new =
    map (settled_visit airport entry (parts_on airport new)) pre ++ (new ∷ map (settled_visit airport entry (parts_on airport new)) post)

near_staying : (airport : AirportParts) (entry : ℕ) (pre post : List Visit) (new : Visit)
    → all_parts_on airport (near_parts airport entry pre post new) ≡ staying airport pre post (parts_on airport new)
near_staying airport entry pre post new =
    let own : List Ranked = parts_on airport new in
    parts_append airport (map (settled_visit airport entry own) pre) (new ∷ map (settled_visit airport entry own) post)
    ∙ rw (all_left airport entry own pre, all_left airport entry own post) refl

near_join : (f g : Visit → Visit) (pre post : List Visit) (changed new : Visit) → map f pre ≡ map g pre → new ≡ g changed → map f post ≡ map g post
    → map f pre ++ (new ∷ map f post) ≡ map g (pre ++ changed ∷ post)
near_join f g pre post changed new first middle last = rw (first, middle, last) (sym (map_append g pre (changed ∷ post)))

near_fixed : (airport : AirportParts) (entry : ℕ) (pre post : List Visit) (changed new : Visit) → Around airport pre post changed
    → new ≡ settled_visit airport entry (left_of airport pre post changed) changed
    → near_parts airport entry pre post new ≡ map (settled_visit airport entry (all_parts_on airport (near_parts airport entry pre post new))) (pre ++ changed ∷ post)
near_fixed airport entry pre post changed new around is =
    let own : List Ranked = parts_on airport new in
    let kept : List Ranked = staying airport pre post own in
    let left : List Ranked = left_of airport pre post changed in
    let own_is : own ≡ filter (is_free (blocks airport) left) (parts_on airport changed) = ap (parts_on airport) is ∙ parts_left airport entry left changed in
    let first : map (settled_visit airport entry own) pre ≡ map (settled_visit airport entry kept) pre =
    visits_same airport entry own kept pre (λ holder in'. other_blockings airport pre post changed own holder around (in_pre airport pre post holder in')) in
    let last : map (settled_visit airport entry own) post ≡ map (settled_visit airport entry kept) post =
    visits_same airport entry own kept post (λ holder in'. other_blockings airport pre post changed own holder around (in_post airport pre post holder in')) in
    let middle : new ≡ settled_visit airport entry kept changed =
    is ∙ visit_same airport entry left kept changed (λ holder in'. own_blockings airport pre post changed left holder around in'
    ∙ ap (λ mine. conflicts airport (staying airport pre post mine) holder) (sym own_is)) in
    near_join (settled_visit airport entry own) (settled_visit airport entry kept) pre post changed new first middle last
    ∙ ap (λ parts. map (settled_visit airport entry parts) (pre ++ changed ∷ post)) (sym (near_staying airport entry pre post new))

-- the visits before and after the one of a number
pub record Split (visits : List Visit) (base wanted : ℕ) : Type 0 where
  pub pre : List Visit
  pub at : Visit
  pub post : List Visit
  pub is : visits ≡ pre ++ at ∷ post
  pub number : at.number.0 ≡ wanted
  pub before : Apart wanted pre
  pub after : Apart wanted post

above_apart : (base wanted : ℕ) (visits : List Visit) → wanted ≤ base → IsNumberedAbove base visits → Apart wanted visits
above_apart base wanted [] le h = tt
above_apart base wanted (visit ∷ visits) le h = (λ e. omega (arith, h.0), above_apart (base + 1) wanted visits (omega arith) h.1)

here_or_later : (base wanted : ℕ) → base < wanted → (wanted ≡ base + 1) ⊎ (base + 1 < wanted)
here_or_later base wanted h = grind arith

pub split_at : (base wanted : ℕ) (visits : List Visit) → IsNumberedAbove base visits → base < wanted → wanted ≤ base + length visits
    → Split visits base wanted
split_at base wanted [] h low high = absurd (omega arith)
split_at base wanted (visit ∷ visits) h low high = elim (here_or_later base wanted low) [
  | inl here ↦ record {
    pre = [];
    at = visit;
    post = visits;
    is = refl;
    number = h.0 ∙ sym here;
    before = tt;
    after = above_apart (base + 1) wanted visits (omega arith) h.1;
  }
  | inr later ↦
      let more : Split visits (base + 1) wanted = split_at (base + 1) wanted visits h.1 later (omega arith) in
      record {
        pre = visit ∷ more.pre;
        at = more.at;
        post = more.post;
        is = ap (λ vs. visit ∷ vs) more.is;
        number = more.number;
        before = (λ e. omega (arith, h.0), more.before);
        after = more.after;
      }
]

number_by : (m : VisitNo) (v : Visit) (b : Bool) → has_number m v ≡ b → (v.number.0 ≡ m.0 → ⊥) → b ≡ false
number_by m v true is h = absurd (h (grind (arith, nat_tests)))
number_by m v false is h = refl

not_number : (m : VisitNo) (v : Visit) → (v.number.0 ≡ m.0 → ⊥) → has_number m v ≡ false
not_number m v h = number_by m v (has_number m v) refl h

others_apart : (visits : List Visit) (changed : Visit) → Apart changed.number.0 visits → others visits changed ≡ visits
others_apart [] changed h = refl
others_apart (v ∷ visits) changed h = rw (not_number changed.number v h.0) (ap (λ vs. v ∷ vs) (others_apart visits changed h.1))

is_number : (m : VisitNo) (v : Visit) → v.number.0 ≡ m.0 → has_number m v ≡ true
is_number m v h = grind (arith, nat_tests)

pub others_around : (pre post : List Visit) (old changed : Visit) → Apart changed.number.0 pre → Apart changed.number.0 post → old.number.0 ≡ changed.number.0
    → others (pre ++ old ∷ post) changed ≡ pre ++ post
others_around pre post old changed before after same =
    filter-append (λ visit. not (has_number changed.number visit)) pre (old ∷ post)
    ∙ rw (others_apart pre changed before, is_number changed.number old same, others_apart post changed after) refl

-- a visit is put in the place of the one of its number
pub put_at : (pre post : List Visit) (old new : Visit) → Apart new.number.0 pre → old.number.0 ≡ new.number.0
    → with_visit (pre ++ old ∷ post) new ≡ pre ++ new ∷ post
put_at [] post old new apart same = rw (is_number new.number old same) refl
put_at (visit ∷ pre) post old new apart same = rw (not_number new.number visit apart.0) (ap (λ vs. visit ∷ vs) (put_at pre post old new apart.1 same))

near_apart : (airport : AirportParts) (entry : ℕ) (new : Visit) (visits : List Visit) → Apart new.number.0 visits
    → map (visit_near airport entry new) visits ≡ map (settled_visit airport entry (parts_on airport new)) visits
near_apart airport entry new [] h = refl
near_apart airport entry new (v ∷ visits) h = rw (not_number new.number v h.0, near_apart airport entry new visits h.1) refl

near_around : (airport : AirportParts) (entry : ℕ) (new : Visit) (pre post : List Visit) (old : Visit) → Apart new.number.0 pre → Apart new.number.0 post
    → old.number.0 ≡ new.number.0
    → map (visit_near airport entry new) (pre ++ old ∷ post) ≡ near_parts airport entry pre post new
near_around airport entry new pre post old before after same =
    map_append (visit_near airport entry new) pre (old ∷ post)
    ∙ rw (near_apart airport entry new pre before, is_number new.number old same, near_apart airport entry new post after) refl

pub around_of : (airport : AirportParts) (pre post : List Visit) (old changed : Visit) → Apart changed.number.0 pre → Apart changed.number.0 post
    → IsSound airport (slots_of airport (pre ++ old ∷ post)) → Around airport pre post changed
around_of airport pre post old changed before after sound =
    let whole : List Visit = pre ++ old ∷ post in
    let all : (holder : Ranked) → Among holder (rest_parts airport pre post) → Among holder (all_parts_on airport whole) =
    λ holder in'. among_along holder _ _ (sym (parts_append airport pre (old ∷ post)))
    (elim (among_cases holder (all_parts_on airport pre) (all_parts_on airport post) (among_along holder _ _ (parts_append airport pre post) in')) [
      | inl here ↦ among_left holder (all_parts_on airport pre) (all_parts_on airport (old ∷ post)) here
      | inr there ↦
          among_right holder (all_parts_on airport pre) (all_parts_on airport (old ∷ post)) (among_right holder (parts_on airport old) (all_parts_on airport post) there)
    ]) in
    record { before = before; after = after; sound = λ other holder cq cp. sound_unblocked airport whole other holder sound (all other cq) (all holder cp) }

near_by : (airport : AirportParts) (entry : ℕ) (pre post : List Visit) (old changed : Visit) → Apart changed.number.0 pre → Apart changed.number.0 post
    → old.number.0 ≡ changed.number.0
    → IsSound airport (slots_of airport (pre ++ old ∷ post))
    → settled_near airport entry (pre ++ old ∷ post) changed ≡ settle airport entry (with_visit (pre ++ old ∷ post) changed)
near_by airport entry pre post old changed before after same sound =
    let left : List Ranked = left_of airport pre post changed in
    let new : Visit = settled_visit airport entry left changed in
    let put : with_visit (pre ++ old ∷ post) changed ≡ pre ++ changed ∷ post = put_at pre post old changed before same in
    rw (others_around pre post old changed before after same, put)
    (near_around airport entry new pre post old before after same
    ∙ fixed_settled airport entry (pre ++ changed ∷ post) (near_parts airport entry pre post new)
    (near_fixed airport entry pre post changed new (around_of airport pre post old changed before after sound) refl))

near_split : (airport : AirportParts) (entry : ℕ) (visits : List Visit) (changed : Visit) → Split visits 0 changed.number.0
    → IsSound airport (slots_of airport visits) → settled_near airport entry visits changed ≡ settle airport entry (with_visit visits changed)
near_split airport entry visits changed at sound =
    let P : List Visit → Type 0 =
    λ vs. IsSound airport (slots_of airport vs) → settled_near airport entry vs changed ≡ settle airport entry (with_visit vs changed) in
    subst P (sym at.is) (near_by airport entry at.pre at.post at.at changed at.before at.after at.number) sound

-- settling near the changed visit is settling
pub near_settled : (airport : AirportParts) (entry : ℕ) (visits : List Visit) (changed : Visit) → IsNumbered visits → 1 ≤ changed.number.0
    → changed.number.0 ≤ length visits → IsSound airport (slots_of airport visits)
    → settled_near airport entry visits changed ≡ settle airport entry (with_visit visits changed)
near_settled airport entry visits changed numbered low high sound =
    near_split airport entry visits changed (split_at 0 changed.number.0 visits numbered (omega arith) (omega arith)) sound
