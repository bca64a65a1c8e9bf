-- The lists of clashes decide what settling near the changed visit makes.
use Rattle.std.proofs.Common.{◌≡◌, ◌∙◌, ◌≤◌, ◌+◌, ◌==◌, ◌++◌, ◌∷◌, [], ℕ, Bool, true, false, ◌&&◌, ◌||◌, List, Option, Some, None, length, map, refl, sym, ap, arith, inl, inr, if◌then◌else◌}
use Rattle.std.specs.Prelude.{filter, filter_map, flat_map, is_some, not, option_map, option_to_list}
use Rattle.std.specs.List.{cons_option, list_any}
use Rattle.std.proofs.lemmas.Bool.Decides.{nat_tests}
use Rattle.std.proofs.lemmas.List.Folds.{list_any-append}
use Rattle.std.proofs.lemmas.List.Concat.{flat_map-append}
use Rattle.std.proofs.lemmas.List.Elements.{filter-append, filter_map-append}
use Rattle.apron_base.specs.declared.numbers.PartId.{PartId}
use Rattle.apron_base.specs.declared.numbers.VisitNo.{VisitNo}
use Rattle.apron_rules.specs.declared.parts.AirportParts.{AirportParts}
use Rattle.apron_rules.specs.Clash.{IsSound}
use Rattle.apron_base.specs.declared.slot.Slot.{Slot}
use Rattle.apron_rules.specs.declared.rules.Meeting.{Meeting}
use Rattle.clash_check.specs.Meetings.{meeting}
use Rattle.clash_check.proofs.Meetings.{meeting_sym}
use Rattle.visit_book.specs.declared.visits.Part.{Part}
use Rattle.visit_book.specs.declared.visits.Place.{Place}
use Rattle.visit_book.specs.declared.visits.Place.TheVariants.{Unplaced, Planned, Actual}
use Rattle.visit_book.specs.declared.visits.Visit.{Visit}
use Rattle.visit_book.specs.Numbers.{IsNumbered, has_number, with_visit}
use Rattle.visit_book.specs.Slots.{slot_on, slots_from, slots_of}
use Rattle.plan_core.specs.Edits.{part_at_place}
use Rattle.bump_core.specs.declared.ranks.Conflict.{Conflict}
use Rattle.bump_core.specs.declared.ranks.KeptClash.{KeptClash}
use Rattle.bump_core.specs.declared.ranks.Ranked.{Ranked}
use Rattle.bump_core.specs.Lists.{against_others, against_own, kept_clashes_of_parts, by_other, by_own, after_by, is_blocked, is_in, is_of, is_taken, kept_clash, kept_clashes_of_part, parts_by, place_by, takes, visit_by}
use Rattle.bump_core.specs.Near.{actual_parts, changed_near, left_by, others, visit_near}
use Rattle.bump_core.specs.Ranks.{all_parts_on, blocks, conflict, is_free, may_block, parts_on, ranked_part}
use Rattle.bump_core.specs.Settle.{best, conflicts, place_after, settle, settled_parts, settled_place, settled_visit}
use Rattle.bump_core.proofs.Blockers.{among_along, among_left, among_right, map_append, none_any, parts_left, slots_at, some_any}
use Rattle.bump_core.proofs.Distinct.{Distinct, Other, any_one, distinct_all, distinct_parts, flat_none, flat_one, same_self}
use Rattle.bump_core.proofs.Near.{near_settled, own_unblocked, part_of}
use Rattle.bump_core.proofs.Rounds.{Among, any_filter, any_same}

-- A visit by what blocks its parts.

by_place : (airport : AirportParts) (entry : ℕ) (found : List Conflict) (kept : List Ranked) (visit : Visit) (number : ℕ) (part : Part) (place : Place)
    → ((holder : Ranked) → Among holder (map (ranked_part visit) (slots_at airport visit number (part_at_place place part))) → filter (is_of holder.slot.part) found ≡ conflicts airport kept holder)
    → place_by entry found (record { visit = visit.number; part = number }) place ≡ settled_place airport entry kept visit number (part_at_place place part) place
by_place airport entry found kept visit number part (Unplaced bump) h = refl
by_place airport entry found kept visit number part (Actual stand) h = refl
by_place airport entry found kept visit number part (Planned stand) h =
    ap (λ bs. place_after entry stand (best bs)) (h (ranked_part visit (slot_on airport visit number (part_at_place (Planned stand) part) stand)) (inl refl))

by_parts : (airport : AirportParts) (entry : ℕ) (found : List Conflict) (kept : List Ranked) (visit : Visit) (number : ℕ) (parts : List Part)
    → ((holder : Ranked) → Among holder (map (ranked_part visit) (slots_from airport visit number parts)) → filter (is_of holder.slot.part) found ≡ conflicts airport kept holder)
    → parts_by entry found visit.number number parts ≡ settled_parts airport entry kept visit number parts
by_parts airport entry found kept visit number [] h = refl
by_parts airport entry found kept visit number (part ∷ parts) h =
    let here : List Slot = slots_at airport visit number part in
    let more : List Slot = slots_from airport visit (number + 1) parts in
    let whole : map (ranked_part visit) (here ++ more) ≡ map (ranked_part visit) here ++ map (ranked_part visit) more = map_append (ranked_part visit) here more in
    let first : place_by entry found (record { visit = visit.number; part = number }) part.place ≡ settled_place airport entry kept visit number part part.place =
    by_place airport entry found kept visit number part part.place
    (λ holder in'. h holder (among_along holder _ _ (sym whole) (among_left holder (map (ranked_part visit) here) (map (ranked_part visit) more) in'))) in
    let rest : parts_by entry found visit.number (number + 1) parts ≡ settled_parts airport entry kept visit (number + 1) parts =
    by_parts airport entry found kept visit (number + 1) parts
    (λ holder in'. h holder (among_along holder _ _ (sym whole) (among_right holder (map (ranked_part visit) here) (map (ranked_part visit) more) in'))) in
    rw (first, rest) refl

-- a visit is settled by the list of what blocks its parts
pub by_same : (airport : AirportParts) (entry : ℕ) (found : List Conflict) (kept : List Ranked) (visit : Visit)
    → ((holder : Ranked) → Among holder (parts_on airport visit) → filter (is_of holder.slot.part) found ≡ conflicts airport kept holder)
    → visit_by entry found visit ≡ settled_visit airport entry kept visit
by_same airport entry found kept visit h =
    ap (λ (parts : List Part). let v : Visit = record visit { parts = parts } in v) (by_parts airport entry found kept visit 1 visit.parts h)

-- Lists that are sifted, item by item.

-- what comes of one item
abbrev sifted : {X Y Z : Type 0} → (Z → Bool) → (Y → Option Z) → (Y → Bool) → (X → Option Y) → X → List Z
sifted t a l m x = filter t (filter_map a (filter l (option_to_list (m x))))

cons_append : {Y : Type 0} (found : Option Y) (ys : List Y) → cons_option found ys ≡ option_to_list found ++ ys
cons_append (Some y) ys = refl
cons_append None ys = refl

sift_append : {Y Z : Type 0} (t : Z → Bool) (a : Y → Option Z) (l : Y → Bool) (xs ys : List Y)
    → filter t (filter_map a (filter l (xs ++ ys))) ≡ filter t (filter_map a (filter l xs)) ++ filter t (filter_map a (filter l ys))
sift_append t a l xs ys =
    ap (λ zs. filter t (filter_map a zs)) (filter-append l xs ys)
    ∙ (ap (filter t) (filter_map-append a (filter l xs) (filter l ys))
    ∙ filter-append t (filter_map a (filter l xs)) (filter_map a (filter l ys)))

sift_each : {X Y Z : Type 0} (t : Z → Bool) (a : Y → Option Z) (l : Y → Bool) (m : X → Option Y) (xs : List X)
    → filter t (filter_map a (filter l (filter_map m xs))) ≡ flat_map (sifted t a l m) xs
sift_each t a l m [] = refl
sift_each t a l m (x ∷ xs) =
    ap (λ ys. filter t (filter_map a (filter l ys))) (cons_append (m x) (filter_map m xs))
    ∙ (sift_append t a l (option_to_list (m x)) (filter_map m xs)
    ∙ ap (λ zs. sifted t a l m x ++ zs) (sift_each t a l m xs))

sift_all : {W X Y Z : Type 0} (t : Z → Bool) (a : Y → Option Z) (l : Y → Bool) (m : W → X → Option Y) (ws : List W) (xs : List X)
    → filter t (filter_map a (filter l (flat_map (λ w. filter_map (m w) xs) ws))) ≡ flat_map (λ w. flat_map (sifted t a l (m w)) xs) ws
sift_all t a l m [] xs = refl
sift_all t a l m (w ∷ ws) xs =
    sift_append t a l (filter_map (m w) xs) (flat_map (λ w. filter_map (m w) xs) ws)
    ∙ rw (sift_each t a l (m w) xs, sift_all t a l m ws xs) refl

-- what a test lets through
abbrev let_by : {X Z : Type 0} → (X → Bool) → (X → Option Z) → X → List Z
let_by f h x = if f x then option_to_list (h x) else []

let_first : {X Z : Type 0} (f : X → Bool) (h : X → Option Z) (x : X) (xs : List X) (b : Bool) → f x ≡ b
    → filter_map h (filter f xs) ≡ flat_map (let_by f h) xs
    → filter_map h (filter f (x ∷ xs)) ≡ flat_map (let_by f h) (x ∷ xs)
let_first f h x xs true is rest = rw (is, rest) (cons_append (h x) (flat_map (let_by f h) xs))
let_first f h x xs false is rest = rw (is, rest) refl

let_all : {X Z : Type 0} (f : X → Bool) (h : X → Option Z) (xs : List X) → filter_map h (filter f xs) ≡ flat_map (let_by f h) xs
let_all f h [] = refl
let_all f h (x ∷ xs) = let_first f h x xs (f x) refl (let_all f h xs)

flat_same : {X Z : Type 0} (f g : X → List Z) (xs : List X) → ((x : X) → Among x xs → f x ≡ g x) → flat_map f xs ≡ flat_map g xs
flat_same f g [] h = refl
flat_same f g (x ∷ xs) h = let rest : flat_map f xs ≡ flat_map g xs = flat_same f g xs (λ y in'. h y (inr in')) in rw (h x (inl refl), rest) refl

any_append : {X : Type 0} (g : X → Bool) (xs ys : List X) → list_any g (xs ++ ys) ≡ (list_any g xs || list_any g ys)
any_append g xs ys = list_any-append g xs ys

any_flat : {X Y : Type 0} (g : Y → Bool) (f : X → List Y) (xs : List X) → list_any g (flat_map f xs) ≡ list_any (λ x. list_any g (f x)) xs
any_flat g f [] = refl
any_flat g f (x ∷ xs) = any_append g (f x) (flat_map f xs) ∙ ap (λ b. list_any g (f x) || b) (any_flat g f xs)

-- whether an item gives something that passes
abbrev passes : {X Y : Type 0} → (Y → Bool) → (X → Option Y) → X → Bool
passes g m x = list_any g (option_to_list (m x))

any_given : {X Y : Type 0} (g : Y → Bool) (m : X → Option Y) (xs : List X) → list_any g (filter_map m xs) ≡ list_any (passes g m) xs
any_given g m [] = refl
any_given g m (x ∷ xs) =
    ap (list_any g) (cons_append (m x) (filter_map m xs))
    ∙ (any_append g (option_to_list (m x)) (filter_map m xs) ∙ ap (λ b. passes g m x || b) (any_given g m xs))

none_of : (a b : Bool) → ((a && (b && false)) || false) ≡ false
none_of true true = refl
none_of true false = refl
none_of false b = refl

and_last : (a : Bool) → (a && false) ≡ false
and_last true = refl
and_last false = refl

or_last : (a : Bool) → (a || false) ≡ a
or_last true = refl
or_last false = refl

nothing : (pass may : Bool) (f : Meeting → Conflict) → [] ≡ (if pass then option_to_list (if may then option_map f None else None) else [])
nothing true true f = refl
nothing true false f = refl
nothing false may f = refl

let_nothing_by : {X Z : Type 0} (h : X → Option Z) (x : X) (b : Bool) → h x ≡ None → (if b then option_to_list (h x) else []) ≡ []
let_nothing_by h x true e = rw e refl
let_nothing_by h x false e = refl

let_nothing : {X Z : Type 0} (f : X → Bool) (h : X → Option Z) (x : X) → h x ≡ None → let_by f h x ≡ []
let_nothing f h x e = let_nothing_by h x (f x) e

-- the list has an item
abbrev pub is_some_item : {X : Type 0} → List X → Bool
is_some_item [] = false
is_some_item (x ∷ xs) = true

some_filter_first : {X : Type 0} (f : X → Bool) (x : X) (xs ys : List X) (b : Bool) → f x ≡ b
    → ((ys : List X) → filter f xs ≡ ys → list_any f xs ≡ is_some_item ys)
    → filter f (x ∷ xs) ≡ ys → list_any f (x ∷ xs) ≡ is_some_item ys
some_filter_first f x xs [] true is rest e = let whole : x ∷ filter f xs ≡ [] = rw is at e in absurd (cc)
some_filter_first f x xs (y ∷ ys) true is rest e = rw is refl
some_filter_first f x xs ys false is rest e = rw is (rest ys (rw is at e))

-- Whether an actual own part takes the stand of another.

meet_own : (other : Ranked) (mine x : Ranked) (found : Option Meeting) → Other other x
    → list_any (takes other) (option_to_list (option_map (λ (at : Meeting). let m : KeptClash = record { own = mine; other = x; minute = at.minute; rule = at.rule } in m) found)) ≡ false
meet_own other mine x None h = refl
meet_own other mine x (Some at) h = rw h (none_of mine.slot.actual (may_block mine x))

takes_other : (airport : AirportParts) (other mine x : Ranked) → Other other x → passes (takes other) (kept_clash airport mine) x ≡ false
unfolding kept_clash
takes_other airport other mine x h = meet_own other mine x (meeting airport mine.slot x.slot) h

take_case : (other mine : Ranked) (may : Bool) (found : Option Meeting) → may_block mine other ≡ may
    → list_any (takes other) (option_to_list (option_map (λ (at : Meeting). let m : KeptClash = record { own = mine; other = other; minute = at.minute; rule = at.rule } in m) found))
    ≡ (mine.slot.actual && is_some (if may then option_map (λ (at : Meeting). let b : Conflict = record { blocker = mine; blocked = other; minute = at.minute; rule = at.rule } in b) found else None))
take_case other mine true None is = sym (and_last mine.slot.actual)
take_case other mine false None is = sym (and_last mine.slot.actual)
take_case other mine true (Some at) is = rw (is, same_self other.slot.part) (or_last (mine.slot.actual && true))
take_case other mine false (Some at) is = rw is (or_last (mine.slot.actual && false))

takes_own : (airport : AirportParts) (other mine : Ranked) → passes (takes other) (kept_clash airport mine) other ≡ (mine.slot.actual && blocks airport mine other)
unfolding kept_clash conflict
takes_own airport other mine = take_case other mine (may_block mine other) (meeting airport mine.slot other.slot) refl

-- it is taken if an actual own part blocks it
taken_is : (airport : AirportParts) (owns parts : List Ranked) (other : Ranked) → Distinct parts → Among other parts
    → is_taken (kept_clashes_of_parts airport owns parts) other ≡ list_any (λ mine. blocks airport mine other) (filter (λ (mine : Ranked). mine.slot.actual) owns)
taken_is airport owns parts other d in' =
    any_flat (takes other) (kept_clashes_of_part airport parts) owns
    ∙ (any_same (λ mine. list_any (takes other) (kept_clashes_of_part airport parts mine)) (λ mine. mine.slot.actual && blocks airport mine other) owns
    (λ mine here. any_given (takes other) (kept_clash airport mine) parts
    ∙ (any_one (passes (takes other) (kept_clash airport mine)) parts other d in' (λ x there h. takes_other airport other mine x h) ∙ takes_own airport other mine))
    ∙ sym (any_filter (λ (mine : Ranked). mine.slot.actual) (λ mine. blocks airport mine other) owns))

-- What blocks own parts.

abbrev met_of : Ranked → Ranked → Meeting → KeptClash
met_of mine x at = record { own = mine; other = x; minute = at.minute; rule = at.rule }

abbrev blocking_of : Ranked → Ranked → Meeting → Conflict
blocking_of mine x at = record { blocker = mine; blocked = x; minute = at.minute; rule = at.rule }

own_other_case : (holder mine x : Ranked) (l : KeptClash → Bool) (found : Option Meeting) (pass may : Bool) (at : Meeting) → Other holder mine
    → l (met_of mine x at) ≡ pass → may_block x mine ≡ may → filter (is_of holder.slot.part) (filter_map by_other (filter l (met_of mine x at ∷ []))) ≡ []
own_other_case holder mine x l found false may at h is e = rw is refl
own_other_case holder mine x l found true false at h is e = rw (is, e) refl
own_other_case holder mine x l found true true at h is e = rw (is, e, h) refl

own_other_found : (holder mine x : Ranked) (l : KeptClash → Bool) (found : Option Meeting) → Other holder mine
    → filter (is_of holder.slot.part) (filter_map by_other (filter l (option_to_list (option_map (met_of mine x) found)))) ≡ []
own_other_found holder mine x l None h = refl
own_other_found holder mine x l (Some at) h = own_other_case holder mine x l (Some at) (l (met_of mine x at)) (may_block x mine) at h refl refl

own_other : (airport : AirportParts) (holder mine x : Ranked) (l : KeptClash → Bool) → Other holder mine
    → sifted (is_of holder.slot.part) by_other l (kept_clash airport mine) x ≡ []
unfolding kept_clash
own_other airport holder mine x l h = own_other_found holder mine x l (meeting airport mine.slot x.slot) h

own_case : (holder other : Ranked) (l : KeptClash → Bool) (pass may : Bool) (at : Meeting) → l (met_of holder other at) ≡ pass → may_block other holder ≡ may
    → filter (is_of holder.slot.part) (filter_map by_other (filter l (met_of holder other at ∷ [])))
    ≡ (if pass then option_to_list (if may then Some (blocking_of other holder at) else None) else [])
own_case holder other l false may at is e = rw is refl
own_case holder other l true false at is e = rw (is, e) refl
own_case holder other l true true at is e = rw (is, e, same_self holder.slot.part) refl

own_found : (holder other : Ranked) (l : KeptClash → Bool) (pass : Bool) (found : Option Meeting) → ((at : Meeting) → l (met_of holder other at) ≡ pass)
    → filter (is_of holder.slot.part) (filter_map by_other (filter l (option_to_list (option_map (met_of holder other) found))))
    ≡ (if pass then option_to_list (if may_block other holder then option_map (blocking_of other holder) found else None) else [])
own_found holder other l pass None is = nothing pass (may_block other holder) (blocking_of other holder)
own_found holder other l pass (Some at) is = own_case holder other l pass (may_block other holder) at (is at) refl

own_is : (airport : AirportParts) (holder other : Ranked) (l : KeptClash → Bool) (pass : Bool) → ((at : Meeting) → l (met_of holder other at) ≡ pass)
    → sifted (is_of holder.slot.part) by_other l (kept_clash airport holder) other ≡ (if pass then option_to_list (conflict airport other holder) else [])
unfolding kept_clash conflict
own_is airport holder other l pass is =
    own_found holder other l pass (meeting airport holder.slot other.slot) is
    ∙ ap (λ found. if pass then option_to_list (if may_block other holder then option_map (blocking_of other holder) found else None) else []) (meeting_sym airport holder.slot other.slot)

number_is : (m : VisitNo) (visit : Visit) → has_number m visit ≡ true → visit.number.0 ≡ m.0
number_is m visit h = grind (arith, nat_tests)

others_first : {Y : Type 0} (airport : AirportParts) (g : Ranked → List Y) (visit : Visit) (visits : List Visit) (changed : Visit) (b : Bool)
    → has_number changed.number visit ≡ b → ((other : Ranked) → other.slot.part.visit.0 ≡ changed.number.0 → g other ≡ [])
    → flat_map g (all_parts_on airport visits) ≡ flat_map g (all_parts_on airport (others visits changed))
    → flat_map g (parts_on airport visit) ++ flat_map g (all_parts_on airport visits) ≡ flat_map g (all_parts_on airport (others (visit ∷ visits) changed))
others_first airport g visit visits changed true is h rest =
    let none : flat_map g (parts_on airport visit) ≡ [] =
    flat_none g (parts_on airport visit) (λ other in'. h other ((part_of airport visit other in').number ∙ number_is changed.number visit is)) in
    rw (is, none) rest
others_first airport g visit visits changed false is h rest =
    rw (is, rest) (sym (flat_map-append g (parts_on airport visit) (all_parts_on airport (others visits changed))))

others_flat : {Y : Type 0} (airport : AirportParts) (g : Ranked → List Y) (visits : List Visit) (changed : Visit)
    → ((other : Ranked) → other.slot.part.visit.0 ≡ changed.number.0 → g other ≡ [])
    → flat_map g (all_parts_on airport visits) ≡ flat_map g (all_parts_on airport (others visits changed))
others_flat airport g [] changed h = refl
others_flat airport g (visit ∷ visits) changed h =
    flat_map-append g (parts_on airport visit) (all_parts_on airport visits)
    ∙ others_first airport g visit visits changed (has_number changed.number visit) refl h (others_flat airport g visits changed h)

-- the list of what blocks own parts is right for each of them
pub own_right : (airport : AirportParts) (visits : List Visit) (changed : Visit) (holder : Ranked) → IsNumbered visits
    → Among holder (parts_on airport changed)
    → filter (is_of holder.slot.part) (against_own (kept_clashes_of_parts airport (parts_on airport changed) (all_parts_on airport visits))) ≡ conflicts airport (left_by airport visits changed) holder
own_right airport visits changed holder numbered in' =
    let owns : List Ranked = parts_on airport changed in
    let parts : List Ranked = all_parts_on airport visits in
    let mets : List KeptClash = kept_clashes_of_parts airport owns parts in
    let test : KeptClash → Bool = λ m. not (is_taken mets m.other) in
    let free : Ranked → Bool = is_free (blocks airport) (actual_parts airport changed) in
    let given : Ranked → Option Conflict = λ other. conflict airport other holder in
    let one : flat_map (λ mine. flat_map (sifted (is_of holder.slot.part) by_other test (kept_clash airport mine)) parts) owns
    ≡ flat_map (sifted (is_of holder.slot.part) by_other test (kept_clash airport holder)) parts =
    flat_one (λ mine. flat_map (sifted (is_of holder.slot.part) by_other test (kept_clash airport mine)) parts) owns holder (distinct_parts airport changed) in'
    (λ mine there h. flat_none (sifted (is_of holder.slot.part) by_other test (kept_clash airport mine)) parts (λ x at. own_other airport holder mine x test h)) in
    let each : flat_map (sifted (is_of holder.slot.part) by_other test (kept_clash airport holder)) parts ≡ flat_map (let_by free given) parts =
    flat_same (sifted (is_of holder.slot.part) by_other test (kept_clash airport holder)) (let_by free given) parts
    (λ other there. own_is airport holder other test (free other) (λ at. ap not (taken_is airport owns parts other (distinct_all airport visits numbered) there))) in
    sift_all (is_of holder.slot.part) by_other test (λ mine. kept_clash airport mine) owns parts
    ∙ (one ∙ (each
    ∙ (others_flat airport (let_by free given) visits changed (λ other same. let_nothing free given other (own_unblocked airport other holder (same ∙ sym (part_of airport changed holder in').number)))
    ∙ sym (let_all free given (all_parts_on airport (others visits changed))))))

-- What own parts block.

pub some_filter : {X : Type 0} (f : X → Bool) (xs : List X) (ys : List X) → filter f xs ≡ ys → list_any f xs ≡ is_some_item ys
some_filter f [] [] e = refl
some_filter f [] (y ∷ ys) e = absurd (cc)
some_filter f (x ∷ xs) ys e = some_filter_first f x xs ys (f x) refl (some_filter f xs) e

free_item : (airport : AirportParts) (kept : List Ranked) (holder : Ranked) (bs : List Conflict) → conflicts airport kept holder ≡ bs
    → list_any (λ other. blocks airport other holder) kept ≡ is_some_item bs
free_item airport kept holder [] e = none_any (λ other. conflict airport other holder) kept e
free_item airport kept holder (b ∷ bs) e = some_any (λ other. conflict airport other holder) b kept bs e

blocked_is : (airport : AirportParts) (visits : List Visit) (changed : Visit) (holder : Ranked) → IsNumbered visits → Among holder (parts_on airport changed)
    → not (is_blocked (against_own (kept_clashes_of_parts airport (parts_on airport changed) (all_parts_on airport visits))) holder.slot.part)
    ≡ is_free (blocks airport) (left_by airport visits changed) holder
blocked_is airport visits changed holder numbered in' =
    let own : List Conflict = against_own (kept_clashes_of_parts airport (parts_on airport changed) (all_parts_on airport visits)) in
    let kept : List Ranked = left_by airport visits changed in
    ap not (some_filter (is_of holder.slot.part) own (conflicts airport kept holder) (own_right airport visits changed holder numbered in')
    ∙ sym (free_item airport kept holder (conflicts airport kept holder) refl))

their_other_case : (other mine x : Ranked) (l : KeptClash → Bool) (pass may : Bool) (at : Meeting) → Other other x
    → l (met_of mine x at) ≡ pass → may_block mine x ≡ may → filter (is_of other.slot.part) (filter_map by_own (filter l (met_of mine x at ∷ []))) ≡ []
their_other_case other mine x l false may at h is e = rw is refl
their_other_case other mine x l true false at h is e = rw (is, e) refl
their_other_case other mine x l true true at h is e = rw (is, e, h) refl

their_other_found : (other mine x : Ranked) (l : KeptClash → Bool) (found : Option Meeting) → Other other x
    → filter (is_of other.slot.part) (filter_map by_own (filter l (option_to_list (option_map (met_of mine x) found)))) ≡ []
their_other_found other mine x l None h = refl
their_other_found other mine x l (Some at) h = their_other_case other mine x l (l (met_of mine x at)) (may_block mine x) at h refl refl

their_other : (airport : AirportParts) (other mine x : Ranked) (l : KeptClash → Bool) → Other other x
    → sifted (is_of other.slot.part) by_own l (kept_clash airport mine) x ≡ []
unfolding kept_clash
their_other airport other mine x l h = their_other_found other mine x l (meeting airport mine.slot x.slot) h

their_case : (other mine : Ranked) (l : KeptClash → Bool) (pass may : Bool) (at : Meeting) → l (met_of mine other at) ≡ pass → may_block mine other ≡ may
    → filter (is_of other.slot.part) (filter_map by_own (filter l (met_of mine other at ∷ [])))
    ≡ (if pass then option_to_list (if may then Some (blocking_of mine other at) else None) else [])
their_case other mine l false may at is e = rw is refl
their_case other mine l true false at is e = rw (is, e) refl
their_case other mine l true true at is e = rw (is, e, same_self other.slot.part) refl

their_found : (other mine : Ranked) (l : KeptClash → Bool) (pass : Bool) (found : Option Meeting) → ((at : Meeting) → l (met_of mine other at) ≡ pass)
    → filter (is_of other.slot.part) (filter_map by_own (filter l (option_to_list (option_map (met_of mine other) found))))
    ≡ (if pass then option_to_list (if may_block mine other then option_map (blocking_of mine other) found else None) else [])
their_found other mine l pass None is = nothing pass (may_block mine other) (blocking_of mine other)
their_found other mine l pass (Some at) is = their_case other mine l pass (may_block mine other) at (is at) refl

their_is : (airport : AirportParts) (other mine : Ranked) (l : KeptClash → Bool) (pass : Bool) → ((at : Meeting) → l (met_of mine other at) ≡ pass)
    → sifted (is_of other.slot.part) by_own l (kept_clash airport mine) other ≡ (if pass then option_to_list (conflict airport mine other) else [])
unfolding kept_clash conflict
their_is airport other mine l pass is = their_found other mine l pass (meeting airport mine.slot other.slot) is

-- the list of what own parts block is right for each part of another visit
pub others_right : (airport : AirportParts) (entry : ℕ) (visits : List Visit) (changed : Visit) (other : Ranked) → IsNumbered visits
    → Among other (all_parts_on airport visits)
    → filter (is_of other.slot.part) (against_others (kept_clashes_of_parts airport (parts_on airport changed) (all_parts_on airport visits))
    (against_own (kept_clashes_of_parts airport (parts_on airport changed) (all_parts_on airport visits))))
    ≡ conflicts airport (parts_on airport (changed_near airport entry visits changed)) other
others_right airport entry visits changed other numbered in' =
    let owns : List Ranked = parts_on airport changed in
    let parts : List Ranked = all_parts_on airport visits in
    let mets : List KeptClash = kept_clashes_of_parts airport owns parts in
    let own : List Conflict = against_own mets in
    let kept : List Ranked = left_by airport visits changed in
    let test : KeptClash → Bool = λ m. not (is_blocked own m.own.slot.part) in
    let given : Ranked → Option Conflict = λ mine. conflict airport mine other in
    let free : Ranked → Bool = is_free (blocks airport) kept in
    let each : flat_map (λ mine. flat_map (sifted (is_of other.slot.part) by_own test (kept_clash airport mine)) parts) owns ≡ flat_map (let_by free given) owns =
    flat_same (λ mine. flat_map (sifted (is_of other.slot.part) by_own test (kept_clash airport mine)) parts) (let_by free given) owns
    (λ mine here. flat_one (sifted (is_of other.slot.part) by_own test (kept_clash airport mine)) parts other (distinct_all airport visits numbered) in' (λ x there h. their_other airport other mine x test h)
    ∙ their_is airport other mine test (free mine) (λ at. blocked_is airport visits changed mine numbered here)) in
    sift_all (is_of other.slot.part) by_own test (λ mine. kept_clash airport mine) owns parts
    ∙ (each
    ∙ (sym (let_all free given owns)
    ∙ ap (filter_map given) (sym (parts_left airport entry kept changed))))

-- A visit of which no part is blocked.

pub eq_turn : (m n : ℕ) → (m == n) ≡ false → (n == m) ≡ false
eq_turn m n h = grind (arith, nat_tests)

unhit_first : (visit : VisitNo) (number : ℕ) (conflict : Conflict) (found : List Conflict) (here same : Bool) → is_in visit.0 conflict ≡ here
    → (number == conflict.blocked.slot.part.part) ≡ same → (here || list_any (is_in visit.0) found) ≡ false
    → (list_any (is_in visit.0) found ≡ false → filter (is_of (record { visit = visit; part = number })) found ≡ [])
    → filter (is_of (record { visit = visit; part = number })) (conflict ∷ found) ≡ []
unhit_first visit number conflict found true same is e none rest = absurd (cc)
unhit_first visit number conflict found false same is e none rest =
    let apart : (visit.0 == conflict.blocked.slot.part.visit.0) ≡ false = eq_turn conflict.blocked.slot.part.visit.0 visit.0 is in rw apart (rest none)

unhit : (visit : VisitNo) (number : ℕ) (found : List Conflict) → list_any (is_in visit.0) found ≡ false
    → filter (is_of (record { visit = visit; part = number })) found ≡ []
unhit visit number [] none = refl
unhit visit number (conflict ∷ found) none =
    unhit_first visit number conflict found (is_in visit.0 conflict) (number == conflict.blocked.slot.part.part) refl refl none (unhit visit number found)

unhit_place : (entry : ℕ) (found : List Conflict) (id : PartId) (place : Place) → filter (is_of id) found ≡ [] → place_by entry found id place ≡ place
unhit_place entry found id (Unplaced bump) e = refl
unhit_place entry found id (Actual stand) e = refl
unhit_place entry found id (Planned stand) e = rw e refl

unhit_parts : (entry : ℕ) (found : List Conflict) (visit : VisitNo) (number : ℕ) (parts : List Part) → list_any (is_in visit.0) found ≡ false
    → parts_by entry found visit number parts ≡ parts
unhit_parts entry found visit number [] none = refl
unhit_parts entry found visit number (part ∷ parts) none =
    rw (
      unhit_place entry found (record { visit = visit; part = number }) part.place (unhit visit number found none),
      unhit_parts entry found visit (number + 1) parts none,
    ) refl

-- it stays as it is
pub unhit_visit : (entry : ℕ) (found : List Conflict) (visit : Visit) → list_any (is_in visit.number.0) found ≡ false → visit_by entry found visit ≡ visit
unhit_visit entry found visit none =
    ap (λ (parts : List Part). let v : Visit = record visit { parts = parts } in v) (unhit_parts entry found visit.number 1 visit.parts none)

-- All visits as they will be.

map_same : (f g : Visit → Visit) (visits : List Visit) → ((w : Visit) → Among w visits → f w ≡ g w) → map f visits ≡ map g visits
map_same f g [] h = refl
map_same f g (w ∷ visits) h = let rest : map f visits ≡ map g visits = map_same f g visits (λ v in'. h v (inr in')) in rw (h w (inl refl), rest) refl

in_all : (airport : AirportParts) (w : Visit) (visits : List Visit) (holder : Ranked) → Among w visits → Among holder (parts_on airport w)
    → Among holder (all_parts_on airport visits)
in_all airport w [] holder in' here = absurd in'
in_all airport w (v ∷ visits) holder in' here = elim in' [
  | inl first ↦ among_left holder (parts_on airport v) (all_parts_on airport visits) (among_along holder _ _ (ap (parts_on airport) first) here)
  | inr later ↦ among_right holder (parts_on airport v) (all_parts_on airport visits) (in_all airport w visits holder later here)
]

after_same : (entry : ℕ) (new w : Visit) (found : List Conflict) (x : Visit) (b : Bool) → visit_by entry found w ≡ x
    → (if b then new else visit_by entry found w) ≡ (if b then new else x)
after_same entry new w found x true e = refl
after_same entry new w found x false e = e

-- what the lists decide is what settling makes
pub decided : (airport : AirportParts) (entry : ℕ) (visits : List Visit) (changed new : Visit) (mets : List KeptClash) (own found : List Conflict)
    → IsNumbered visits
    → 1 ≤ changed.number.0 → changed.number.0 ≤ length visits → IsSound airport (slots_of airport visits)
    → mets ≡ kept_clashes_of_parts airport (parts_on airport changed) (all_parts_on airport visits) → own ≡ against_own mets → found ≡ against_others mets own
    → new ≡ visit_by entry own changed → map (after_by entry new found) visits ≡ settle airport entry (with_visit visits changed)
decided airport entry visits changed new mets own found numbered low high sound mets_are own_is found_is new_is =
    let all : List KeptClash = kept_clashes_of_parts airport (parts_on airport changed) (all_parts_on airport visits) in
    let own_all : own ≡ against_own all = own_is ∙ ap against_own mets_are in
    let found_all : found ≡ against_others all (against_own all) = found_is ∙ rw (own_all, mets_are) refl in
    let near : new ≡ changed_near airport entry visits changed =
    new_is ∙ (ap (λ bs. visit_by entry bs changed) own_all
    ∙ by_same airport entry (against_own all) (left_by airport visits changed) changed (λ holder in'. own_right airport visits changed holder numbered in')) in
    map_same (after_by entry new found) (visit_near airport entry new) visits
    (λ w in'. after_same entry new w found (settled_visit airport entry (parts_on airport new) w) (has_number new.number w)
    (by_same airport entry found (parts_on airport new) w
    (λ other here. ap (filter (is_of other.slot.part)) found_all
    ∙ (others_right airport entry visits changed other numbered (in_all airport w visits other in' here)
    ∙ ap (λ v. conflicts airport (parts_on airport v) other) (sym near)))))
    ∙ (ap (λ v. map (visit_near airport entry v) visits) near
    ∙ near_settled airport entry visits changed numbered low high sound)
