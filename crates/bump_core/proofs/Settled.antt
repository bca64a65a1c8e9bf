-- Settled visits are sound, and sound visits are settled.
use Rattle.std.proofs.Common.{◌≡◌, ◌∙◌, ◌⊎◌, ◌<◌, ◌==◌, ℕ, zero, suc, Bool, true, false, ◌&&◌, List, [], ◌∷◌, refl, sym, ap, arith, inl, inr, Option, None, Some, map, length, ◌↔◌, if◌then◌else◌, nat_lt, ◌||◌, subst}
use Rattle.std.specs.Prelude.{Contains, filter, filter_map, is_some, not, option_map}
use Rattle.std.specs.List.{list_any}
use Rattle.std.proofs.lemmas.Bool.Decides.{nat_tests}
use Rattle.std.proofs.lemmas.List.Elements.{All-contains, All-from_recursion}
use Rattle.std.specs.List.{AllByRecursion}
use Rattle.apron_base.specs.declared.slot.Slot.{Slot}
use Rattle.apron_rules.specs.declared.parts.AirportParts.{AirportParts}
use Rattle.apron_rules.specs.declared.rules.Rule.{Rule}
use Rattle.apron_rules.specs.Clash.{IsSound, rule_at}
use Rattle.apron_rules.proofs.Symmetry.{rule_at_sym}
use Rattle.apron_rules.specs.declared.rules.Meeting.{Meeting}
use Rattle.clash_check.specs.Meetings.{meeting}
use Rattle.bump_core.specs.Near.{meets}
use Rattle.clash_check.proofs.Meetings.{first_meeting, never_meeting}
use Rattle.visit_book.specs.declared.visits.Visit.{Visit}
use Rattle.visit_book.specs.Slots.{slots_of, slots_of_visit}
use Rattle.bump_core.specs.declared.ranks.Ranked.{Ranked}
use Rattle.bump_core.specs.declared.ranks.Conflict.{Conflict}
use Rattle.bump_core.specs.Ranks.{Stay, all_parts_on, blocks, blocks_before, conflict, is_free, is_lower, kept_of, parts_on, rank, ranked_part}
use Rattle.bump_core.specs.Settle.{settle, settled_visit}
use Rattle.bump_core.proofs.Rounds.{Among}
use Rattle.bump_core.proofs.Order.{blocking_tells, both, lower_first, lower_later, kept_are, kept_stay}
use Rattle.bump_core.proofs.Blockers.{all_left, among_along, map_append, visits_none, visits_same}

-- the parts on stands after settling are those that stay
pub settled_parts_stay : (airport : AirportParts) (entry : ℕ) (visits : List Visit)
    → all_parts_on airport (settle airport entry visits) ≡ kept_of airport (all_parts_on airport visits)
settled_parts_stay airport entry visits =
    all_left airport entry (kept_of airport (all_parts_on airport visits)) visits ∙ sym (kept_stay airport (all_parts_on airport visits))

stay_along : (airport : AirportParts) (parts kept other : List Ranked) → kept ≡ other → Stay airport parts other → Stay airport parts kept
stay_along airport parts kept other e h = rw e h

pub settled_stay : (airport : AirportParts) (entry : ℕ) (visits : List Visit)
    → Stay airport (all_parts_on airport visits) (all_parts_on airport (settle airport entry visits))
settled_stay airport entry visits =
    stay_along airport (all_parts_on airport visits) (all_parts_on airport (settle airport entry visits)) (kept_of airport (all_parts_on airport visits))
    (settled_parts_stay airport entry visits) (kept_stay airport (all_parts_on airport visits))

-- settled visits are those that are settled against themselves
pub settled_fixed : (airport : AirportParts) (entry : ℕ) (visits : List Visit)
    → settle airport entry visits ≡ map (settled_visit airport entry (all_parts_on airport (settle airport entry visits))) visits
settled_fixed airport entry visits = ap (λ kept. map (settled_visit airport entry kept) visits) (sym (settled_parts_stay airport entry visits))

pub fixed_settled : (airport : AirportParts) (entry : ℕ) (visits new : List Visit)
    → new ≡ map (settled_visit airport entry (all_parts_on airport new)) visits → new ≡ settle airport entry visits
fixed_settled airport entry visits new e =
    let stays : Stay airport (all_parts_on airport visits) (all_parts_on airport new) =
    ap (all_parts_on airport) e ∙ all_left airport entry (all_parts_on airport new) visits in
    e ∙ ap (λ kept. map (settled_visit airport entry kept) visits) (kept_are airport (all_parts_on airport visits) (all_parts_on airport new) stays)

settled_like : (airport : AirportParts) (entry : ℕ) (visits new : List Visit) → new ≡ settle airport entry visits
    → new ≡ map (settled_visit airport entry (all_parts_on airport new)) visits
settled_like airport entry visits new e = rw e (settled_fixed airport entry visits)

pub one_settling : (airport : AirportParts) (entry : ℕ) (visits new : List Visit)
    → (new ≡ map (settled_visit airport entry (all_parts_on airport new)) visits) ↔ (new ≡ settle airport entry visits)
one_settling airport entry visits new = (fixed_settled airport entry visits new, settled_like airport entry visits new)

abbrev pub slot_in : Ranked → Slot
slot_in part = part.slot

pub map_slots : (visit : Visit) (slots : List Slot) → map slot_in (map (ranked_part visit) slots) ≡ slots
map_slots visit [] = refl
map_slots visit (s ∷ slots) = ap (λ ss. s ∷ ss) (map_slots visit slots)

-- the slots of visits are those of their parts on stands
pub slots_are_in : (airport : AirportParts) (visits : List Visit) → slots_of airport visits ≡ map slot_in (all_parts_on airport visits)
slots_are_in airport [] = refl
slots_are_in airport (visit ∷ visits) =
    sym (map_append slot_in (parts_on airport visit) (all_parts_on airport visits)
    ∙ rw (map_slots visit (slots_of_visit airport visit), slots_are_in airport visits) refl)

-- two ways to say that a list has an item are equivalent
all_among : {X : Type 0} (xs ys : List X) → ((x : X) → Among x xs → Among x ys) → AllByRecursion (λ x. Among x ys) xs
all_among [] ys h = tt
all_among (x ∷ xs) ys h = (h x (inl refl), all_among xs ys (λ y in'. h y (inr in')))

pub among_contained : {X : Type 0} (xs : List X) (x : X) → Contains xs x → Among x xs
among_contained xs x h = All-contains (λ y. Among y xs) xs x (All-from_recursion (λ y. Among y xs) xs (all_among xs xs (λ y in'. in'))) h

pub contained_among : {X : Type 0} (xs : List X) (x : X) → Among x xs → Contains xs x
contained_among [] x h = absurd h
contained_among (y ∷ xs) x h = elim h [
  | inl here ↦ (zero, omega arith, sym here)
  | inr there ↦ let c = contained_among xs x there in (suc c.0, omega (arith, c.1), c.2)
]

pub among_map : {X Y : Type 0} (f : X → Y) (xs : List X) (y : Y) → Among y (map f xs) → (x : X) × Among x xs × (y ≡ f x)
among_map f [] y h = absurd h
among_map f (x ∷ xs) y h = elim h [
  | inl here ↦ (x, inl refl, here)
  | inr there ↦ let found = among_map f xs y there in (found.0, inr found.1, found.2)
]

pub map_among : {X Y : Type 0} (f : X → Y) (xs : List X) (x : X) → Among x xs → Among (f x) (map f xs)
map_among f [] x h = absurd h
map_among f (y ∷ xs) x h = elim h [ inl here ↦ inl (ap f here) | inr there ↦ inr (map_among f xs x there) ]

filter_among_first : {X : Type 0} (f : X → Bool) (x y : X) (xs : List X) (b : Bool) → f y ≡ b → (Among x (filter f xs) → (f x ≡ true) × Among x xs)
    → Among x (filter f (y ∷ xs)) → (f x ≡ true) × Among x (y ∷ xs)
filter_among_first f x y xs true is rest h =
    let P : Among x (y ∷ filter f xs) = rw is at h in
    elim P [ inl here ↦ (ap f here ∙ is, inl here) | inr there ↦ let found = rest there in (found.0, inr found.1) ]
filter_among_first f x y xs false is rest h = let found = rest (rw is at h) in (found.0, inr found.1)

-- what a test keeps passes it, and was there
pub filter_among : {X : Type 0} (f : X → Bool) (x : X) (xs : List X) → Among x (filter f xs) → (f x ≡ true) × Among x xs
filter_among f x [] h = absurd h
filter_among f x (y ∷ xs) h = filter_among_first f x y xs (f y) refl (filter_among f x xs) h

not_true : (b : Bool) → not b ≡ true → b ≡ false
not_true true h = absurd (cc)
not_true false h = refl

or_false : (a b : Bool) → (a || b) ≡ false → (a ≡ false) × (b ≡ false)
or_false true b h = absurd (cc)
or_false false b h = (refl, h)

pub any_false : {X : Type 0} (f : X → Bool) (xs : List X) (x : X) → list_any f xs ≡ false → Among x xs → f x ≡ false
any_false f [] x e h = absurd h
any_false f (y ∷ xs) x e h =
    let two = or_false (f y) (list_any f xs) e in
    elim h [ inl here ↦ ap f here ∙ two.0 | inr there ↦ any_false f xs x two.1 there ]

-- a free part is not blocked by any
pub free_unblocked : {X : Type 0} (blocks : X → X → Bool) (kept : List X) (part other : X) → is_free blocks kept part ≡ true → Among other kept
    → blocks other part ≡ false
free_unblocked blocks kept part other e h = any_false (λ r. blocks r part) kept other (not_true (list_any (λ r. blocks r part) kept) e) h

-- slots that clash at a minute meet
meets_by : (airport : AirportParts) (part other : Slot) (minute : ℕ) (rule : Rule) (found : Option Meeting) → meeting airport part other ≡ found
    → rule_at airport part other minute ≡ Some rule → is_some found ≡ true
meets_by airport part other minute rule None is e =
    let none : rule_at airport part other minute ≡ None = never_meeting airport part other minute is in absurd (cc)
meets_by airport part other minute rule (Some at) is e = refl

pub clash_meets : (airport : AirportParts) (part other : Slot) (minute : ℕ) (rule : Rule) → rule_at airport part other minute ≡ Some rule
    → meets airport part other ≡ true
clash_meets airport part other minute rule e = meets_by airport part other minute rule (meeting airport part other) refl e

order_of : (x y : ℕ) → (x < y) ⊎ ((x ≡ y) ⊎ (y < x))
order_of x y = grind arith

not_lower : (x y : ℕ) (a : Bool) → (nat_lt x y || (x == y && a)) ≡ false → x < y → ⊥
not_lower x y a h less = let yes : (nat_lt x y || (x == y && a)) ≡ true = lower_first x y a less in cc

not_later : (x y : ℕ) (a : Bool) → (nat_lt x y || (x == y && a)) ≡ false → x ≡ y → a ≡ false
not_later x y true h e = let yes : (nat_lt x y || (x == y && true)) ≡ true = lower_later x y true e refl in absurd (cc)
not_later x y false h e = refl

-- of two ranks of one length one is lower, or they are the same
pub lower_total : (xs ys : List ℕ) → length xs ≡ length ys → is_lower xs ys ≡ false → is_lower ys xs ≡ false → xs ≡ ys
lower_total [] [] e h k = refl
lower_total [] (y ∷ ys) e h k = absurd (omega arith)
lower_total (x ∷ xs) [] e h k = absurd (omega arith)
lower_total (x ∷ xs) (y ∷ ys) e h k = elim (order_of x y) [
  | inl less ↦ absurd (not_lower x y (is_lower xs ys) h less)
  | inr other ↦ elim other [
    | inl same ↦
        let rest : xs ≡ ys = lower_total xs ys (omega arith) (not_later x y (is_lower xs ys) h same) (not_later y x (is_lower ys xs) k (sym same)) in
        cc
    | inr more ↦ absurd (not_lower y x (is_lower ys xs) k more)
  ]
]

-- if a part clashes with one that doesn't block it, it is actual or the other is not better
unblocked_cases : (a b : Bool) (g : Meeting → Conflict) (found : Option Meeting) → is_some (if (not a && b) then option_map g found else None) ≡ false
    → is_some found ≡ true → (a ≡ true) ⊎ (b ≡ false)
unblocked_cases true b g found h e = inl refl
unblocked_cases false false g found h e = inr refl
unblocked_cases false true g None h e = absurd (cc)
unblocked_cases false true g (Some at) h e = absurd (cc)

pub unblocked : (airport : AirportParts) (other part : Ranked) → blocks airport other part ≡ false → meets airport other.slot part.slot ≡ true
    → (part.slot.actual ≡ true) ⊎ (blocks_before other part ≡ false)
unfolding conflict
unblocked airport other part h e =
    unblocked_cases part.slot.actual (blocks_before other part) (λ (at : Meeting). let b : Conflict = record { blocker = other; blocked = part; minute = at.minute; rule = at.rule } in b)
    (meeting airport other.slot part.slot) h e

-- an actual part is better than a planned one
actual_better : (other part : Ranked) (a b : Bool) → other.slot.actual ≡ a → part.slot.actual ≡ b → a ≡ true → b ≡ false → blocks_before other part ≡ true
unfolding blocks_before
actual_better other part true false e f g h = rw (e, f) refl
actual_better other part true true e f g h = absurd (cc)
actual_better other part false b e f g h = absurd (cc)

-- of two parts one is better, or they are of one visit
pub better_total : (other part : Ranked) → blocks_before other part ≡ false → blocks_before part other ≡ false → other.slot.part.visit.0 ≡ part.slot.part.visit.0
unfolding blocks_before
better_total other part h k = let same : rank other ≡ rank part = lower_total (rank other) (rank part) refl h k in cc

apart_visits : (airport : AirportParts) (part other : Slot) (minute : ℕ) (rule : Rule) (b : Bool) → (part.part.visit.0 == other.part.visit.0) ≡ b
    → rule_at airport part other minute ≡ Some rule → b ≡ false
apart_visits airport part other minute rule true is e = let none : rule_at airport part other minute ≡ None = rw is refl in absurd (cc)
apart_visits airport part other minute rule false is e = refl

both_actual : (airport : AirportParts) (other part : Ranked) (minute : ℕ) (rule : Rule) (a b : Bool) → other.slot.actual ≡ a → part.slot.actual ≡ b
    → rule_at airport other.slot part.slot minute ≡ Some rule → blocks airport other part ≡ false → blocks airport part other ≡ false → (a && b) ≡ true
both_actual airport other part minute rule true true e f r h k = refl
both_actual airport other part minute rule true false e f r h k =
    elim (unblocked airport other part h (clash_meets airport other.slot part.slot minute rule r)) [
      | inl actual ↦ absurd (cc)
      | inr worse ↦ let better : blocks_before other part ≡ true = actual_better other part true false e f refl refl in absurd (cc)
    ]
both_actual airport other part minute rule false true e f r h k =
    elim (unblocked airport part other k (clash_meets airport part.slot other.slot minute rule (rule_at_sym airport part.slot other.slot minute ∙ r))) [
      | inl actual ↦ absurd (cc)
      | inr worse ↦ let better : blocks_before part other ≡ true = actual_better part other true false f e refl refl in absurd (cc)
    ]
both_actual airport other part minute rule false false e f r h k =
    elim (unblocked airport other part h (clash_meets airport other.slot part.slot minute rule r)) [
      | inl actual ↦ absurd (cc)
      | inr worse ↦
          elim (unblocked airport part other k (clash_meets airport part.slot other.slot minute rule (rule_at_sym airport part.slot other.slot minute ∙ r))) [
            | inl actual ↦ absurd (cc)
            | inr worse_too ↦
                let same : other.slot.part.visit.0 ≡ part.slot.part.visit.0 = better_total other part worse worse_too in
                let apart : (other.slot.part.visit.0 == part.slot.part.visit.0) ≡ false =
                apart_visits airport other.slot part.slot minute rule (other.slot.part.visit.0 == part.slot.part.visit.0) refl r in
                let here : (other.slot.part.visit.0 == part.slot.part.visit.0) ≡ true = grind (arith, nat_tests) in
                absurd (cc)
          ]
    ]

-- parts that stay are sound
pub stay_sound : (airport : AirportParts) (parts kept : List Ranked) → Stay airport parts kept → IsSound airport (map slot_in kept)
stay_sound airport parts kept stays = λ part other minute rule cp cq r.
    let at = among_map slot_in kept part (among_contained (map slot_in kept) part cp) in
    let to = among_map slot_in kept other (among_contained (map slot_in kept) other cq) in
    let free_part = filter_among (is_free (blocks airport) kept) at.0 parts (among_along at.0 _ _ stays at.1) in
    let free_other = filter_among (is_free (blocks airport) kept) to.0 parts (among_along to.0 _ _ stays to.1) in
    rw (at.2, to.2)
    (both_actual airport at.0 to.0 minute rule at.0.slot.actual to.0.slot.actual refl refl (rw (at.2, to.2) at r)
    (free_unblocked (blocks airport) kept to.0 at.0 free_other.0 at.1) (free_unblocked (blocks airport) kept at.0 to.0 free_part.0 to.1))

-- settled visits are sound
pub settled_sound : (airport : AirportParts) (entry : ℕ) (visits : List Visit) → IsSound airport (slots_of airport (settle airport entry visits))
settled_sound airport entry visits =
    let parts : List Ranked = all_parts_on airport visits in
    let are : slots_of airport (settle airport entry visits) ≡ map slot_in (kept_of airport parts) =
    slots_are_in airport (settle airport entry visits) ∙ ap (map slot_in) (settled_parts_stay airport entry visits) in
    subst (IsSound airport) (sym are) (stay_sound airport parts (kept_of airport parts) (kept_stay airport parts))

-- if every clash is between two actual parts, none blocks another
sound_by : (airport : AirportParts) (slots : List Slot) (other part : Ranked) (found : Option Conflict) → IsSound airport slots → Contains slots other.slot
    → Contains slots part.slot
    → conflict airport other part ≡ found → found ≡ None
sound_by airport slots other part None sound cq cp is = refl
sound_by airport slots other part (Some b) sound cq cp is =
    let tells = blocking_tells airport other part b is in
    let rule : rule_at airport other.slot part.slot b.minute ≡ Some b.rule = (first_meeting airport other.slot part.slot _ tells.meets).rule in
    let actual : part.slot.actual ≡ true = (both other.slot.actual part.slot.actual (sound other.slot part.slot b.minute b.rule cq cp rule)).1 in
    let planned : part.slot.actual ≡ false = tells.planned in
    absurd (cc)

pub sound_unblocked : (airport : AirportParts) (visits : List Visit) (other part : Ranked) → IsSound airport (slots_of airport visits)
    → Among other (all_parts_on airport visits) → Among part (all_parts_on airport visits) → conflict airport other part ≡ None
sound_unblocked airport visits other part sound cq cp =
    let slots : List Slot = slots_of airport visits in
    let parts : List Ranked = all_parts_on airport visits in
    let are : slots_of airport visits ≡ map slot_in parts = slots_are_in airport visits in
    sound_by airport slots other part (conflict airport other part) sound
    (contained_among slots other.slot (among_along other.slot _ _ (sym are) (map_among slot_in parts other cq)))
    (contained_among slots part.slot (among_along part.slot _ _ (sym are) (map_among slot_in parts part cp))) refl

-- if no item gives anything, nothing comes out
pub none_given : {X Y : Type 0} (h : X → Option Y) (xs : List X) → ((x : X) → Among x xs → h x ≡ None) → filter_map h xs ≡ []
none_given h [] e = refl
none_given h (x ∷ xs) e = rw (e x (inl refl)) (none_given h xs (λ y in'. e y (inr in')))

-- sound visits are their own settling
pub sound_settled : (airport : AirportParts) (entry : ℕ) (visits : List Visit) → IsSound airport (slots_of airport visits)
    → settle airport entry visits ≡ visits
sound_settled airport entry visits sound =
    let parts : List Ranked = all_parts_on airport visits in
    sym (fixed_settled airport entry visits visits
    (sym (visits_same airport entry parts [] visits (λ part in'. none_given (λ other. conflict airport other part) parts (λ other here. sound_unblocked airport visits other part sound here in'))
    ∙ visits_none airport entry visits)))
