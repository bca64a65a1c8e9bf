-- Which parts a changed visit leaves alone.
use Rattle.std.proofs.Common.{◌≡◌, ◌∙◌, ◌≤◌, ◌++◌, ◌∷◌, [], ℕ, Bool, true, false, List, Option, None, Some, length, refl, sym, ap, arith, inl, inr, subst}
use Rattle.std.specs.Prelude.{All, Contains, filter, is_some, not}
use Rattle.std.proofs.lemmas.List.Elements.{All-contains}
use Rattle.apron_rules.specs.declared.parts.AirportParts.{AirportParts}
use Rattle.apron_rules.specs.Clash.{IsSound}
use Rattle.visit_book.specs.declared.visits.Visit.{Visit}
use Rattle.visit_book.specs.Numbers.{IsNumbered, with_visit}
use Rattle.visit_book.specs.Slots.{slots_of}
use Rattle.bump_core.specs.declared.ranks.Conflict.{Conflict}
use Rattle.bump_core.specs.declared.ranks.Ranked.{Ranked}
use Rattle.bump_core.specs.Near.{meets, others}
use Rattle.bump_core.specs.Ranks.{all_parts_on, blocks, blocks_before, conflict, is_free, parts_on}
use Rattle.bump_core.specs.Settle.{settle}
use Rattle.bump_core.proofs.Blockers.{among_along, among_left, among_right}
use Rattle.bump_core.proofs.Distinct.{any_none}
use Rattle.bump_core.proofs.Near.{Around, Split, among_cases, around_of, between_parts, others_around, part_of, parts_append, put_at, split_at}
use Rattle.bump_core.proofs.Order.{blocking_tells, blocks_tell}
use Rattle.bump_core.proofs.Rounds.{Among}
use Rattle.bump_core.proofs.Settled.{among_contained, contained_among, filter_among, settled_stay}

kept_first : {X : Type 0} (f : X → Bool) (x y : X) (xs : List X) (b : Bool) → f y ≡ b → f x ≡ true → (Among x xs → Among x (filter f xs)) → Among x (y ∷ xs)
    → Among x (filter f (y ∷ xs))
kept_first f x y xs true is e rest h = rw is (elim h [ inl here ↦ inl here | inr there ↦ inr (rest there) ])
kept_first f x y xs false is e rest h = rw is (elim h [ inl here ↦ absurd (let no' : f x ≡ false = ap f here ∙ is in cc) | inr there ↦ rest there ])

kept_among : {X : Type 0} (f : X → Bool) (x : X) (xs : List X) → f x ≡ true → Among x xs → Among x (filter f xs)
kept_among f x [] e h = absurd h
kept_among f x (y ∷ xs) e h = kept_first f x y xs (f y) refl e (kept_among f x xs e) h

unmet_by : (airport : AirportParts) (other part : Ranked) (found : Option Conflict) → conflict airport other part ≡ found
    → meets airport other.slot part.slot ≡ false → is_some found ≡ false
unmet_by airport other part None is h = refl
unmet_by airport other part (Some b) is h =
    let yes : meets airport other.slot part.slot ≡ true = ap is_some (blocking_tells airport other part b is).meets in absurd (cc)

stays_around : (airport : AirportParts) (entry : ℕ) (pre post : List Visit) (changed : Visit) (part : Ranked) → Around airport pre post changed
    → Among part (all_parts_on airport (pre ++ post))
    → ((other : Ranked) → Among other (parts_on airport changed) → meets airport other.slot part.slot ≡ false)
    → Among part (all_parts_on airport (settle airport entry (pre ++ changed ∷ post)))
stays_around airport entry pre post changed part around in' unmet =
    let visits : List Visit = pre ++ changed ∷ post in
    let parts : List Ranked = all_parts_on airport visits in
    let kept : List Ranked = all_parts_on airport (settle airport entry visits) in
    let first : List Ranked = all_parts_on airport pre in
    let last : List Ranked = all_parts_on airport post in
    let earlier : (other : Ranked) → Among other first → Among other (all_parts_on airport (pre ++ post)) =
    λ other h. among_along other _ _ (sym (parts_append airport pre post)) (among_left other first last h) in
    let later : (other : Ranked) → Among other last → Among other (all_parts_on airport (pre ++ post)) =
    λ other h. among_along other _ _ (sym (parts_append airport pre post)) (among_right other first last h) in
    let unblocked : (other : Ranked) → Among other parts → blocks airport other part ≡ false =
    λ other h. elim (among_cases other first (all_parts_on airport (changed ∷ post)) (among_along other _ _ (parts_append airport pre (changed ∷ post)) h)) [
      | inl before ↦ ap is_some (around.sound other part (earlier other before) in')
      | inr rest ↦ elim (among_cases other (parts_on airport changed) last rest) [
        | inl own ↦ unmet_by airport other part (conflict airport other part) refl (unmet other own)
        | inr after ↦ ap is_some (around.sound other part (later other after) in')
      ]
    ] in
    let free : is_free (blocks airport) kept part ≡ true =
    ap not (any_none (λ other. blocks airport other part) kept
    (λ other h. unblocked other (filter_among (is_free (blocks airport) kept) other parts (among_along other _ _ (settled_stay airport entry visits) h)).1)) in
    let there : Among part parts =
    among_along part _ _ (sym (parts_append airport pre (changed ∷ post)))
    (elim (among_cases part first last (among_along part _ _ (parts_append airport pre post) in')) [
      | inl before ↦ among_left part first (all_parts_on airport (changed ∷ post)) before
      | inr after ↦ among_right part first (all_parts_on airport (changed ∷ post)) (among_right part (parts_on airport changed) last after)
    ]) in
    among_along part _ _ (sym (settled_stay airport entry visits)) (kept_among (is_free (blocks airport) kept) part parts free there)

stays_split : (airport : AirportParts) (entry : ℕ) (visits : List Visit) (changed : Visit) (part : Ranked) → Split visits 0 changed.number.0
    → IsSound airport (slots_of airport visits) → Among part (all_parts_on airport (others visits changed))
    → ((other : Ranked) → Among other (parts_on airport changed) → meets airport other.slot part.slot ≡ false)
    → Among part (all_parts_on airport (settle airport entry (with_visit visits changed)))
stays_split airport entry visits changed part at sound in' unmet =
    let P : List Visit → Type 0 = λ vs. IsSound airport (slots_of airport vs) → Among part (all_parts_on airport (others vs changed))
    → Among part (all_parts_on airport (settle airport entry (with_visit vs changed))) in
    subst P (sym at.is) (λ s h.
    among_along part _ _ (ap (λ vs. all_parts_on airport (settle airport entry vs)) (sym (put_at at.pre at.post at.at changed at.before at.number)))
    (stays_around airport entry at.pre at.post changed part (around_of airport at.pre at.post at.at changed at.before at.after s)
    (among_along part _ _ (ap (all_parts_on airport) (others_around at.pre at.post at.at changed at.before at.after at.number)) h) unmet))
    sound in'

-- a part of another visit that clashes with no part of the changed one stays
pub untouched_stays : (airport : AirportParts) (entry : ℕ) (visits : List Visit) (changed : Visit) (part : Ranked) → IsNumbered visits → 1 ≤ changed.number.0
    → changed.number.0 ≤ length visits → IsSound airport (slots_of airport visits)
    → Contains (all_parts_on airport (others visits changed)) part → All (λ other. meets airport other.slot part.slot ≡ false) (parts_on airport changed)
    → Contains (all_parts_on airport (settle airport entry (with_visit visits changed))) part
untouched_stays airport entry visits changed part numbered low high sound in' unmet =
    contained_among (all_parts_on airport (settle airport entry (with_visit visits changed))) part
    (stays_split airport entry visits changed part (split_at 0 changed.number.0 visits numbered (omega arith) (omega arith)) sound
    (among_contained (all_parts_on airport (others visits changed)) part in')
    (λ other h. All-contains (λ other. meets airport other.slot part.slot ≡ false) (parts_on airport changed) other unmet (contained_among (parts_on airport changed) other h)))

better_by : (airport : AirportParts) (visit : Visit) (mine other part : Ranked) (b : Bool) → mine.slot.actual ≡ b → Contains (parts_on airport visit) mine
    → Contains (parts_on airport visit) part
    → (other.slot.part.visit.0 ≡ visit.number.0 → ⊥) → part.slot.actual ≡ false → blocks_before other part ≡ true → blocks airport mine other ≡ true → b ≡ true
better_by airport visit mine other part true e cm cp apart planned better h = refl
better_by airport visit mine other part false e cm cp apart planned better h =
    absurd (apart (between_parts visit mine other part (part_of airport visit mine (among_contained (parts_on airport visit) mine cm))
    (part_of airport visit part (among_contained (parts_on airport visit) part cp)) e planned (blocks_tell airport mine other h).1 better))

-- a part that is better than a planned part of a visit is blocked only by actual parts of that
-- visit
pub better_lose_to_actual : (airport : AirportParts) (visit : Visit) (mine other part : Ranked) → Contains (parts_on airport visit) mine
    → Contains (parts_on airport visit) part
    → (other.slot.part.visit.0 ≡ visit.number.0 → ⊥) → part.slot.actual ≡ false → blocks_before other part ≡ true → blocks airport mine other ≡ true
    → mine.slot.actual ≡ true
better_lose_to_actual airport visit mine other part cm cp apart planned better h =
    better_by airport visit mine other part mine.slot.actual refl cm cp apart planned better h
