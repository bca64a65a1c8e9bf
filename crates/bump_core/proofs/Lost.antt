-- A visit of which a part is blocked loses a stand.
use Rattle.std.proofs.Common.{◌≡◌, ◌∙◌, ◌+◌, ◌==◌, ◌++◌, ◌∷◌, [], ℕ, Bool, true, false, ◌||◌, List, Option, Some, None, map, refl, sym, ap, arith, inl, inr, if◌then◌else◌}
use Rattle.std.specs.Prelude.{◌≢◌, filter, filter_map, not, option_map}
use Rattle.std.specs.List.{cons_option, flat_map, list_any}
use Rattle.std.proofs.lemmas.Bool.Decides.{nat_tests}
use Rattle.apron_base.specs.declared.numbers.PartId.{PartId}
use Rattle.apron_base.specs.declared.slot.Slot.{Slot}
use Rattle.apron_rules.specs.declared.parts.AirportParts.{AirportParts}
use Rattle.apron_rules.specs.declared.rules.Meeting.{Meeting}
use Rattle.clash_check.specs.Meetings.{meeting}
use Rattle.visit_book.specs.declared.visits.Part.{Part}
use Rattle.visit_book.specs.declared.visits.Place.{Place}
use Rattle.visit_book.specs.declared.visits.Place.TheVariants.{Unplaced, Planned, Actual}
use Rattle.visit_book.specs.declared.visits.Visit.{Visit}
use Rattle.visit_book.specs.Numbers.{IsNumbered, IsNumberedAbove, has_number}
use Rattle.visit_book.specs.Slots.{slots_from}
use Rattle.plan_core.specs.Edits.{part_at_place}
use Rattle.bump_core.specs.declared.ranks.Conflict.{Conflict}
use Rattle.bump_core.specs.declared.ranks.KeptClash.{KeptClash}
use Rattle.bump_core.specs.declared.ranks.Ranked.{Ranked}
use Rattle.bump_core.specs.Bumped.{bumped_from, bumped_of, is_bumped_by}
use Rattle.bump_core.specs.Lists.{against_others, by_own, is_blocked, is_in, is_of, is_touched, kept_clash, kept_clashes_of_part, kept_clashes_of_parts, parts_by, place_by, visit_by}
use Rattle.bump_core.specs.Ranks.{all_parts_on, blocks_before, may_block, parts_on, ranked_part}
use Rattle.bump_core.specs.Settle.{best}
use Rattle.bump_core.proofs.Blockers.{among_along, best_some, map_append, slots_at}
use Rattle.bump_core.proofs.Called.{part_above}
use Rattle.bump_core.proofs.Changes.{number_above}
use Rattle.bump_core.proofs.Decided.{eq_turn, some_filter}
use Rattle.bump_core.proofs.Distinct.{same_self}
use Rattle.bump_core.proofs.Near.{among_cases, part_of}
use Rattle.bump_core.proofs.Order.{both, not_false}
use Rattle.bump_core.proofs.Rounds.{Among}
use Rattle.bump_core.proofs.Settled.{filter_among}

-- Where the items of lists come from.

any_found_first : {X : Type 0} (f : X → Bool) (x : X) (xs : List X) (b : Bool) → f x ≡ b → (list_any f xs ≡ true → (y : X) × Among y xs × (f y ≡ true))
    → list_any f (x ∷ xs) ≡ true → (y : X) × Among y (x ∷ xs) × (f y ≡ true)
any_found_first f x xs true is rest h = (x, inl refl, is)
any_found_first f x xs false is rest h = let found = rest (rw is at h) in (found.0, inr found.1, found.2)

-- if some item passes there is one
any_found : {X : Type 0} (f : X → Bool) (xs : List X) → list_any f xs ≡ true → (y : X) × Among y xs × (f y ≡ true)
any_found f [] h = absurd (cc)
any_found f (x ∷ xs) h = any_found_first f x xs (f x) refl (any_found f xs) h

or_true : (a : Bool) → (a || true) ≡ true
or_true true = refl
or_true false = refl

any_true : {X : Type 0} (f : X → Bool) (xs : List X) (x : X) → Among x xs → f x ≡ true → list_any f xs ≡ true
any_true f [] x in' h = absurd in'
any_true f (y ∷ xs) x in' h = elim in' [
  | inl here ↦ let yes : f y ≡ true = ap f (sym here) ∙ h in rw yes refl
  | inr there ↦ rw (any_true f xs x there h) (or_true (f y))
]

given_first : {X Y : Type 0} (h : X → Option Y) (y : Y) (x : X) (xs : List X) (found : Option Y) → h x ≡ found
    → (Among y (filter_map h xs) → (z : X) × Among z xs × (h z ≡ Some y)) → Among y (cons_option found (filter_map h xs))
    → (z : X) × Among z (x ∷ xs) × (h z ≡ Some y)
given_first h y x xs None is rest in' = let more = rest in' in (more.0, inr more.1, more.2)
given_first h y x xs (Some w) is rest in' = elim in' [
  | inl here ↦ (x, inl refl, is ∙ ap (λ z. Some z) (sym here))
  | inr there ↦ let more = rest there in (more.0, inr more.1, more.2)
]

-- what comes out is given by an item
pub given_by : {X Y : Type 0} (h : X → Option Y) (y : Y) (xs : List X) → Among y (filter_map h xs) → (x : X) × Among x xs × (h x ≡ Some y)
given_by h y [] in' = absurd in'
given_by h y (x ∷ xs) in' = given_first h y x xs (h x) refl (given_by h y xs) in'

-- an item of joined lists is an item of one of them
joined_by : {X Y : Type 0} (g : X → List Y) (y : Y) (xs : List X) → Among y (flat_map g xs) → (x : X) × Among x xs × Among y (g x)
joined_by g y [] in' = absurd in'
joined_by g y (x ∷ xs) in' = elim (among_cases y (g x) (flat_map g xs) in') [
  | inl here ↦ (x, inl refl, here)
  | inr there ↦ let more = joined_by g y xs there in (more.0, inr more.1, more.2)
]

-- Blocked parts of other visits.

met_other_by : (own other : Ranked) (found : Option Meeting) (one : KeptClash)
    → option_map (λ (at : Meeting). let m : KeptClash = record { own = own; other = other; minute = at.minute; rule = at.rule } in m) found ≡ Some one
    → one.other ≡ other
met_other_by own other None one e = absurd (cc)
met_other_by own other (Some at) one e =
    let same : ◌≡◌ {A = KeptClash} (record { own = own; other = other; minute = at.minute; rule = at.rule }) one = cc in ap (λ (m : KeptClash). m.other) (sym same)

met_other : (airport : AirportParts) (own other : Ranked) (one : KeptClash) → kept_clash airport own other ≡ Some one → one.other ≡ other
unfolding kept_clash
met_other airport own other one e = met_other_by own other (meeting airport own.slot other.slot) one e

blocked_by : (one : KeptClash) (blocking : Conflict) (may : Bool) → may_block one.own one.other ≡ may
    → ◌≡◌ {A = Option Conflict} (if may then Some (record { blocker = one.own; blocked = one.other; minute = one.minute; rule = one.rule }) else None) (Some blocking)
    → (blocking.blocked ≡ one.other) × (one.other.slot.actual ≡ false)
blocked_by one blocking false is e = absurd (cc)
blocked_by one blocking true is e =
    let same : ◌≡◌ {A = Conflict} (record { blocker = one.own; blocked = one.other; minute = one.minute; rule = one.rule }) blocking = cc in
    (ap (λ (b : Conflict). b.blocked) (sym same), not_false one.other.slot.actual (both (not one.other.slot.actual) (blocks_before one.own one.other) is).0)

-- what an own part blocks is a planned part of the visits
blocked_there : (airport : AirportParts) (owns parts : List Ranked) (own : List Conflict) (blocking : Conflict)
    → Among blocking (against_others (kept_clashes_of_parts airport owns parts) own)
    → Among blocking.blocked parts × (blocking.blocked.slot.actual ≡ false)
blocked_there airport owns parts own blocking in' =
    let mets : List KeptClash = kept_clashes_of_parts airport owns parts in
    let test : KeptClash → Bool = λ m. not (is_blocked own m.own.slot.part) in
    let given = given_by by_own blocking (filter test mets) in' in
    let one : KeptClash = given.0 in
    let among : Among one mets = (filter_among test one mets given.1).1 in
    let mine = joined_by (kept_clashes_of_part airport parts) one owns among in
    let other = given_by (kept_clash airport mine.0) one parts mine.2 in
    let is = blocked_by one blocking (may_block one.own one.other) refl given.2 in
    let same : blocking.blocked ≡ other.0 = is.0 ∙ met_other airport mine.0 other.0 one other.2 in
    (among_like other.0 blocking.blocked parts (sym same) other.1, ap (λ (r : Ranked). r.slot.actual) is.0 ∙ is.1)
  where
    among_like : (x y : Ranked) (xs : List Ranked) → x ≡ y → Among x xs → Among y xs
    among_like x y xs e h = rw (← e) h

-- a part of the visits is one of the visit of its number
in_own : (airport : AirportParts) (base : ℕ) (visits : List Visit) (visit : Visit) (holder : Ranked) → IsNumberedAbove base visits → Among visit visits
    → Among holder (all_parts_on airport visits) → holder.slot.part.visit.0 ≡ visit.number.0 → Among holder (parts_on airport visit)
in_own airport base [] visit holder h in' part same = absurd in'
in_own airport base (first ∷ visits) visit holder h in' part same = elim (among_cases holder (parts_on airport first) (all_parts_on airport visits) part) [
  | inl here ↦ elim in' [
    | inl it ↦ rw it here
    | inr later ↦ absurd (omega (arith, h.0, same, (part_of airport first holder here).number, number_above (base + 1) visits visit h.1 later))
  ]
  | inr there ↦ elim in' [
    | inl it ↦ absurd (omega (arith, h.0, same, ap (λ (v : Visit). v.number.0) it, part_above airport (base + 1) visits holder h.1 there))
    | inr later ↦ in_own airport (base + 1) visits visit holder h.1 later there same
  ]
]

-- What is blocked loses its stand.

best_of : (f : Conflict → Bool) (found ys : List Conflict) → filter f found ≡ ys → list_any f found ≡ true → (b : Conflict) × (best (filter f found) ≡ Some b)
best_of f found [] is h = let none : list_any f found ≡ false = some_filter f found [] is in absurd (cc)
best_of f found (y ∷ ys) is h = let some = best_some y ys in (some.0, ap best is ∙ some.1)

same_number : (n : ℕ) → (n == n) ≡ true
same_number n = grind (arith, nat_tests)

lost_at : (entry : ℕ) (found : List Conflict) (visit : Visit) (number : ℕ) (airport : AirportParts) (part : Part) (place : Place) (holder : Ranked)
    → Among holder (map (ranked_part visit) (slots_at airport visit number (part_at_place place part))) → holder.slot.actual ≡ false
    → list_any (is_of holder.slot.part) found ≡ true
    → is_bumped_by entry (place_by entry found (record { visit = visit.number; part = number }) place) ≡ true
lost_at entry found visit number airport part (Unplaced bump) holder in' planned hit = absurd in'
lost_at entry found visit number airport part (Actual stand) holder in' planned hit = elim in' [
  | inl here ↦ let fact : holder.slot.actual ≡ true = ap (λ (r : Ranked). r.slot.actual) here in absurd (cc)
  | inr there ↦ absurd there
]
lost_at entry found visit number airport part (Planned stand) holder in' planned hit = elim in' [
  | inl here ↦
      let id : PartId = record { visit = visit.number; part = number } in
      let same : holder.slot.part ≡ id = ap (λ (r : Ranked). r.slot.part) here in
      let hits : list_any (is_of id) found ≡ true = ap (λ (i : PartId). list_any (is_of i) found) (sym same) ∙ hit in
      let some = best_of (is_of id) found (filter (is_of id) found) refl hits in
      rw some.1 (same_number entry)
  | inr there ↦ absurd there
]

tail_none : {X : Type 0} (xs ys : List X) → xs ++ ys ≡ [] → ys ≡ []
tail_none [] ys e = e
tail_none (x ∷ xs) ys e = absurd (cc)

-- if one part of the visit is blocked, some parts lost their stands
lost_from : (airport : AirportParts) (entry : ℕ) (found : List Conflict) (visit after : Visit) (number : ℕ) (parts : List Part) (holder : Ranked)
    → Among holder (map (ranked_part visit) (slots_from airport visit number parts)) → holder.slot.actual ≡ false → list_any (is_of holder.slot.part) found ≡ true
    → bumped_from entry after number (parts_by entry found visit.number number parts) ≢ []
lost_from airport entry found visit after number [] holder in' planned hit = absurd in'
lost_from airport entry found visit after number (part ∷ parts) holder in' planned hit =
    let here : List Slot = slots_at airport visit number part in
    let more : List Slot = slots_from airport visit (number + 1) parts in
    elim (among_cases holder (map (ranked_part visit) here) (map (ranked_part visit) more) (among_along holder _ _ (map_append (ranked_part visit) here more) in')) [
      | inl first ↦ λ e.
          let lost : is_bumped_by entry (place_by entry found (record { visit = visit.number; part = number }) part.place) ≡ true =
          lost_at entry found visit number airport part part.place holder first planned hit in
          some_lost (is_bumped_by entry (place_by entry found (record { visit = visit.number; part = number }) part.place)) (record { visit = after.number; part = number })
          (bumped_from entry after (number + 1) (parts_by entry found visit.number (number + 1) parts)) lost e
      | inr later ↦ λ e. lost_from airport entry found visit after (number + 1) parts holder later planned hit (tail_none _ _ e)
    ]
  where
    some_lost : (b : Bool) (id : PartId) (ids : List PartId) → b ≡ true → (if b then id ∷ [] else []) ++ ids ≡ [] → ⊥
    some_lost true id ids is e = absurd (cc)
    some_lost false id ids is e = absurd (cc)

only_hit : (a b : Bool) → (a || b) ≡ true → b ≡ false → a ≡ true
only_hit true b h none = refl
only_hit false b h none = absurd (cc)

-- a touched visit other than the changed one loses a stand
pub touched_lost : (airport : AirportParts) (entry : ℕ) (visits : List Visit) (changed new visit : Visit) (mets : List KeptClash) (own found : List Conflict)
    → IsNumbered visits
    → Among visit visits → mets ≡ kept_clashes_of_parts airport (parts_on airport changed) (all_parts_on airport visits) → found ≡ against_others mets own
    → is_touched found new.number visit.number.0 ≡ true → has_number new.number visit ≡ false → bumped_of entry (visit_by entry found visit) ≢ []
touched_lost airport entry visits changed new visit mets own found numbered in' mets_are found_is touched apart =
    let other : (new.number.0 == visit.number.0) ≡ false = eq_turn visit.number.0 new.number.0 apart in
    let hit = any_found (is_in visit.number.0) found (only_hit (list_any (is_in visit.number.0) found) (new.number.0 == visit.number.0) touched other) in
    let blocking : Conflict = hit.0 in
    let listed : Among blocking (against_others (kept_clashes_of_parts airport (parts_on airport changed) (all_parts_on airport visits)) own) =
    among_along blocking found _ (found_is ∙ ap (λ ms. against_others ms own) mets_are) hit.1 in
    let there = blocked_there airport (parts_on airport changed) (all_parts_on airport visits) own blocking listed in
    let number : blocking.blocked.slot.part.visit.0 ≡ visit.number.0 = grind (arith, nat_tests, hit.2) in
    let mine : Among blocking.blocked (parts_on airport visit) = in_own airport 0 visits visit blocking.blocked numbered in' there.0 number in
    let hits : list_any (is_of blocking.blocked.slot.part) found ≡ true =
    any_true (is_of blocking.blocked.slot.part) found blocking hit.1 (same_self blocking.blocked.slot.part) in
    lost_from airport entry found visit (visit_by entry found visit) 1 visit.parts blocking.blocked mine there.1 hits
