-- The record of a lost stand names the best part that keeps its stand and clashes.
use Rattle.std.proofs.Common.{◌≡◌, ◌∙◌, ◌⊎◌, ℕ, Bool, true, false, List, [], ◌∷◌, refl, sym, ap, subst, inl, inr, Option, None, Some, if◌then◌else◌}
use Rattle.std.specs.Prelude.{◌&&◌, filter_map, fold, is_some, not}
use Rattle.std.specs.List.{cons_option}
use Rattle.apron_base.specs.declared.numbers.StandNo.{StandNo}
use Rattle.apron_rules.specs.declared.parts.AirportParts.{AirportParts}
use Rattle.apron_rules.specs.declared.rules.Meeting.{Meeting}
use Rattle.clash_check.specs.Meetings.{meeting}
use Rattle.visit_book.specs.declared.visits.Bump.{Bump}
use Rattle.visit_book.specs.declared.visits.Part.{Part}
use Rattle.visit_book.specs.declared.visits.Place.TheVariants.{Planned, Unplaced}
use Rattle.visit_book.specs.declared.visits.Visit.{Visit}
use Rattle.visit_book.specs.Slots.{slot_on}
use Rattle.bump_core.specs.declared.ranks.Conflict.{Conflict}
use Rattle.bump_core.specs.declared.ranks.Ranked.{Ranked}
use Rattle.bump_core.specs.Near.{meets}
use Rattle.bump_core.specs.Ranks.{all_parts_on, blocks_before, conflict, kept_of, may_block, ranked_part}
use Rattle.bump_core.specs.Records.{IsRecordOf}
use Rattle.bump_core.specs.Settle.{best, conflicts, place_after, settle, settled_place, with_better}
use Rattle.bump_core.proofs.Lost.{given_by}
use Rattle.bump_core.proofs.Order.{Blocks, blocking_tells, down}
use Rattle.bump_core.proofs.Rounds.{Among}
use Rattle.bump_core.proofs.Settled.{among_contained, contained_among, settled_parts_stay}

trans : (airport : AirportParts) (a b c : Ranked) → blocks_before a b ≡ true → blocks_before b c ≡ true → blocks_before a c ≡ true
trans airport a b c h k = (down airport).trans a b c h k

never : (airport : AirportParts) (part : Ranked) → blocks_before part part ≡ true → ⊥
never airport part h = let apart : blocks_before part part ≡ false = (down airport).apart part in cc

-- the best of some blockings and one before them
record IsBest (first : Conflict) (found : List Conflict) (b : Conflict) : Type 0 where
  from : (b ≡ first) ⊎ (blocks_before b.blocker first.blocker ≡ true)
  among : (b ≡ first) ⊎ Among b found
  none : (other : Conflict) → Among other found → blocks_before other.blocker b.blocker ≡ true → ⊥

no_better : (airport : AirportParts) (first other b : Conflict) → (b ≡ first) ⊎ (blocks_before b.blocker first.blocker ≡ true)
    → blocks_before other.blocker first.blocker ≡ false → blocks_before other.blocker b.blocker ≡ true → ⊥
no_better airport first other b (inl same) worse h =
    let yes : blocks_before other.blocker first.blocker ≡ true = subst (λ (c : Conflict). blocks_before other.blocker c.blocker ≡ true) same h in cc
no_better airport first other b (inr better) worse h =
    let yes : blocks_before other.blocker first.blocker ≡ true = trans airport other.blocker b.blocker first.blocker h better in cc

best_next : (airport : AirportParts) (first next : Conflict) (found : List Conflict) (b : Conflict) (better : Bool)
    → blocks_before next.blocker first.blocker ≡ better
    → ((a : Conflict) → fold with_better (Some a) found ≡ Some b → IsBest a found b)
    → fold with_better (if better then Some next else Some first) found ≡ Some b → IsBest first (next ∷ found) b
best_next airport first next found b true is rest e =
    let later : IsBest next found b = rest next e in
    record {
      from = elim later.from [
        | inl same ↦ inr (subst (λ (c : Conflict). blocks_before c.blocker first.blocker ≡ true) (sym same) is)
        | inr better ↦ inr (trans airport b.blocker next.blocker first.blocker better is)
      ];
      among = elim later.among [ inl same ↦ inr (inl same) | inr there ↦ inr (inr there) ];
      none = λ other in' h. elim in' [
        | inl here ↦ elim later.from [
          | inl same ↦ never airport b.blocker (subst (λ (c : Conflict). blocks_before c.blocker b.blocker ≡ true) (here ∙ sym same) h)
          | inr better ↦ never airport b.blocker (trans airport b.blocker next.blocker b.blocker better (subst (λ (c : Conflict). blocks_before c.blocker b.blocker ≡ true) here h))
        ]
        | inr there ↦ later.none other there h
      ];
    }
best_next airport first next found b false is rest e =
    let later : IsBest first found b = rest first e in
    record {
      from = later.from;
      among = elim later.among [ inl same ↦ inl same | inr there ↦ inr (inr there) ];
      none = λ other in' h. elim in' [
        | inl here ↦ no_better airport first next b later.from is (subst (λ (c : Conflict). blocks_before c.blocker b.blocker ≡ true) here h)
        | inr there ↦ later.none other there h
      ];
    }

best_from : (airport : AirportParts) (first : Conflict) (found : List Conflict) (b : Conflict)
    → fold with_better (Some first) found ≡ Some b → IsBest first found b
best_from airport first [] b e =
    let same : b ≡ first = cc in record { from = inl same; among = inl same; none = λ other in' h. absurd in' }
best_from airport first (next ∷ found) b e =
    best_next airport first next found b (blocks_before next.blocker first.blocker) refl (λ a f. best_from airport a found b f) e

-- the best of some blockings is one of them, and no other one is better
record IsBestOf (found : List Conflict) (b : Conflict) : Type 0 where
  among : Among b found
  none : (other : Conflict) → Among other found → blocks_before other.blocker b.blocker ≡ true → ⊥

best_of : (airport : AirportParts) (found : List Conflict) (b : Conflict) → best found ≡ Some b → IsBestOf found b
best_of airport [] b e = absurd (cc)
best_of airport (first ∷ found) b e =
    let all : IsBest first found b = best_from airport first found b e in
    record {
      among = all.among;
      none = λ other in' h. elim in' [
        | inl here ↦ (
            let first_better : blocks_before first.blocker b.blocker ≡ true = subst (λ (c : Conflict). blocks_before c.blocker b.blocker ≡ true) here h in
            elim all.from [
              | inl same ↦ never airport b.blocker (subst (λ (c : Conflict). blocks_before c.blocker b.blocker ≡ true) (sym same) first_better)
              | inr better ↦ never airport b.blocker (trans airport b.blocker first.blocker b.blocker better first_better)
            ]
            )
        | inr there ↦ all.none other there h
      ];
    }

given_to_first : {X Y : Type 0} (h : X → Option Y) (y : Y) (z x : X) (xs : List X) (found : Option Y) → h z ≡ found
    → (x ≡ z) ⊎ Among x xs → h x ≡ Some y → (Among x xs → Among y (filter_map h xs)) → Among y (cons_option found (filter_map h xs))
given_to_first h y z x xs None is (inl here) e rest = let none : h x ≡ None = ap h here ∙ is in absurd (cc)
given_to_first h y z x xs None is (inr there) e rest = rest there
given_to_first h y z x xs (Some w) is (inl here) e rest =
    let same : ◌≡◌ {A = Option _} (Some y) (Some w) = sym e ∙ (ap h here ∙ is) in inl (cc)
given_to_first h y z x xs (Some w) is (inr there) e rest = inr (rest there)

-- what an item gives comes out
given_to : {X Y : Type 0} (h : X → Option Y) (y : Y) (x : X) (xs : List X) → Among x xs → h x ≡ Some y → Among y (filter_map h xs)
given_to h y x [] in' e = absurd in'
given_to h y x (z ∷ xs) in' e = given_to_first h y z x xs (h z) refl in' e (λ there. given_to h y x xs there e)

no_true : (b : Bool) → (b ≡ true → ⊥) → b ≡ false
no_true false h = refl
no_true true h = absurd (h refl)

both_so : (actual better : Bool) → actual ≡ false → better ≡ true → (not actual && better) ≡ true
both_so false true planned h = refl
both_so true better planned h = absurd (cc)
both_so false false planned h = absurd (cc)

blocks_when : (airport : AirportParts) (other part : Ranked) (found : Option Meeting) → meeting airport other.slot part.slot ≡ found → is_some found ≡ true
    → may_block other part ≡ true → (b : Conflict) × (conflict airport other part ≡ Some b) × (b.blocker ≡ other)
unfolding conflict
blocks_when airport other part None is some may = absurd (cc)
blocks_when airport other part (Some at) is some may =
    (record { blocker = other; blocked = part; minute = at.minute; rule = at.rule }, rw (may, is) refl, refl)

-- the record of a part that is blocked by some of those that are kept
record_of : (airport : AirportParts) (kept : List Ranked) (lost : Ranked) (entry : ℕ) (b : Conflict) (bump : Bump) → best (conflicts airport kept lost) ≡ Some b
    → bump ≡ record { stand = lost.slot.stand; entry = entry; blocker = b.blocker.slot.part; minute = b.minute; rule = b.rule } → IsRecordOf airport kept lost bump
record_of airport kept lost entry b bump e is =
    let all : IsBestOf (conflicts airport kept lost) b = best_of airport (conflicts airport kept lost) b e in
    let source = given_by (λ other. conflict airport other lost) b kept all.among in
    let tells : Blocks airport source.0 lost b = blocking_tells airport source.0 lost b source.2 in
    subst (IsRecordOf airport kept lost) (sym is) record {
      blocker = source.0;
      keeps = contained_among kept source.0 source.1;
      named = ap (λ (part : Ranked). part.slot.part) (sym tells.blocker);
      stand = refl;
      better = tells.better;
      first = tells.meets;
      best = λ other listed better. no_true (meets airport other.slot lost.slot) (λ met.
          let may : may_block other lost ≡ true = both_so lost.slot.actual (blocks_before other lost) tells.planned (trans airport other source.0 lost better tells.better) in
          let blocked = blocks_when airport other lost (meeting airport other.slot lost.slot) refl met may in
          let ahead : blocks_before blocked.0.blocker b.blocker ≡ true =
          subst (λ (x : Ranked). blocks_before x b.blocker ≡ true) (sym blocked.2) (subst (λ (x : Ranked). blocks_before other x ≡ true) (sym tells.blocker) better) in
          all.none blocked.0 (given_to (λ other. conflict airport other lost) blocked.0 other kept (among_contained kept other listed) blocked.1) ahead);
    }

place_by : (airport : AirportParts) (kept : List Ranked) (lost : Ranked) (entry : ℕ) (bump : Bump) (found : Option Conflict)
    → best (conflicts airport kept lost) ≡ found → place_after entry lost.slot.stand found ≡ Unplaced (Some bump) → IsRecordOf airport kept lost bump
place_by airport kept lost entry bump None is e = absurd (cc)
place_by airport kept lost entry bump (Some b) is e = record_of airport kept lost entry b bump is (cc)

-- what settling makes of a part's place is the record of what it lost
pub bump_is_record : (airport : AirportParts) (entry : ℕ) (visits : List Visit) (visit : Visit) (number : ℕ) (part : Part) (stand : StandNo) (bump : Bump)
    → settled_place airport entry (kept_of airport (all_parts_on airport visits)) visit number part (Planned stand) ≡ Unplaced (Some bump)
    → IsRecordOf airport (all_parts_on airport (settle airport entry visits)) (ranked_part visit (slot_on airport visit number part stand)) bump
bump_is_record airport entry visits visit number part stand bump e =
    let lost = ranked_part visit (slot_on airport visit number part stand) in
    let kept = kept_of airport (all_parts_on airport visits) in
    subst (λ (kept : List Ranked). IsRecordOf airport kept lost bump) (sym (settled_parts_stay airport entry visits))
    (place_by airport kept lost entry bump (best (conflicts airport kept lost)) refl e)
