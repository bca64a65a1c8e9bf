-- Settling takes stands from planned parts and changes nothing else.
use Rattle.std.proofs.Common.{◌≡◌, ◌∙◌, ◌≤◌, ◌⊎◌, ◌+◌, ◌∷◌, [], ℕ, Bool, true, false, List, Option, Some, None, length, map, refl, sym, ap, arith, inl, inr, subst}
use Rattle.std.specs.Prelude.{All}
use Rattle.std.specs.List.{AllByRecursion}
use Rattle.std.proofs.lemmas.Bool.Decides.{nat_tests}
use Rattle.std.proofs.lemmas.List.Elements.{All-from_recursion, recursion_from_All}
use Rattle.apron_base.specs.Histories.{Every}
use Rattle.apron_base.specs.declared.numbers.StandNo.{StandNo}
use Rattle.apron_base.specs.declared.numbers.VisitNo.{VisitNo}
use Rattle.apron_base.specs.declared.numbers.PartId.{PartId}
use Rattle.apron_rules.specs.declared.parts.AirportParts.{AirportParts}
use Rattle.visit_book.specs.declared.visits.Part.{Part}
use Rattle.visit_book.specs.declared.visits.Place.{Place}
use Rattle.visit_book.specs.declared.visits.Place.TheVariants.{Unplaced, Planned, Actual}
use Rattle.visit_book.specs.declared.visits.Visit.{Visit}
use Rattle.visit_book.specs.Numbers.{IsNumbered, IsNumberedAbove, has_number, with_visit}
use Rattle.visit_book.specs.Places.{IsPlaceOf, is_actual, stand_of}
use Rattle.visit_book.specs.WellFormed.{IsEarlyIfShort, IsSpaced, IsWellFormed, latest_end}
use Rattle.bump_core.specs.declared.ranks.Conflict.{Conflict}
use Rattle.bump_core.specs.declared.ranks.Ranked.{Ranked}
use Rattle.bump_core.specs.Kept.{EachMayLose, Loses, MayLose, StaysBut}
use Rattle.bump_core.specs.Lists.{parts_by, place_by, visit_by}
use Rattle.bump_core.specs.Ranks.{all_parts_on, kept_of}
use Rattle.bump_core.specs.Settled.{with_changed}
use Rattle.bump_core.specs.Settle.{place_after, settle, settled_parts, settled_place, settled_visit}

after_may : (entry : ℕ) (stand : StandNo) (found : Option Conflict)
    → (place_after entry stand found ≡ Planned stand) ⊎ Loses entry (Planned stand) (place_after entry stand found)
after_may entry stand None = inl refl
after_may entry stand (Some b) = inr (record { stand = stand; bump = _; planned = refl; unplaced = refl; had = refl; by = refl })

settled_may : (airport : AirportParts) (entry : ℕ) (kept : List Ranked) (visit : Visit) (number : ℕ) (part : Part) (place : Place)
    → (settled_place airport entry kept visit number part place ≡ place) ⊎ Loses entry place (settled_place airport entry kept visit number part place)
settled_may airport entry kept visit number part (Unplaced bump) = inl refl
settled_may airport entry kept visit number part (Actual stand) = inl refl
settled_may airport entry kept visit number part (Planned stand) = after_may entry stand _

settled_each : (airport : AirportParts) (entry : ℕ) (kept : List Ranked) (visit : Visit) (number : ℕ) (parts : List Part)
    → EachMayLose entry parts (settled_parts airport entry kept visit number parts)
settled_each airport entry kept visit number [] = tt
settled_each airport entry kept visit number (part ∷ parts) =
    (record { from = refl; to = refl; place = settled_may airport entry kept visit number part part.place }, settled_each airport entry kept visit (number + 1) parts)

-- a settled visit stays as it is except for stands of planned parts
pub settled_stays : (airport : AirportParts) (entry : ℕ) (kept : List Ranked) (visit : Visit) → StaysBut entry visit (settled_visit airport entry kept visit)
settled_stays airport entry kept visit = record { rest = refl; parts = settled_each airport entry kept visit 1 visit.parts }

by_may : (entry : ℕ) (found : List Conflict) (id : PartId) (place : Place)
    → (place_by entry found id place ≡ place) ⊎ Loses entry place (place_by entry found id place)
by_may entry found id (Unplaced bump) = inl refl
by_may entry found id (Actual stand) = inl refl
by_may entry found id (Planned stand) = after_may entry stand _

by_each : (entry : ℕ) (found : List Conflict) (visit : VisitNo) (number : ℕ) (parts : List Part)
    → EachMayLose entry parts (parts_by entry found visit number parts)
by_each entry found visit number [] = tt
by_each entry found visit number (part ∷ parts) =
    (record { from = refl; to = refl; place = by_may entry found (record { visit = visit; part = number }) part.place }, by_each entry found visit (number + 1) parts)

pub by_stays : (entry : ℕ) (found : List Conflict) (visit : Visit) → StaysBut entry visit (visit_by entry found visit)
by_stays entry found visit = record { rest = refl; parts = by_each entry found visit.number 1 visit.parts }

may_length : (entry : ℕ) (before after : List Part) → EachMayLose entry before after → length after ≡ length before
may_length entry [] [] h = refl
may_length entry [] (other ∷ after) h = absurd h
may_length entry (part ∷ before) [] h = absurd h
may_length entry (part ∷ before) (other ∷ after) h = omega (arith, may_length entry before after h.1)

may_spaced : (entry tow start : ℕ) (before after : List Part) → EachMayLose entry before after → IsSpaced tow start before → IsSpaced tow start after
may_spaced entry tow start [] [] h k = tt
may_spaced entry tow start [] (other ∷ after) h k = absurd h
may_spaced entry tow start (part ∷ before) [] h k = absurd h
may_spaced entry tow start (part ∷ before) (other ∷ after) h k = (
  omega (arith, k.0, h.0.from),
  omega (arith, k.1, h.0.from, h.0.to),
  subst (λ m. IsSpaced tow (m + tow) after) (sym h.0.to) (may_spaced entry tow (part.to + tow) before after h.1 k.2),
)

may_each : (entry : ℕ) (P : Part → Type 0) (before after : List Part) → ((part other : Part) → MayLose entry part other → P part → P other)
    → EachMayLose entry before after
    → AllByRecursion P before → AllByRecursion P after
may_each entry P [] [] keeps h k = tt
may_each entry P [] (other ∷ after) keeps h k = absurd h
may_each entry P (part ∷ before) [] keeps h k = absurd h
may_each entry P (part ∷ before) (other ∷ after) keeps h k = (keeps part other h.0 k.0, may_each entry P before after keeps h.1 k.1)

may_all : (entry : ℕ) (P : Part → Type 0) (before after : List Part) → ((part other : Part) → MayLose entry part other → P part → P other)
    → EachMayLose entry before after → All P before → All P after
may_all entry P before after keeps h k = All-from_recursion P after (may_each entry P before after keeps h (recursion_from_All P before k))

place_of : (airport : AirportParts) (entry : ℕ) (before after : Place) → (after ≡ before) ⊎ Loses entry before after → IsPlaceOf airport before
    → IsPlaceOf airport after
place_of airport entry before after h k = elim h [
  | inl same ↦ subst (IsPlaceOf airport) (sym same) k
  | inr loses ↦ subst (IsPlaceOf airport) (sym loses.unplaced) tt
]

fact_of : (entry : ℕ) (before after : Place) → (after ≡ before) ⊎ Loses entry before after → is_actual before ≡ false → is_actual after ≡ false
fact_of entry before after h k = elim h [
  | inl same ↦ ap is_actual same ∙ k
  | inr loses ↦ ap is_actual loses.unplaced
]

none_of : (entry : ℕ) (before after : Place) → (after ≡ before) ⊎ Loses entry before after → stand_of before ≡ None → stand_of after ≡ None
none_of entry before after h k = elim h [
  | inl same ↦ ap stand_of same ∙ k
  | inr loses ↦ ap stand_of loses.unplaced
]

abbrev with_parts : Visit → List Part → Visit
with_parts visit parts = record visit { parts = parts }

parts_well_formed : (airport : AirportParts) (entry : ℕ) (visit : Visit) (parts : List Part) → EachMayLose entry visit.parts parts
    → IsWellFormed airport visit
    → IsWellFormed airport (with_parts visit parts)
parts_well_formed airport entry visit parts h w = record {
  kind = w.kind;
  class = w.class;
  some = omega (arith, may_length entry visit.parts parts h, w.some);
  few = omega (arith, may_length entry visit.parts parts h, w.few);
  spaced = may_spaced entry airport.tow 0 visit.parts parts h w.spaced;
  ends = may_all entry (λ part. part.to ≤ latest_end airport visit.kind) visit.parts parts (λ part other may e. omega (arith, may.to, e)) h w.ends;
  short = may_all entry (IsEarlyIfShort airport visit.kind) visit.parts parts (λ part other may e. rw (may.from, may.to) e) h w.short;
  places = may_all entry (λ part. IsPlaceOf airport part.place) visit.parts parts (λ part other may e. place_of airport entry part.place other.place may.place e) h w.places;
  facts = λ off. may_all entry (λ part. is_actual part.place ≡ false) visit.parts parts (λ part other may e. fact_of entry part.place other.place may.place e) h (w.facts off);
  cancelled = λ over. may_all entry (λ part. stand_of part.place ≡ None) visit.parts parts (λ part other may e. none_of entry part.place other.place may.place e) h (w.cancelled over);
}

-- a visit that stays as it is except for stands is well formed
pub stays_well_formed : (airport : AirportParts) (entry : ℕ) (before after : Visit) → StaysBut entry before after → IsWellFormed airport before
    → IsWellFormed airport after
stays_well_formed airport entry before after h w =
    let same : with_parts before after.parts ≡ after = ap (λ v. with_parts v after.parts) (sym h.rest) in
    subst (IsWellFormed airport) same (parts_well_formed airport entry before after.parts h.parts w)

settled_all_by : (airport : AirportParts) (entry : ℕ) (kept : List Ranked) (visits : List Visit) → AllByRecursion (IsWellFormed airport) visits
    → AllByRecursion (IsWellFormed airport) (map (settled_visit airport entry kept) visits)
settled_all_by airport entry kept [] h = tt
settled_all_by airport entry kept (visit ∷ visits) h =
    (stays_well_formed airport entry visit (settled_visit airport entry kept visit) (settled_stays airport entry kept visit) h.0, settled_all_by airport entry kept visits h.1)

-- settled visits are well formed
pub settled_well_formed : (airport : AirportParts) (entry : ℕ) (visits : List Visit) → All (IsWellFormed airport) visits
    → All (IsWellFormed airport) (settle airport entry visits)
settled_well_formed airport entry visits h =
    let kept : List Ranked = kept_of airport (all_parts_on airport visits) in
    All-from_recursion (IsWellFormed airport) (settle airport entry visits) (settled_all_by airport entry kept visits (recursion_from_All (IsWellFormed airport) visits h))

settled_numbered_by : (airport : AirportParts) (entry base : ℕ) (kept : List Ranked) (visits : List Visit) → IsNumberedAbove base visits
    → IsNumberedAbove base (map (settled_visit airport entry kept) visits)
settled_numbered_by airport entry base kept [] h = tt
settled_numbered_by airport entry base kept (visit ∷ visits) h = (h.0, settled_numbered_by airport entry (base + 1) kept visits h.1)

-- and numbered as before
pub settled_numbered : (airport : AirportParts) (entry : ℕ) (visits : List Visit) → IsNumbered visits → IsNumbered (settle airport entry visits)
settled_numbered airport entry visits h = settled_numbered_by airport entry 0 (kept_of airport (all_parts_on airport visits)) visits h

-- what holds of each visit, whatever its parts are, holds of each settled one
pub settled_every : (P : Visit → Type 0) → ((visit : Visit) (parts : List Part) → P visit → P (with_parts visit parts))
    → (airport : AirportParts) (entry : ℕ) (visits : List Visit)
    → Every P visits → Every P (settle airport entry visits)
settled_every P keeps airport entry visits h = every (kept_of airport (all_parts_on airport visits)) visits h
  where
    every : (kept : List Ranked) (visits : List Visit) → Every P visits → Every P (map (settled_visit airport entry kept) visits)
    every kept [] h = tt
    every kept (visit ∷ visits) h = (keeps visit (settled_parts airport entry kept visit 1 visit.parts) h.0, every kept visits h.1)

with_first : (base : ℕ) (visits : List Visit) (first visit : Visit) (b : Bool) → has_number visit.number first ≡ b → IsNumberedAbove base (first ∷ visits)
    → IsNumberedAbove (base + 1) (with_visit visits visit) → IsNumberedAbove base (with_visit (first ∷ visits) visit)
with_first base visits first visit true is h rest =
    let same : visit.number.0 ≡ base + 1 = grind (arith, nat_tests, h.0) in rw is (same, h.1)
with_first base visits first visit false is h rest = rw is (h.0, rest)

with_above : (base : ℕ) (visits : List Visit) (visit : Visit) → IsNumberedAbove base visits → IsNumberedAbove base (with_visit visits visit)
with_above base [] visit h = tt
with_above base (first ∷ visits) visit h = with_first base visits first visit (has_number visit.number first) refl h (with_above (base + 1) visits visit h.1)

-- visits with a changed one are numbered as before
pub changed_numbered : (visits : List Visit) (changed : Option Visit) → IsNumbered visits → IsNumbered (with_changed visits changed)
changed_numbered visits None h = h
changed_numbered visits (Some visit) h = with_above 0 visits visit h
