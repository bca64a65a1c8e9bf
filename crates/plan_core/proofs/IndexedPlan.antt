-- A plan keeps the index of its slots.
use Rattle.std.proofs.Common.{◌≡◌, ◌∙◌, ◌<◌, ◌≤◌, ◌+◌, ◌++◌, ℕ, List, [], ◌∷◌, refl, sym, ap, subst, arith, length}
use Rattle.std.specs.Prelude.{All, Contains, ◌↔◌, count_by, filter}
use Rattle.std.specs.List.Sorted.{IsPermutation}
use Rattle.std.proofs.lemmas.List.Elements.{All-head, All-nil, All-tail}
use Rattle.apron_base.specs.declared.numbers.StandNo.{StandNo}
use Rattle.apron_base.specs.declared.slot.Slot.{Slot}
use Rattle.apron_rules.specs.declared.parts.AirportParts.{AirportParts}
use Rattle.clash_check.specs.Clear.{HasPartsOnce, IsClear, others_of}
use Rattle.clash_check.specs.Indexed.{all_slots}
use Rattle.clash_check.specs.Meetings.{by_part}
use Rattle.clash_check.proofs.Ordered.{order_one}
use Rattle.stand_index.specs.Slots.{HasNoSlots, IsIndex, StandSlots, at_stand}
use Rattle.stand_index.proofs.Stands.{empty_index}
use Rattle.visit_book.specs.declared.visits.Visit.{Visit}
use Rattle.visit_book.specs.Slots.{slots_of}
use Rattle.visit_book.specs.WellFormed.{IsWellFormed}
use Rattle.plan_core.specs.declared.drafts.Drafted.{Drafted}
use Rattle.plan_core.specs.Indexed.{IsIndexed, IsIndexedPlan}
use Rattle.plan_core.specs.Indexing.{CanHold, HaveStandsOf, KeepsRoom, is_off_visits, numbers_of}
use Rattle.plan_core.specs.PlanState.{ChangeState, IsInstallable, IsPlan, IsVisitAt, PlanState, empty_plan, is_on, plan_after_change, put_in}
use Rattle.plan_core.proofs.IndexedIn.{can_index}
use Rattle.plan_core.proofs.IndexedOrder.{numbered_rises, slots_ordered, slots_rise}
use Rattle.plan_core.proofs.IndexedOut.{index_clear, left_others, reindexed, stands_of_index}
use Rattle.plan_core.proofs.IndexedVisits.{IsMerged, merged_put}
use Rattle.plan_core.proofs.Kept.{installs}
use Rattle.plan_core.proofs.Puts.{can_put}
use Rattle.plan_core.proofs.SlotLists.{slots_are}

formed : (plan : PlanState) → IsPlan plan → All (IsWellFormed plan.airport) plan.visits
formed plan h = λ k d inside. (h.each k d inside).well_formed

no_slots_at_all : (index : List StandSlots) → All HasNoSlots index → all_slots index ≡ []
no_slots_at_all [] none = refl
no_slots_at_all (slots ∷ index) none =
    let first : HasNoSlots slots = All-head HasNoSlots slots index none in
    let rest : all_slots index ≡ [] = no_slots_at_all index (All-tail HasNoSlots slots index none) in
    ap (λ (xs : List Slot). (xs ++ slots.actual) ++ all_slots index) first.0 ∙ (ap (λ (xs : List Slot). xs ++ all_slots index) first.1 ∙ rest)

-- an index of the airport's stands without slots is that of the plan without visits
pub empty_indexed : (a : AirportParts) (index : List StandSlots) → length index ≡ length a.stands → All HasNoSlots index → IsIndexed a index []
empty_indexed a index long none =
    let no : all_slots index ≡ [] = no_slots_at_all index none in
    record {
      stands = long;
      slots = λ x. (subst (λ (xs : List Slot). Contains xs x → Contains [] x) (sym no) (λ h. h), subst (λ (xs : List Slot). Contains [] x → Contains xs x) (sym no) (λ h. h));
      parts = subst HasPartsOnce (sym no) (λ part. omega arith);
    }

-- an index with as many stands and the same slots is the plan's too
pub same_indexed : (a : AirportParts) (index after : List StandSlots) (visits : List Visit) → IsIndexed a index visits → length after ≡ length index
    → all_slots after ≡ all_slots index → IsIndexed a after visits
same_indexed a index after visits h long same = record {
  stands = long ∙ h.stands;
  slots = λ x. subst (λ (xs : List Slot). Contains xs x ↔ Contains (slots_of a visits) x) (sym same) (h.slots x);
  parts = subst HasPartsOnce (sym same) h.parts;
}

-- the slots of the index, in order of their parts, are those of the visits
pub index_ordered : (plan : PlanState) (index : List StandSlots) → IsIndexedPlan plan index → by_part (all_slots index) ≡ slots_of plan.airport plan.visits
index_ordered plan index h =
    let high : ℕ = length plan.visits + 1 in
    order_one (all_slots index) (slots_of plan.airport plan.visits) h.indexed.parts
    (slots_rise (slots_of plan.airport plan.visits)
    (slots_ordered plan.airport 1 high plan.visits (numbered_rises 0 high plan.visits (omega arith) h.plan_is.numbered) (formed plan h.plan_is)))
    h.indexed.slots

pub plan_clear : (plan : PlanState) (index : List StandSlots) → IsIndexedPlan plan index → IsClear plan.airport index []
plan_clear plan index h = index_clear plan.airport index plan.visits [] h.indexed (formed plan h.plan_is) h.plan_is.sound

-- the stands of the visits are stands of the index
pub visits_stands : (plan : PlanState) (index : List StandSlots) → IsIndexedPlan plan index → All (λ visit. HaveStandsOf (length index) visit.parts) plan.visits
visits_stands plan index h = stands_of_index plan.airport index plan.visits h.indexed.stands (formed plan h.plan_is)

-- and so are those of the slots of well-formed ones
pub slots_stands : (plan : PlanState) (index : List StandSlots) (visits : List Visit) (slots : List Slot) → IsIndexedPlan plan index → All (IsWellFormed plan.airport) visits
    → slots ≡ slots_of plan.airport visits → All (λ slot. slot.stand.0 < length index) slots
slots_stands plan index visits slots h each is =
    subst (All (λ (slot : Slot). slot.stand.0 < length index)) (sym is) (λ k d inside. omega (arith, (slots_are plan.airport visits each k d inside).0, h.indexed.stands))

plan_is : (a : AirportParts) (vs ws : List Visit) (ds es : List Drafted) (n : ℕ) → vs ≡ ws → ds ≡ es
    → ◌≡◌ {A = PlanState} (record { airport = a; visits = vs; drafts = ds; version = n }) (record { airport = a; visits = ws; drafts = es; version = n })
plan_is a vs ws ds es n e f = cc

-- more room changes no plan
pub reserved : (plan : PlanState) (index after : List StandSlots) (vs : List Visit) (ds : List Drafted) → IsIndexedPlan plan index → vs ≡ plan.visits → ds ≡ plan.drafts
    → length after ≡ length index → all_slots after ≡ all_slots index → IsIndex after
    → IsIndexedPlan (record { airport = plan.airport; visits = vs; drafts = ds; version = plan.version }) after
reserved plan index after vs ds h visits drafts long same is =
    subst (λ (s : PlanState). IsIndexedPlan s after) (sym (plan_is plan.airport vs plan.visits ds plan.drafts plan.version visits drafts))
    (record { plan_is = h.plan_is; indexed = same_indexed plan.airport index after plan.visits h.indexed long same; index_is = is })

empty_is : (a : AirportParts) → IsPlan (empty_plan a)
empty_is a = record {
  each = All-nil (IsVisitAt a 0);
  numbered = tt;
  named = tt;
  sound = λ p q m rule in_p in_q is. absurd (omega (arith, in_p.1));
  drafts = record { rising = omega arith; different = tt };
  version = omega arith;
}

-- the plan before any change has an index without slots
pub empty_held : (a : AirportParts) (vs : List Visit) (ds : List Drafted) (index : List StandSlots) → vs ≡ [] → ds ≡ [] → length index ≡ length a.stands → All HasNoSlots index
    → IsIndexedPlan (record { airport = a; visits = vs; drafts = ds; version = 0 }) index
empty_held a vs ds index visits drafts long none =
    subst (λ (s : PlanState). IsIndexedPlan s index) (sym (plan_is a vs [] ds [] 0 visits drafts))
    (record { plan_is = empty_is a; indexed = empty_indexed a index long none; index_is = empty_index index none })

-- what is left of the index of a plan after the old slots of a change are taken out
pub record IsTakenOut (plan : PlanState) (change : ChangeState) (index out : List StandSlots) : Type 0 where
  pub left : all_slots out ≡ filter (is_off_visits plan.visits change.visits) (all_slots index)
  pub room : KeepsRoom index out

pub taken_out : (plan : PlanState) (change : ChangeState) (index out : List StandSlots) (visits changed : List Visit) → visits ≡ plan.visits → changed ≡ change.visits
    → all_slots out ≡ filter (is_off_visits visits changed) (all_slots index) → KeepsRoom index out → IsTakenOut plan change index out
taken_out plan change index out visits changed is are left room = record {
  left = left ∙ (ap (λ (vs : List Visit). filter (is_off_visits vs changed) (all_slots index)) is
      ∙ ap (λ (vs : List Visit). filter (is_off_visits plan.visits vs) (all_slots index)) are);
  room = room;
}

left_is : (plan : PlanState) (change : ChangeState) (index out : List StandSlots) → IsIndexedPlan plan index → IsTakenOut plan change index out
    → all_slots out ≡ others_of index (numbers_of change.visits)
left_is plan change index out h taken = taken.left ∙ left_others plan.airport index plan.visits change.visits h.indexed h.plan_is.numbered (formed plan h.plan_is)

merged : (plan : PlanState) (change : ChangeState) → IsPlan plan → IsInstallable plan change → IsMerged plan.visits change.visits (put_in plan.visits change.visits)
merged plan change h fits = merged_put (length plan.visits) plan.visits change.visits (can_put plan.visits change.visits h.numbered fits.rise fits.same)

-- there is place for the new slots of the change
pub install_place : (plan : PlanState) (change : ChangeState) (index out : List StandSlots) → IsIndexedPlan plan index → IsInstallable plan change
    → ((stand : StandNo) → count_by (is_on stand) change.slots ≤ (at_stand index stand).spare) → IsTakenOut plan change index out → CanHold out change.slots
install_place plan change index out h fits room taken =
    let a = plan.airport in
    subst (CanHold out) (sym fits.slots)
    (can_index a index out plan.visits change.visits (put_in plan.visits change.visits) (length plan.visits + 2) h.indexed (merged plan change h.plan_is fits) h.plan_is.numbered
    (formed plan h.plan_is) (λ k d inside. (fits.each k d inside).well_formed) fits.rise fits.sound (left_is plan change index out h taken) taken.room.stands
    (λ stand. omega (arith, room stand, taken.room.spare stand, ap (λ (xs : List Slot). count_by (is_on stand) xs) fits.slots)))

-- with them it is the index of the plan after the change
pub install_indexed : (plan : PlanState) (change : ChangeState) (index out after : List StandSlots) → IsIndexedPlan plan index → IsInstallable plan change
    → IsTakenOut plan change index out → IsPermutation (all_slots out ++ change.slots) (all_slots after) → length after ≡ length out → IsIndex after
    → IsIndexedPlan (plan_after_change plan change) after
install_indexed plan change index out after h fits taken permuted long is = record {
  plan_is = installs plan change h.plan_is fits;
  indexed = reindexed plan.airport index out after plan.visits change.visits (put_in plan.visits change.visits) (length plan.visits + 2) h.indexed
      (merged plan change h.plan_is fits) (formed plan h.plan_is) (λ k d inside. (fits.each k d inside).well_formed) fits.rise (left_is plan change index out h taken)
      (subst (λ (xs : List Slot). IsPermutation (all_slots out ++ xs) (all_slots after)) fits.slots permuted) (long ∙ taken.room.stands);
  index_is = is;
}
