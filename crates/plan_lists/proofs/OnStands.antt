-- Listed parts are on stands, or on none.
use Rattle.std.proofs.Common.{◌≡◌, ◌∷◌, [], ℕ, Bool, true, false, List, map, refl}
use Rattle.std.specs.Prelude.{All, Contains, IsSome, Option, None, Some, filter, is_none, option_map, if◌then◌else◌}
use Rattle.std.specs.List.{flat_map}
use Rattle.std.proofs.lemmas.List.Elements.{All-append, All-contains, All-contains_itself, All-map, All-nil, All-weaker, filter_passes}
use Rattle.apron_base.specs.declared.numbers.StandNo.{StandNo}
use Rattle.apron_base.specs.declared.slot.Slot.{Slot}
use Rattle.apron_rules.specs.declared.parts.AirportParts.{AirportParts}
use Rattle.visit_book.specs.declared.visits.Visit.{Visit}
use Rattle.visit_book.specs.Ends.{is_live}
use Rattle.visit_book.specs.Places.{stand_of}
use Rattle.visit_book.specs.Slots.{slot_on}
use Rattle.plan_core.specs.PlanState.{PlanState}
use Rattle.visit_book.specs.declared.visits.PartRow.{PartRow}
use Rattle.plan_lists.specs.declared.waiting.Waiting.{Waiting}
use Rattle.plan_lists.specs.Held.{held_of, held_on, holds_on, is_held_on}
use Rattle.plan_lists.specs.Rows.{rows_of}
use Rattle.plan_lists.specs.Unplaced.{by_rank, is_unplaced_row, unplaced_parts, waiting_of, with_rank}
use Rattle.plan_lists.proofs.Ranks.{ordered_from}

-- the part is on a stand
abbrev IsOnStand : PartRow → Type 0
IsOnStand row = IsSome (stand_of row.part.place)

-- the part is on no stand
abbrev IsNowhere : PartRow → Type 0
IsNowhere row = stand_of row.part.place ≡ None

all_listed : {X Y : Type 0} (P : Y → Type 0) (f : X → List Y) (xs : List X) → ((x : X) → All P (f x)) → All P (flat_map f xs)
all_listed P f [] each = All-nil P
all_listed P f (x ∷ xs) each = All-append P (f x) (flat_map f xs) (each x) (all_listed P f xs each)

held_by : (day : ℕ) (slot : StandNo → Slot) (stand : Option StandNo) → is_held_on day (option_map slot stand) ≡ true → IsSome stand
unfolding is_held_on
held_by day slot None h = absurd (cc)
held_by day slot (Some stand) h = refl

held_is_on : (airport : AirportParts) (day : ℕ) (visit : Visit) (row : PartRow) → holds_on airport day visit row ≡ true → IsOnStand row
held_is_on airport day visit row h = held_by day (slot_on airport visit row.id.part row.part) (stand_of row.part.place) h

-- the parts that hold a stand on a day are on stands
pub held_are_on : (plan : PlanState) (day : ℕ) → All IsOnStand (held_on plan day)
held_are_on plan day =
    all_listed IsOnStand (held_of plan.airport day) plan.visits (λ visit.
    All-weaker (λ row. holds_on plan.airport day visit row ≡ true) IsOnStand (held_is_on plan.airport day visit)
    (filter (holds_on plan.airport day visit) (rows_of visit)) (filter_passes (holds_on plan.airport day visit) (rows_of visit)))

nowhere_by : (stand : Option StandNo) → is_none stand ≡ true → stand ≡ None
nowhere_by None h = refl
nowhere_by (Some stand) h = absurd (cc)

waits_if : (visit : Visit) (live : Bool) → All (λ part. IsNowhere part.row) (if live then map (with_rank visit) (filter is_unplaced_row (rows_of visit)) else [])
waits_if visit false = All-nil (λ (part : Waiting). IsNowhere part.row)
waits_if visit true =
    All-map (λ (part : Waiting). IsNowhere part.row) (with_rank visit) (filter is_unplaced_row (rows_of visit))
    (All-weaker (λ row. is_unplaced_row row ≡ true) IsNowhere (λ row h. nowhere_by (stand_of row.part.place) h) (filter is_unplaced_row (rows_of visit)) (filter_passes is_unplaced_row (rows_of visit)))

-- the parts that wait for a stand are on none
pub waiting_are_nowhere : (plan : PlanState) → All IsNowhere (unplaced_parts plan)
waiting_are_nowhere plan =
    let P : Waiting → Type 0 = λ part. IsNowhere part.row in
    let parts = flat_map waiting_of plan.visits in
    All-map IsNowhere (λ (part : Waiting). part.row) (by_rank parts)
    (All-weaker (Contains (by_rank parts)) P
    (λ part h. All-contains P parts part (all_listed P waiting_of plan.visits (λ visit. waits_if visit (is_live visit))) (ordered_from parts part h))
    (by_rank parts) (All-contains_itself (by_rank parts)))
