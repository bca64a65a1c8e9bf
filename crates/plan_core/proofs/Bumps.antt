-- Changes of parts that leave only such records of what took a stand as were there before.
use Rattle.std.proofs.Common.{◌≡◌, ℕ, zero, suc, List, [], ◌∷◌, None, Some}
use Rattle.std.specs.Prelude.{All, slice_set}
use Rattle.std.proofs.lemmas.List.Elements.{All-contains, All-contains_itself, All-from_recursion, recursion_from_All}
use Rattle.apron_base.specs.declared.numbers.StandNo.{StandNo}
use Rattle.visit_book.specs.declared.visits.Bump.{Bump}
use Rattle.visit_book.specs.declared.visits.Part.{Part}
use Rattle.visit_book.specs.declared.visits.Place.{Place}
use Rattle.visit_book.specs.declared.visits.Place.TheVariants.{Planned, Unplaced}
use Rattle.visit_book.proofs.Stands.{AllPlaces}
use Rattle.plan_core.specs.PlanState.{HasBump}

-- each record of the first parts is one of the second
abbrev pub HaveNoNewBump : List Part → List Part → Type 0
HaveNoNewBump new old = (bump : Bump) → HasBump new bump → HasBump old bump

-- if something holds of the old places, of every planned place and of a place without a record, and
-- so of the new places, the new parts have no new record
pub no_new_bump : (new old : List Part)
    → ((Holds : Place → Type 0) → ((stand : StandNo) → Holds (Planned stand)) → Holds (Unplaced None) → AllPlaces Holds old → AllPlaces Holds new)
    → HaveNoNewBump new old
no_new_bump new old keep bump has =
    let each : All (λ part. Holds part.place) new = All-from_recursion (λ part. Holds part.place) new
    (keep Holds (λ stand is. absurd (cc)) (λ is. absurd (cc)) (recursion_from_All (λ part. Holds part.place) old own)) in
    All-contains (λ part. Holds part.place) new has.part each has.among has.place
  where
    Holds : Place → Type 0
    Holds place = place ≡ Unplaced (Some bump) → HasBump old bump

    own : All (λ part. part.place ≡ Unplaced (Some bump) → HasBump old bump) old
    own = λ k d within is. record { part = _; among = All-contains_itself old k d within; place = is }

-- if no part has a record there is none
pub no_bump_in : (parts : List Part) → All (λ part. part.place ≡ Unplaced None) parts → (bump : Bump) → HasBump parts bump → ⊥
no_bump_in parts each bump has =
    let none : has.part.place ≡ Unplaced None = All-contains (λ part. part.place ≡ Unplaced None) parts has.part each has.among in
    cc (has.place)

-- another part in the place of one
pub set_places : (Holds : Place → Type 0) (parts : List Part) (j : ℕ) (part : Part) → Holds part.place → AllPlaces Holds parts → AllPlaces Holds (slice_set parts j part)
set_places Holds [] j part here h = tt
set_places Holds (p ∷ parts) zero part here h = (here, h.1)
set_places Holds (p ∷ parts) (suc j) part here h = (h.0, set_places Holds parts j part here h.1)
