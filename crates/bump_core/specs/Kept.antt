-- What settling keeps.
use Rattle.std.specs.Prelude.{◌≡◌, ◌+◌, ◌⊎◌, ◌∷◌, [], ℕ, List, Option, Some, All}
use Rattle.apron_base.specs.declared.numbers.StandNo.{StandNo}
use Rattle.visit_book.specs.declared.visits.Bump.{Bump}
use Rattle.visit_book.specs.declared.visits.Part.{Part}
use Rattle.visit_book.specs.declared.visits.Place.{Place}
use Rattle.visit_book.specs.declared.visits.Place.TheVariants.{Unplaced, Planned}
use Rattle.visit_book.specs.declared.visits.Visit.{Visit}
use Rattle.plan_core.specs.Moving.{IsMovable}
use Rattle.plan_core.specs.PlanState.{PlanState, put_in}
use Rattle.bump_core.specs.Bumped.{bumped_by}
use Rattle.bump_core.specs.Settle.{settle}
use Rattle.bump_core.specs.Settled.{IsChangedBy, with_changed}

-- a planned part lost its stand by the entry
pub record Loses (entry : ℕ) (before after : Place) : Type 0 where
  pub stand : StandNo
  pub bump : Bump
  pub planned : before ≡ Planned stand
  pub unplaced : after ≡ Unplaced (Some bump)
  pub had : bump.stand ≡ stand
  pub by : bump.entry ≡ entry

-- the part is as it was, except that it may have lost its stand
pub record MayLose (entry : ℕ) (before after : Part) : Type 0 where
  pub from : after.from ≡ before.from
  pub to : after.to ≡ before.to
  pub place : (after.place ≡ before.place) ⊎ Loses entry before.place after.place

-- each part of a list is as it was, except that it may have lost its stand
abbrev pub EachMayLose : ℕ → List Part → List Part → Type 0
EachMayLose entry [] [] = Unit {0}
EachMayLose entry [] (part ∷ after) = ⊥
EachMayLose entry (part ∷ before) [] = ⊥
EachMayLose entry (part ∷ before) (other ∷ after) = MayLose entry part other
    × EachMayLose entry before after

-- the visit is as it was, except that some of its planned parts may have lost their stands
pub record StaysBut (entry : ℕ) (before after : Visit) : Type 0 where
  pub rest : record after { parts = before.parts } ≡ before
  pub parts : EachMayLose entry before.parts after.parts

-- the visits that the plan's next entry changes, if it changes this visit or none: they can be put
-- in; the visits with them are settled; each is the changed one or lost a stand by the entry; and
-- they have all the parts that did
pub record AreChanges (plan : PlanState) (changed : Option Visit)
    (changes : List Visit) : Type 0 where
  pub movable : IsMovable plan changes
  pub settled : put_in plan.visits changes
      ≡ settle plan.airport (plan.version + 1) (with_changed plan.visits changed)
  pub needed : All (IsChangedBy (plan.version + 1) changed) changes
  pub bumped : bumped_by (plan.version + 1) changes
      ≡ bumped_by (plan.version + 1)
      (settle plan.airport (plan.version + 1) (with_changed plan.visits changed))
