-- Records of lost stands, before and after settling.
use Rattle.std.proofs.Common.{◌≡◌, ◌∙◌, ◌<◌, ◌≤◌, ◌+◌, ◌∷◌, [], ℕ, false, List, Some, None, refl, sym, ap, arith, inl, inr, subst}
use Rattle.std.specs.Prelude.{All, Contains, length}
use Rattle.std.proofs.lemmas.Bool.Decides.{nat_tests}
use Rattle.std.proofs.lemmas.List.Elements.{All-contains}
use Rattle.apron_base.specs.declared.numbers.StandNo.{StandNo}
use Rattle.apron_rules.specs.declared.parts.AirportParts.{AirportParts}
use Rattle.visit_book.specs.declared.visits.Bump.{Bump}
use Rattle.visit_book.specs.declared.visits.Part.{Part}
use Rattle.visit_book.specs.declared.visits.Place.{Place}
use Rattle.visit_book.specs.declared.visits.Place.TheVariants.{Unplaced, Planned, Actual}
use Rattle.visit_book.specs.declared.visits.Visit.{Visit}
use Rattle.visit_book.specs.Places.{IsPlaceOf}
use Rattle.plan_core.specs.PlanState.{HasBump, IsBumpAt}
use Rattle.plan_core.proofs.Kept.{bump_later}
use Rattle.bump_core.specs.Bumped.{bumped_from, bumped_of, is_bumped_by}
use Rattle.bump_core.specs.Kept.{EachMayLose, MayLose}
use Rattle.bump_core.proofs.Rounds.{Among}
use Rattle.bump_core.proofs.Settled.{among_contained, contained_among}

-- each record of these parts is one of a plan at this version
abbrev pub AreBumpsAt : AirportParts → ℕ → List Part → Type 0
AreBumpsAt airport version parts = (bump : Bump) → HasBump parts bump → IsBumpAt airport version bump

unbumped_by : (version entry : ℕ) (place : Place) → version < entry → ((bump : Bump) → place ≡ Unplaced (Some bump) → bump.entry ≤ version)
    → is_bumped_by entry place ≡ false
unbumped_by version entry (Unplaced None) later up_to = refl
unbumped_by version entry (Unplaced (Some bump)) later up_to =
    let old : bump.entry ≤ version = up_to bump refl in grind (arith, nat_tests)
unbumped_by version entry (Planned stand) later up_to = refl
unbumped_by version entry (Actual stand) later up_to = refl

unbumped_from : (version entry : ℕ) (visit : Visit) (number : ℕ) (parts : List Part) → version < entry
    → ((part : Part) → Among part parts → (bump : Bump) → part.place ≡ Unplaced (Some bump) → bump.entry ≤ version)
    → bumped_from entry visit number parts ≡ []
unbumped_from version entry visit number [] later up_to = refl
unbumped_from version entry visit number (part ∷ parts) later up_to =
    rw (
      unbumped_by version entry part.place later (up_to part (inl refl)),
      unbumped_from version entry visit (number + 1) parts later (λ other in'. up_to other (inr in')),
    ) refl

-- no part lost its stand by a later entry
pub unbumped : (airport : AirportParts) (version entry : ℕ) (visit : Visit) → version < entry → AreBumpsAt airport version visit.parts
    → bumped_of entry visit ≡ []
unbumped airport version entry visit later bumps =
    unbumped_from version entry visit 1 visit.parts later
    (λ part in' bump at. (bumps bump (record { part = part; among = contained_among visit.parts part in'; place = at })).entry)

-- a part after settling and the one that it was
record Was (entry : ℕ) (before : List Part) (part : Part) : Type 0 where
  old : Part
  among : Among old before
  may : MayLose entry old part

was : (entry : ℕ) (before after : List Part) (part : Part) → EachMayLose entry before after → Among part after → Was entry before part
was entry [] [] part h in' = absurd in'
was entry [] (other ∷ after) part h in' = absurd h
was entry (old ∷ before) [] part h in' = absurd in'
was entry (old ∷ before) (other ∷ after) part h in' = elim in' [
  | inl here ↦ record { old = old; among = inl refl; may = subst (MayLose entry old) (sym here) h.0 }
  | inr there ↦ let more : Was entry before part = was entry before after part h.1 there in record { old = more.old; among = inr more.among; may = more.may }
]

same_bump : (bump other : Bump) (place : Place) → place ≡ Unplaced (Some bump) → place ≡ Unplaced (Some other) → bump ≡ other
same_bump bump other place e f = cc

stand_within : (airport : AirportParts) (place : Place) (stand : StandNo) → place ≡ Planned stand → IsPlaceOf airport place → stand.0 < length airport.stands
stand_within airport place stand e h = rw e at h

-- parts of the airport that stay except for stands have records of a plan at the entry's version
pub bumped_later : (airport : AirportParts) (version : ℕ) (before after : List Part) → EachMayLose (version + 1) before after
    → All (λ part. IsPlaceOf airport part.place) before → AreBumpsAt airport version before → AreBumpsAt airport (version + 1) after
bumped_later airport version before after h places bumps = λ bump has.
    let found : Was (version + 1) before has.part = was (version + 1) before after has.part h (among_contained after has.part has.among) in
    let among : Contains before found.old = contained_among before found.old found.among in
    elim found.may.place [
      | inl same ↦
          bump_later airport version (version + 1) bump (omega arith) (bumps bump (record { part = found.old; among = among; place = sym same ∙ has.place }))
      | inr loses ↦
          let it : bump ≡ loses.bump = same_bump bump loses.bump has.part.place has.place loses.unplaced in
          let entry : bump.entry ≡ version + 1 = ap (λ (b : Bump). b.entry) it ∙ loses.by in
          let stand : bump.stand ≡ loses.stand = ap (λ (b : Bump). b.stand) it ∙ loses.had in
          let place : IsPlaceOf airport found.old.place = All-contains (λ part. IsPlaceOf airport part.place) before found.old places among in
          let within : loses.stand.0 < length airport.stands = stand_within airport found.old.place loses.stand loses.planned place in
          record { some = omega (arith, entry); entry = omega (arith, entry); stand = subst (λ (at : StandNo). at.0 < length airport.stands) (sym stand) within }
    ]
