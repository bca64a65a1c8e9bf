-- The edits of a draft, on a working copy of the visits that they change.
use Rattle.std.proofs.Common.{◌≡◌, ◌≤◌, ◌∙◌, ◌+◌, ℕ, Bool, true, false, cond, List, [], ◌∷◌, ap, arith, length, map, refl, subst, sym, Some, Ok, Err}
use Rattle.std.specs.Prelude.{All}
use Rattle.std.proofs.lemmas.List.Elements.{All-filter}
use Rattle.apron_base.specs.Histories.{Rises}
use Rattle.apron_base.specs.declared.slot.Slot.{Slot}
use Rattle.apron_rules.specs.declared.parts.AirportParts.{AirportParts}
use Rattle.apron_rules.specs.Clash.{IsSound}
use Rattle.clash_check.specs.Steps.{steps_of}
use Rattle.stand_index.specs.Slots.{StandSlots}
use Rattle.visit_book.specs.declared.drafts.Draft.{Draft}
use Rattle.visit_book.specs.declared.edits.Edit.{Edit}
use Rattle.visit_book.specs.declared.edits.EditFault.{EditFault}
use Rattle.visit_book.specs.declared.visits.Visit.{Visit}
use Rattle.visit_book.specs.Numbers.{IsNumbered}
use Rattle.visit_book.specs.Slots.{slots_of}
use Rattle.visit_book.specs.WellFormed.{IsWellFormed}
use Rattle.plan_core.specs.Drafts.{id_of}
use Rattle.plan_core.specs.Edits.{after_all_edits, edited_visits, is_edited}
use Rattle.plan_core.specs.Working.{replace_visits}
use Rattle.plan_core.specs.PlanState.{ChangeState, IsPlan, PlanState, visit_number}
use Rattle.plan_core.specs.Rebase.{IsRebased, edited_last, rebase_steps}
use Rattle.plan_core.proofs.Among.{edited_among, refused_among, replaced_edited}
use Rattle.plan_core.proofs.ByNumber.{only}
use Rattle.plan_core.proofs.Changed.{Follows, edited_slots, edits_follow}
use Rattle.plan_core.proofs.Puts.{rises_from}

-- a fact of an airport and visits, moved along their equations
pub moved : (P : AirportParts → List Visit → Type 0) (a b : AirportParts) (vs ws : List Visit) → a ≡ b → vs ≡ ws → P a vs → P b ws
moved P a b vs ws airport visits h = subst (P b) visits (subst (λ x. P x vs) airport h)

pub edited_formed : (plan : PlanState) (edits : List Edit) → IsPlan plan → All (IsWellFormed plan.airport) (edited_visits edits plan.visits)
edited_formed plan edits h =
    All-filter (λ visit. is_edited edits visit.number.0) (IsWellFormed plan.airport) plan.visits (λ k d within. (h.each k d within).well_formed)

-- the edits apply to the plan's visits, and these are the edited ones
pub record Applied (plan : PlanState) (draft : Draft) (edited : List Visit) : Type 0 where
  pub new : List Visit
  pub apply : after_all_edits plan.airport draft.base draft.edits plan.visits ≡ Ok new
  pub bare : edited ≡ edited_visits draft.edits new
  pub whole : replace_visits plan.visits edited ≡ new

pub applied : (plan : PlanState) (draft : Draft) (a : AirportParts) (edits : List Edit) (copy edited : List Visit) → IsNumbered plan.visits → a ≡ plan.airport
    → edits ≡ draft.edits → copy ≡ edited_visits edits plan.visits → after_all_edits a draft.base edits copy ≡ Ok edited → Applied plan draft edited
applied plan draft a edits copy edited numbered airport same is e =
    let made = edited_among plan.airport draft.base draft.edits plan.visits edited
    (subst (λ es. after_all_edits plan.airport draft.base es (edited_visits es plan.visits) ≡ Ok edited) same
    (moved (λ b vs. after_all_edits b draft.base edits vs ≡ Ok edited) a plan.airport copy (edited_visits edits plan.visits) airport is e)) in
    record {
      new = made.0;
      apply = made.1;
      bare = made.2;
      whole = ap (replace_visits plan.visits) made.2 ∙ replaced_edited plan.airport draft.base draft.edits plan.visits made.0 numbered made.1;
    }

pub refused : (plan : PlanState) (draft : Draft) (a : AirportParts) (edits : List Edit) (copy : List Visit) (fault : EditFault) → a ≡ plan.airport
    → edits ≡ draft.edits → copy ≡ edited_visits edits plan.visits → after_all_edits a draft.base edits copy ≡ Err fault
    → after_all_edits plan.airport draft.base draft.edits plan.visits ≡ Err fault
refused plan draft a edits copy fault airport same is e =
    refused_among plan.airport draft.base draft.edits plan.visits fault
    (subst (λ es. after_all_edits plan.airport draft.base es (edited_visits es plan.visits) ≡ Err fault) same
    (moved (λ b vs. after_all_edits b draft.base edits vs ≡ Err fault) a plan.airport copy (edited_visits edits plan.visits) airport is e))

follows_rise : (e : ℕ → Bool) (n high : ℕ) (olds news : List Visit) → n + length olds + 1 ≤ high → Follows e n olds news → Rises visit_number (n + 1) high news
follows_rise e n high [] [] le h = omega (arith, le)
follows_rise e n high (o ∷ olds) (v ∷ news) le h =
    (omega (arith, h.0.number), rises_from (v.number.0 + 1) (n + 1 + 1) high news (omega (arith, h.0.number)) (follows_rise e (n + 1) high olds news (omega (arith, le)) h.1))
follows_rise e n high [] (v ∷ news) le h = absurd h
follows_rise e n high (o ∷ olds) [] le h = absurd h

only_rise : (e : ℕ → Bool) (low high : ℕ) (visits : List Visit) → Rises visit_number low high visits → Rises visit_number low high (only e visits)
only_rise e low high [] h = h
only_rise e low high (v ∷ visits) h = by (e v.number.0) (only_rise e (v.number.0 + 1) high visits h.1)
  where
    by : (b : Bool) → Rises visit_number (v.number.0 + 1) high (only e visits) → Rises visit_number low high (cond b (v ∷ only e visits) (only e visits))
    by true rest = (h.0, rest)
    by false rest = rises_from low (v.number.0 + 1) high (only e visits) (omega (arith, h.0)) rest

-- the numbers of the edited visits rise
pub applied_rise : (plan : PlanState) (draft : Draft) (edited : List Visit) → IsNumbered plan.visits → Applied plan draft edited
    → Rises visit_number 1 (length plan.visits + 1) edited
applied_rise plan draft edited numbered done =
    let e : ℕ → Bool = is_edited draft.edits in
    let follows : Follows e 0 plan.visits done.new = edits_follow plan.airport draft.base 1 draft.edits plan.visits done.new numbered done.apply in
    subst (Rises visit_number 1 (length plan.visits + 1)) (sym done.bare)
    (only_rise e 1 (length plan.visits + 1) done.new (follows_rise e 0 (length plan.visits + 1) plan.visits done.new (omega arith) follows))

-- the steps of a rebase are those of looking near the slots of the edited visits
pub rebase_bound : (plan : PlanState) (draft : Draft) (edited : List Visit) → Applied plan draft edited → {a : AirportParts} {index held : List StandSlots} {slots : List Slot}
    → a ≡ plan.airport → index ≡ held → slots ≡ slots_of plan.airport edited
    → steps_of a index slots ≡ rebase_steps plan.airport held draft.edits (after_all_edits plan.airport draft.base draft.edits plan.visits)
rebase_bound plan draft edited done {a} {index} {held} {slots} airport same own =
    ap (λ b. steps_of b index slots) airport ∙ (ap (λ i. steps_of plan.airport i slots) same ∙ (ap (steps_of plan.airport held) own
    ∙ (ap (λ (vs : List Visit). steps_of plan.airport held (slots_of plan.airport vs)) done.bare ∙ sym (ap (rebase_steps plan.airport held draft.edits) done.apply))))

-- the change that a rebase gives
abbrev pub change_of : Draft → List Visit → List Slot → ℕ → ChangeState
change_of draft visits slots version = record { visits = visits; slots = slots; draft = Some (id_of draft); version = version }

-- the edited visits with the next version, if there is no clash
abbrev pub rebased : (plan : PlanState) (draft : Draft) (edited after : List Visit) (slots : List Slot) (version : ℕ) → (done : Applied plan draft edited)
    → IsSound plan.airport (slots_of plan.airport done.new) → after ≡ map (edited_last version) edited → slots ≡ slots_of plan.airport edited
    → version ≡ plan.version + 1 → IsRebased plan draft (change_of draft after slots version)
rebased plan draft edited after slots version done sound stamps own next = record {
  new = done.new;
  rebases = record { apply = done.apply; sound = sound };
  visits = stamps ∙ ap (map (edited_last version)) done.bare;
  slots = own ∙ (sym (edited_slots plan.airport version edited) ∙ ap (slots_of plan.airport) (sym stamps));
  draft_is = refl;
  version = next;
}
