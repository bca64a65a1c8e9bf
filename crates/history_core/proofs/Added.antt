-- Which entry added a visit.
use Rattle.std.proofs.Common.{◌≡◌, ◌∙◌, ◌⊎◌, ◌+◌, ◌++◌, ◌∷◌, [], ℕ, Bool, true, false, List, length, None, Some, append_assoc, length-append, refl, sym, ap, subst, arith, inl, inr, if◌then◌else◌}
use Rattle.std.specs.Cmp.Lexicographic.{bytes_decides}
use Rattle.std.specs.Str.{bytes_eq}
use Rattle.apron_base.specs.Histories.{Every}
use Rattle.apron_base.specs.declared.numbers.VisitNo.{VisitNo}
use Rattle.apron_rules.specs.declared.parts.AirportParts.{AirportParts}
use Rattle.visit_book.specs.declared.edits.Edit.{Edit}
use Rattle.visit_book.specs.declared.visits.NewVisit.{NewVisit}
use Rattle.visit_book.specs.declared.visits.Visit.{Visit}
use Rattle.visit_book.specs.NewVisits.{IsNewVisitOf, new_of}
use Rattle.visit_book.specs.Numbers.{IsNumbered, has_number, visit_at}
use Rattle.plan_core.specs.Adding.{next_visit}
use Rattle.plan_core.specs.Edits.{is_edited}
use Rattle.plan_core.specs.Names.{has_name, visit_named}
use Rattle.plan_core.specs.PlanState.{IsSameVisit, PlanState, empty_plan}
use Rattle.plan_core.specs.Rebase.{edited_last, stamp, visits_after_commit}
use Rattle.plan_core.proofs.Changed.{Follows, edits_follow}
use Rattle.desk_asks.specs.Commands.{IsCommandOf}
use Rattle.desk_asks.specs.declared.asks.Command.{Command}
use Rattle.desk_asks.specs.declared.asks.Command.TheVariants.{AddVisit, Commit, Message, Report, Cancel}
use Rattle.desk_asks.specs.declared.asks.Entry.{Entry}
use Rattle.history_core.specs.History.{AreTakenFrom, IsLegal, after_entries, replay}
use Rattle.history_core.specs.Laws.{HasAdded, HasEntry, HasVisit, IsAddedBy}
use Rattle.history_core.specs.Acceptance.{IsTaken, after_command}
use Rattle.history_core.proofs.Happenings.{cancel_keeps, message_keeps, report_keeps}
use Rattle.history_core.proofs.Kept.{all_last, edits_leave, found_has}
use Rattle.history_core.proofs.KeptVisits.{AreKept, IsKept, all_kept}
use Rattle.history_core.proofs.Replay.{command_numbered, command_version, commits, taken_of}

-- each visit was added by an entry of this history
module _ (whole : List Entry) where
  abbrev IsAdded : Visit → Type 0
  IsAdded visit = HasAdded whole visit.added (new_of visit)

  stamped_one : (version : ℕ) (visit : Visit) (here : Bool) → IsAdded visit → IsAdded (if here then edited_last version visit else visit)
  stamped_one version visit true is = is
  stamped_one version visit false is = is

  stamped_added : (version : ℕ) (edits : List Edit) (visits : List Visit) → Every IsAdded visits → Every IsAdded (visits_after_commit version edits visits)
  stamped_added version edits [] all = tt
  stamped_added version edits (visit ∷ visits) all =
      (stamped_one version visit (is_edited edits visit.number.0) all.0, stamped_added version edits visits all.1)

  kept_one : (old new : Visit) → IsKept old new → IsAdded old → IsAdded new
  kept_one old new kept is =
      subst (λ (n : ℕ). HasAdded whole n (new_of new)) (sym kept.same.added) (subst (HasAdded whole old.added) (sym kept.same.new) is)

  -- the entries so far, and one more
  command_added : (plan : PlanState) (before : List Entry) (entry : Entry) (after : List Entry) (command : Command) → entry.command ≡ command
      → whole ≡ before ++ entry ∷ after → plan.version ≡ length before → IsTaken plan command → IsNumbered plan.visits → Every IsAdded plan.visits
      → Every IsAdded (after_command plan command).visits
  command_added plan before entry after (AddVisit new) is here counted taken numbered all =
      let has : HasEntry whole (plan.version + 1) entry = record { before = before; after = after; is = here; counted = omega arith } in
      all_last IsAdded plan.visits (next_visit plan new) all (entry, has, is)
  command_added plan before entry after (Commit draft) is here counted taken numbered all =
      let made = commits plan draft taken in
      let left = edits_leave IsAdded (λ visit parts added. added) plan.airport draft.base 1 draft.edits plan.visits made.new made.apply all in
      subst (λ (p : PlanState). Every IsAdded p.visits) (sym made.makes) (stamped_added (plan.version + 1) draft.edits made.new left)
  command_added plan before entry after (Message passed) is here counted taken numbered all =
      all_kept IsAdded kept_one plan.visits (after_command plan (Message passed)).visits (message_keeps plan passed.message numbered) all
  command_added plan before entry after (Report report) is here counted taken numbered all =
      all_kept IsAdded kept_one plan.visits (after_command plan (Report report)).visits (report_keeps plan report) all
  command_added plan before entry after (Cancel number) is here counted taken numbered all =
      all_kept IsAdded kept_one plan.visits (after_command plan (Cancel number)).visits (cancel_keeps plan number numbered) all

  all_added : (plan : PlanState) (count : ℕ) (before rest : List Entry) → whole ≡ before ++ rest → plan.version ≡ length before → AreTakenFrom plan count rest
      → IsNumbered plan.visits → Every IsAdded plan.visits → Every IsAdded (after_entries plan rest).visits
  all_added plan count before [] here counted taken numbered all = all
  all_added plan count before (entry ∷ rest) here counted taken numbered all =
      let next : (after_command plan entry.command).version ≡ plan.version + 1 = command_version plan entry.command taken.1.0 in
      let more : length (before ++ entry ∷ []) ≡ length before + 1 = length-append before (entry ∷ []) in
      let there : whole ≡ (before ++ entry ∷ []) ++ rest = rw append_assoc here in
      all_added (after_command plan entry.command) (count + 1) (before ++ entry ∷ []) rest there (omega arith) taken.2
      (command_numbered plan entry.command taken.1.0 numbered) (command_added plan before entry rest entry.command refl here counted taken.1.0 numbered all)

history_added : (airport : AirportParts) (history : List Entry) → IsLegal airport history → Every (IsAdded history) (replay airport history).visits
history_added airport history legal = all_added history (empty_plan airport) 0 [] history refl refl legal.taken tt tt

-- a visit was added with data that are valid at the airport
pub added_new : (airport : AirportParts) (history : List Entry) (number : VisitNo) (visit : Visit) → IsLegal airport history
    → visit_at (replay airport history).visits number ≡ Some visit → IsNewVisitOf airport (new_of visit)
added_new airport history number visit legal found =
    let added : HasAdded history visit.added (new_of visit) =
    found_has (IsAdded history) (has_number number) (replay airport history).visits visit (history_added airport history legal) found in
    let has : HasEntry history visit.added added.0 = added.1 in
    let taken = subst (AreTakenFrom (empty_plan airport) 0) has.is legal.taken in
    subst (IsCommandOf airport) added.2 (taken_of (empty_plan airport) 0 has.before added.0 has.after taken)

-- a visit that an entry added stays
module _ (version : ℕ) (added : NewVisit) where
  abbrev IsThis : Visit → Type 0
  IsThis visit = IsAddedBy version added visit

  abbrev Finds : List Visit → Type 0
  Finds visits = HasVisit visits version added

  -- the first has the name, or a visit after it has
  parted_if : (first visit : Visit) (visits : List Visit) (here : Bool) → (if here then Some first else visit_named visits added.name) ≡ Some visit → IsThis visit
      → ((here ≡ true) × IsThis first) ⊎ ((here ≡ false) × Finds visits)
  parted_if first visit visits true found is = let same : visit ≡ first = cc in inl (refl, subst IsThis same is)
  parted_if first visit visits false found is = inr (refl, (visit, found, is))

  parted : (first : Visit) (visits : List Visit) → Finds (first ∷ visits)
      → ((has_name added.name first ≡ true) × IsThis first) ⊎ ((has_name added.name first ≡ false) × Finds visits)
  parted first visits (visit, found, is) = parted_if first visit visits (has_name added.name first) found is

  found_first : (first : Visit) (visits : List Visit) → has_name added.name first ≡ true → IsThis first → Finds (first ∷ visits)
  found_first first visits named is = (first, rw named refl, is)

  found_later : (first : Visit) (visits : List Visit) → has_name added.name first ≡ false → Finds visits → Finds (first ∷ visits)
  found_later first visits named (visit, found, is) = (visit, rw named found, is)

  last_stays : (visits : List Visit) (last : Visit) → Finds visits → Finds (visits ++ last ∷ [])
  last_stays [] last (visit, found, is) = absurd (cc)
  last_stays (first ∷ visits) last finds = elim (parted first visits finds) [
    | inl here ↦ found_first first (visits ++ last ∷ []) here.0 here.1
    | inr later ↦ found_later first (visits ++ last ∷ []) later.0 (last_stays visits last later.1)
  ]

  last_found : (visits : List Visit) (last : Visit) → visit_named visits added.name ≡ None → has_name added.name last ≡ true → IsThis last
      → Finds (visits ++ last ∷ [])
  last_found [] last none named is = found_first last [] named is
  last_found (first ∷ visits) last none named is = last_behind first visits last (has_name added.name first) refl none (λ later. last_found visits last later named is)
    where
      last_behind : (first : Visit) (visits : List Visit) (last : Visit) (here : Bool) → has_name added.name first ≡ here
          → (if here then Some first else visit_named visits added.name) ≡ None → (visit_named visits added.name ≡ None → Finds (visits ++ last ∷ []))
          → Finds (first ∷ visits ++ last ∷ [])
      last_behind first visits last true other none later = absurd (cc)
      last_behind first visits last false other none later = found_later first (visits ++ last ∷ []) other (later none)

  same_name : (old new : Visit) → IsSameVisit new old → has_name added.name old ≡ has_name added.name new
  same_name old new same = ap (λ (n : NewVisit). bytes_eq added.name n.name) (sym same.new)

  same_finds : (old new : Visit) (olds news : List Visit) → IsSameVisit new old → (Finds olds → Finds news) → Finds (old ∷ olds) → Finds (new ∷ news)
  same_finds old new olds news same rest finds =
      let name : has_name added.name old ≡ has_name added.name new = same_name old new same in
      elim (parted old olds finds) [
        | inl here ↦ found_first new news (sym name ∙ here.0) (same.new ∙ here.1.0, same.added ∙ here.1.1)
        | inr later ↦ found_later new news (sym name ∙ later.0) (rest later.1)
      ]

  follows_finds : (e : ℕ → Bool) (number : ℕ) (olds news : List Visit) → Follows e number olds news → Finds olds → Finds news
  follows_finds e number [] [] follows finds = finds
  follows_finds e number (old ∷ olds) (new ∷ news) follows finds =
      same_finds old new olds news follows.0.same (follows_finds e (number + 1) olds news follows.1) finds
  follows_finds e number [] (new ∷ news) follows finds = absurd follows
  follows_finds e number (old ∷ olds) [] follows finds = absurd follows

  kept_finds : (olds news : List Visit) → AreKept olds news → Finds olds → Finds news
  kept_finds [] [] kept finds = finds
  kept_finds (old ∷ olds) (new ∷ news) kept finds = same_finds old new olds news kept.0.same (kept_finds olds news kept.1) finds
  kept_finds [] (new ∷ news) kept finds = absurd kept
  kept_finds (old ∷ olds) [] kept finds = absurd kept

  stamped_same : (made : ℕ) (visit : Visit) (here : Bool) → IsSameVisit (if here then edited_last made visit else visit) visit
  stamped_same made visit true = record { new = refl; added = refl }
  stamped_same made visit false = record { new = refl; added = refl }

  stamped_finds : (made : ℕ) (edits : List Edit) (visits : List Visit) → Finds visits → Finds (visits_after_commit made edits visits)
  stamped_finds made edits [] finds = finds
  stamped_finds made edits (visit ∷ visits) finds =
      same_finds visit (stamp made edits visit) visits (visits_after_commit made edits visits) (stamped_same made visit (is_edited edits visit.number.0))
      (stamped_finds made edits visits) finds

  command_finds : (plan : PlanState) (command : Command) → IsTaken plan command → IsNumbered plan.visits → Finds plan.visits → Finds (after_command plan command).visits
  command_finds plan (AddVisit new) taken numbered finds = last_stays plan.visits (next_visit plan new) finds
  command_finds plan (Commit draft) taken numbered finds =
      let made = commits plan draft taken in
      let follows = edits_follow plan.airport draft.base 1 draft.edits plan.visits made.new numbered made.apply in
      subst (λ (p : PlanState). Finds p.visits) (sym made.makes)
      (stamped_finds (plan.version + 1) draft.edits made.new (follows_finds (is_edited draft.edits) 0 plan.visits made.new follows finds))
  command_finds plan (Message passed) taken numbered finds =
      kept_finds plan.visits (after_command plan (Message passed)).visits (message_keeps plan passed.message numbered) finds
  command_finds plan (Report report) taken numbered finds =
      kept_finds plan.visits (after_command plan (Report report)).visits (report_keeps plan report) finds
  command_finds plan (Cancel number) taken numbered finds =
      kept_finds plan.visits (after_command plan (Cancel number)).visits (cancel_keeps plan number numbered) finds

  all_finds : (plan : PlanState) (count : ℕ) (history : List Entry) → AreTakenFrom plan count history → IsNumbered plan.visits → Finds plan.visits
      → Finds (after_entries plan history).visits
  all_finds plan count [] taken numbered finds = finds
  all_finds plan count (entry ∷ history) taken numbered finds =
      all_finds (after_command plan entry.command) (count + 1) history taken.2 (command_numbered plan entry.command taken.1.0 numbered)
      (command_finds plan entry.command taken.1.0 numbered finds)

  entry_finds : (plan : PlanState) (command : Command) → command ≡ AddVisit added → version ≡ plan.version + 1 → IsTaken plan command
      → Finds (after_command plan command).visits
  entry_finds plan command is made taken =
      let unnamed : visit_named plan.visits added.name ≡ None = subst (IsTaken plan) is taken in
      let named : has_name added.name (next_visit plan added) ≡ true = (bytes_decides added.name added.name).1 refl in
      subst (λ (c : Command). Finds (after_command plan c).visits) (sym is)
      (last_found plan.visits (next_visit plan added) unnamed named (refl, sym made))

  added_found : (plan : PlanState) (count : ℕ) (before : List Entry) (entry : Entry) (after : List Entry) → AreTakenFrom plan count (before ++ entry ∷ after)
      → IsNumbered plan.visits → entry.command ≡ AddVisit added → version ≡ plan.version + length before + 1 → Finds (after_entries plan (before ++ entry ∷ after)).visits
  added_found plan count [] entry after taken numbered is made =
      all_finds (after_command plan entry.command) (count + 1) after taken.2 (command_numbered plan entry.command taken.1.0 numbered) (entry_finds plan entry.command is (omega arith) taken.1.0)
  added_found plan count (e ∷ before) entry after taken numbered is made =
      let next : (after_command plan e.command).version ≡ plan.version + 1 = command_version plan e.command taken.1.0 in
      added_found (after_command plan e.command) (count + 1) before entry after taken.2 (command_numbered plan e.command taken.1.0 numbered) is (omega arith)

-- the visits of a plan are those that entries added
pub visits_added : (airport : AirportParts) (history : List Entry) (version : ℕ) (new : NewVisit) → IsLegal airport history
    → (HasVisit (replay airport history).visits version new → HasAdded history version new)
    × (HasAdded history version new → HasVisit (replay airport history).visits version new)
visits_added airport history version new legal = (
  λ (visit, found, is).
      let added : HasAdded history visit.added (new_of visit) =
      found_has (IsAdded history) (has_name new.name) (replay airport history).visits visit (history_added airport history legal) found in
      subst (λ (n : ℕ). HasAdded history n new) is.1 (subst (HasAdded history visit.added) is.0 added),
  λ (entry, has, is).
      let taken = subst (AreTakenFrom (empty_plan airport) 0) has.is legal.taken in
      subst (λ (es : List Entry). HasVisit (replay airport es).visits version new) (sym has.is)
      (added_found version new (empty_plan airport) 0 has.before entry has.after taken tt is (let counted = has.counted in omega arith)),
)
