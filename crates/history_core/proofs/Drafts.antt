-- Which entries made the drafts of a plan.
use Rattle.std.proofs.Common.{◌≡◌, ◌∙◌, ◌⊎◌, ◌+◌, ◌++◌, ◌∷◌, ◌&&◌, ◌==◌, [], ℕ, Bool, true, false, List, length, Option, None, Some, Result, Ok, Err, cond, refl, sym, ap, subst, arith, inl, inr}
use Rattle.std.specs.Cmp.Lexicographic.{bytes_decides}
use Rattle.std.specs.Str.{bytes_eq}
use Rattle.std.proofs.lemmas.Bool.Decides.{nat_tests}
use Rattle.apron_rules.specs.declared.parts.AirportParts.{AirportParts}
use Rattle.visit_book.specs.declared.drafts.Draft.{Draft}
use Rattle.visit_book.specs.declared.visits.Visit.{Visit}
use Rattle.plan_core.specs.Drafts.{draft_version, id_of, is_draft}
use Rattle.plan_core.specs.PlanState.{PlanState, empty_plan}
use Rattle.plan_core.proofs.DraftIndex.{version_pushed}
use Rattle.desk_asks.specs.declared.asks.Command.{Command}
use Rattle.desk_asks.specs.declared.asks.Command.TheVariants.{AddVisit, Commit, Message, Report, Cancel}
use Rattle.desk_asks.specs.declared.asks.Entry.{Entry}
use Rattle.history_core.specs.History.{AreTakenFrom, IsLegal, after_entries, replay}
use Rattle.history_core.specs.Laws.{HasCommit, HasEntry, IsCommitOf}
use Rattle.desk_words.specs.declared.replies.Denial.{Denial}
use Rattle.history_core.specs.Acceptance.{IsTaken, after_command, cancellable, cancelled_if}
use Rattle.history_core.proofs.Replay.{Commits, command_version, commits}

module _ (desk : List ℕ) (number : ℕ) where
  -- the version that this draft made
  abbrev version_in : PlanState → Option ℕ
  version_in plan = draft_version plan.drafts desk number

  -- a command is the commit of this draft, which made no version before and makes the next one
  record MakesThis (plan : PlanState) (command : Command) : Type 0 where
    is : IsCommitOf desk number command
    before : version_in plan ≡ None
    after : version_in (after_command plan command) ≡ Some (plan.version + 1)

  -- a command is something else, and leaves the version of this draft
  record LeavesThis (plan : PlanState) (command : Command) : Type 0 where
    other : IsCommitOf desk number command → ⊥
    same : version_in (after_command plan command) ≡ version_in plan

  abbrev DoesToThis : PlanState → Command → Type 0
  DoesToThis plan command = MakesThis plan command ⊎ LeavesThis plan command

  both_tests : (names : Bool) (of : List ℕ) (draft : ℕ) → bytes_eq desk of ≡ names → (names && (number == draft)) ≡ true → (of ≡ desk) × (draft ≡ number)
  both_tests true of draft is h = (sym ((bytes_decides desk of).0 is), grind (arith, nat_tests))
  both_tests false of draft is h = absurd (cc)

  -- a draft of this desk and number
  is_this : (draft : Draft) → is_draft desk number (id_of draft) ≡ true → (draft.desk ≡ desk) × (draft.number ≡ number)
  is_this draft is = both_tests (bytes_eq desk draft.desk) draft.desk draft.number refl is

  this_is : (draft : Draft) → draft.desk ≡ desk → draft.number ≡ number → is_draft desk number (id_of draft) ≡ true
  this_is draft same_desk same_number =
      let names : bytes_eq desk draft.desk ≡ true = (bytes_decides desk draft.desk).1 (sym same_desk) in
      let numbers : (number == draft.number) ≡ true = grind (arith, nat_tests, same_number) in
      rw (names, numbers) refl

  unused_this : (plan : PlanState) (draft : Draft) → draft_version plan.drafts draft.desk draft.number ≡ None → is_draft desk number (id_of draft) ≡ true
      → version_in plan ≡ None
  unused_this plan draft unused is =
      let same = is_this draft is in
      subst (λ (d : List ℕ). draft_version plan.drafts d number ≡ None) same.0
      (subst (λ (n : ℕ). draft_version plan.drafts draft.desk n ≡ None) same.1 unused)

  -- the version of this draft after a commit that is taken
  pushed : (plan : PlanState) (draft : Draft) (made : Commits plan draft) (this : Bool) → is_draft desk number (id_of draft) ≡ this
      → version_in (after_command plan (Commit draft)) ≡ cond this (Some (plan.version + 1)) (version_in plan)
  pushed plan draft made this is =
      ap version_in made.makes
      ∙ version_pushed plan.drafts (record { id = id_of draft; version = plan.version + 1 }) desk number this is (λ this_one. unused_this plan draft made.unused (is ∙ this_one))

  commit_does : (plan : PlanState) (draft : Draft) → Commits plan draft
      → (this : Bool) → is_draft desk number (id_of draft) ≡ this → DoesToThis plan (Commit draft)
  commit_does plan draft made true is =
      inl (record { is = is_this draft is; before = unused_this plan draft made.unused is; after = pushed plan draft made true is })
  commit_does plan draft made false is =
      inr (record { other = λ same. absurd (let this_one = this_is draft same.0 same.1 in cc); same = pushed plan draft made false is })

  cancelled_leaves : (plan : PlanState) (found : Result Visit Denial) → version_in (cancelled_if plan found) ≡ version_in plan
  cancelled_leaves plan (Ok visit) = refl
  cancelled_leaves plan (Err why) = refl

  -- a taken command makes the version of this draft, or leaves it
  does_to_this : (plan : PlanState) (command : Command) → IsTaken plan command → DoesToThis plan command
  does_to_this plan (AddVisit new) taken = inr (record { other = λ same. same; same = refl })
  does_to_this plan (Commit draft) taken =
      commit_does plan draft (commits plan draft taken) (is_draft desk number (id_of draft)) refl
  does_to_this plan (Message passed) taken = inr (record { other = λ same. same; same = refl })
  does_to_this plan (Report report) taken = inr (record { other = λ same. same; same = refl })
  does_to_this plan (Cancel visit) taken = inr (record { other = λ same. same; same = cancelled_leaves plan (cancellable plan visit) })

  -- this draft made the version, by the entry of this number among these; this many entries came
  -- before them
  record Made (count : ℕ) (history : List Entry) (version : ℕ) : Type 0 where
    place : ℕ
    is : version ≡ count + place
    commit : HasCommit history place desk number

  made_first : (count : ℕ) (entry : Entry) (history : List Entry) (version : ℕ) → IsCommitOf desk number entry.command → version ≡ count + 1
      → Made count (entry ∷ history) version
  made_first count entry history version of is =
      record { place = 1; is = is; commit = (entry, record { before = []; after = history; is = refl; counted = refl }, of) }

  made_later : (count : ℕ) (entry : Entry) (history : List Entry) (version : ℕ) → Made (count + 1) history version → Made count (entry ∷ history) version
  made_later count entry history version made =
      let commit : HasCommit history made.place desk number = made.commit in
      let has : HasEntry history made.place commit.0 = commit.1 in
      let counted : made.place ≡ length has.before + 1 = has.counted in
      let version_is : version ≡ count + 1 + made.place = made.is in
      record {
        place = made.place + 1;
        is = omega arith;
        commit = (commit.0, record { before = entry ∷ has.before; after = has.after; is = ap (λ (es : List Entry). entry ∷ es) has.is; counted = omega arith }, commit.2);
      }

  -- an entry is the first of these, or one of the others
  parted : (count : ℕ) (first entry : Entry) (before after history : List Entry) (version place : ℕ) → first ∷ history ≡ before ++ entry ∷ after
      → place ≡ length before + 1 → version ≡ count + place → IsCommitOf desk number entry.command
      → (IsCommitOf desk number first.command × (version ≡ count + 1)) ⊎ Made (count + 1) history version
  parted count first entry [] after history version place is counted version_is of =
      let same : first ≡ entry = cc in inl (subst (λ (e : Entry). IsCommitOf desk number e.command) (sym same) of, omega arith)
  parted count first entry (other ∷ before) after history version place is counted version_is of =
      let rest : history ≡ before ++ entry ∷ after = cc in
      inr (record {
        place = length before + 1;
        is = omega arith;
        commit = (entry, record { before = before; after = after; is = rest; counted = refl }, of);
      })

  made_parted : (count : ℕ) (first : Entry) (history : List Entry) (version : ℕ) → Made count (first ∷ history) version
      → (IsCommitOf desk number first.command × (version ≡ count + 1)) ⊎ Made (count + 1) history version
  made_parted count first history version made =
      let commit : HasCommit (first ∷ history) made.place desk number = made.commit in
      let has : HasEntry (first ∷ history) made.place commit.0 = commit.1 in
      parted count first commit.0 has.before has.after history version made.place has.is has.counted made.is commit.2

  abbrev MadeFrom : PlanState → ℕ → List Entry → ℕ → Type 0
  MadeFrom plan count history version = (version_in plan ≡ Some version) ⊎ Made count history version

  -- what the first entry does to it
  forth : (plan : PlanState) (entry : Entry) (history : List Entry) (version : ℕ) → DoesToThis plan entry.command
      → MadeFrom (after_command plan entry.command) (plan.version + 1) history version → MadeFrom plan plan.version (entry ∷ history) version
  forth plan entry history version (inl makes) (inl found) =
      let now = makes.after in
      let same : version ≡ plan.version + 1 = cc in
      inr (made_first plan.version entry history version makes.is same)
  forth plan entry history version (inr leaves) (inl found) = inl (sym leaves.same ∙ found)
  forth plan entry history version does (inr later) = inr (made_later plan.version entry history version later)

  back : (plan : PlanState) (entry : Entry) (history : List Entry) (version : ℕ) → DoesToThis plan entry.command
      → MadeFrom plan plan.version (entry ∷ history) version → MadeFrom (after_command plan entry.command) (plan.version + 1) history version
  back plan entry history version (inl makes) (inl found) = let none = makes.before in absurd (cc)
  back plan entry history version (inr leaves) (inl found) = inl (leaves.same ∙ found)
  back plan entry history version (inl makes) (inr some) = elim (made_parted plan.version entry history version some) [
    | inl first ↦ inl (makes.after ∙ ap Some (sym first.1))
    | inr later ↦ inr later
  ]
  back plan entry history version (inr leaves) (inr some) = elim (made_parted plan.version entry history version some) [
    | inl first ↦ absurd (leaves.other first.0)
    | inr later ↦ inr later
  ]

  all_forth : (plan : PlanState) (count : ℕ) (history : List Entry) (version : ℕ) → AreTakenFrom plan count history
      → version_in (after_entries plan history) ≡ Some version → MadeFrom plan plan.version history version
  all_forth plan count [] version taken found = inl found
  all_forth plan count (entry ∷ history) version taken found =
      let after = after_command plan entry.command in
      let next : after.version ≡ plan.version + 1 = command_version plan entry.command taken.1.0 in
      forth plan entry history version (does_to_this plan entry.command taken.1.0)
      (subst (λ (n : ℕ). MadeFrom after n history version) next (all_forth after (count + 1) history version taken.2 found))

  nothing_made : {A : Type 0} (count version : ℕ) → Made count [] version → A
  nothing_made count version made =
      let commit : HasCommit [] made.place desk number = made.commit in
      let has : HasEntry [] made.place commit.0 = commit.1 in
      nothing_before commit.0 has.before has.after has.is
    where
      nothing_before : {A : Type 0} (entry : Entry) (before after : List Entry) → [] ≡ before ++ entry ∷ after → A
      nothing_before entry [] after is = absurd (cc)
      nothing_before entry (other ∷ before) after is = absurd (cc)

  all_back : (plan : PlanState) (count : ℕ) (history : List Entry) (version : ℕ) → AreTakenFrom plan count history
      → MadeFrom plan plan.version history version → version_in (after_entries plan history) ≡ Some version
  all_back plan count [] version taken (inl found) = found
  all_back plan count [] version taken (inr made) = nothing_made plan.version version made
  all_back plan count (entry ∷ history) version taken some =
      let after = after_command plan entry.command in
      let next : after.version ≡ plan.version + 1 = command_version plan entry.command taken.1.0 in
      all_back after (count + 1) history version taken.2
      (subst (λ (n : ℕ). MadeFrom after n history version) (sym next)
      (back plan entry history version (does_to_this plan entry.command taken.1.0) some))

  of_all : (history : List Entry) (version : ℕ) → Made 0 history version → HasCommit history version desk number
  of_all history version made =
      let place : made.place ≡ version = let is : version ≡ 0 + made.place = made.is in omega arith in
      subst (λ (n : ℕ). HasCommit history n desk number) place made.commit

-- a draft made a version exactly if the entry of that number is its commit
pub drafts_made : (airport : AirportParts) (history : List Entry) (desk : List ℕ) (number version : ℕ) → IsLegal airport history
    → (draft_version (replay airport history).drafts desk number ≡ Some version → HasCommit history version desk number)
    × (HasCommit history version desk number → draft_version (replay airport history).drafts desk number ≡ Some version)
drafts_made airport history desk number version legal = (
  λ found. elim (all_forth desk number (empty_plan airport) 0 history version legal.taken found) [
    | inl before ↦ absurd (cc)
    | inr made ↦ of_all desk number history version made
  ],
  λ commit. all_back desk number (empty_plan airport) 0 history version legal.taken
      (inr (record { place = version; is = omega arith; commit = commit })),
)
