-- What laws say of histories.
use Rattle.std.specs.Prelude.{◌≡◌, ◌+◌, ℕ, Bool, false, Some, List, [], ◌∷◌, ◌++◌, length, map, if◌then◌else◌}
use Rattle.visit_book.specs.declared.visits.NewVisit.{NewVisit}
use Rattle.visit_book.specs.declared.visits.Visit.{Visit}
use Rattle.visit_book.specs.NewVisits.{new_of}
use Rattle.plan_core.specs.Edits.{is_edited}
use Rattle.plan_core.specs.Names.{visit_named}
use Rattle.desk_asks.specs.declared.asks.Command.{Command}
use Rattle.desk_asks.specs.declared.asks.Command.TheVariants.{AddVisit, Commit, Message, Report}
use Rattle.desk_asks.specs.declared.asks.Entry.{Entry}

-- this entry is the one of the history with this number, counted from 1
pub record HasEntry (history : List Entry) (number : ℕ) (entry : Entry) : Type 0 where
  pub before : List Entry
  pub after : List Entry
  pub is : history ≡ before ++ entry ∷ after
  pub counted : number ≡ length before + 1

-- the command is a commit of this desk's draft of this number
abbrev pub IsCommitOf : List ℕ → ℕ → Command → Type 0
IsCommitOf desk number (Commit draft) = (draft.desk ≡ desk) × (draft.number ≡ number)
IsCommitOf desk number command = ⊥

-- the entry of this number is a commit of this desk's draft
abbrev pub HasCommit : List Entry → ℕ → List ℕ → ℕ → Type 0
HasCommit history version desk number =
    (entry : Entry) × HasEntry history version entry × IsCommitOf desk number entry.command

-- the entry of this number adds a visit with these data
abbrev pub HasAdded : List Entry → ℕ → NewVisit → Type 0
HasAdded history version new =
    (entry : Entry) × HasEntry history version entry × (entry.command ≡ AddVisit new)

-- the visit was added with these data, by the entry of this number
abbrev pub IsAddedBy : ℕ → NewVisit → Visit → Type 0
IsAddedBy version new visit = (new_of visit ≡ new) × (visit.added ≡ version)

-- one of the visits has this name, and was added with these data by the entry of this number
abbrev pub HasVisit : List Visit → ℕ → NewVisit → Type 0
HasVisit visits version new =
    (visit : Visit) × (visit_named visits new.name ≡ Some visit) × IsAddedBy version new visit

-- whether a command edits the visit of this number
abbrev pub edits_visit : Command → ℕ → Bool
edits_visit (Commit draft) number = is_edited draft.edits number
edits_visit command number = false

-- the number of the last of these entries that edits the visit of this number, counting this many
-- entries before them; this number if none does
abbrev pub last_edit : ℕ → ℕ → ℕ → List Entry → ℕ
last_edit number count last [] = last
last_edit number count last (entry ∷ entries) =
    last_edit number (count + 1) (if edits_visit entry.command number then count + 1 else last)
    entries

-- the command without the desk that a message or a report names
abbrev pub without_desk : Command → Command
without_desk (Message passed) = Message (record passed { desk = [] })
without_desk (Report report) = Report (record report { desk = [] })
without_desk command = command

-- the entries without the desks that messages and reports name
abbrev pub without_desks : List Entry → List Entry
without_desks history =
    map (λ entry. record { call = entry.call; command = without_desk entry.command }) history
