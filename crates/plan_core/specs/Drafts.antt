-- The drafts of desks, and those that became commits.
use Rattle.std.specs.Prelude.{◌≡◌, ◌≤◌, ◌+◌, ◌++◌, ◌∷◌, [], ◌==◌, ◌&&◌, ℕ, Bool, List, Option, None, Some, find, length, take}
use Rattle.std.specs.BTreeMap.{BTreeMap, get}
use Rattle.std.specs.Cmp.Lexicographic.{slice_cmp}
use Rattle.std.specs.Option.{option_map}
use Rattle.std.specs.Ordering.{nat_cmp, ordering_then}
use Rattle.std.specs.declared.cmp.Ordering.{Ordering}
use Rattle.std.specs.Str.{bytes_eq}
use Rattle.apron_base.specs.Histories.{Rises}
use Rattle.visit_book.specs.declared.drafts.Draft.{Draft}
use Rattle.plan_core.specs.declared.drafts.DraftId.{DraftId}
use Rattle.plan_core.specs.declared.drafts.Drafted.{Drafted}

-- the id of a draft
abbrev pub id_of : Draft → DraftId
id_of draft = record { desk = draft.desk; number = draft.number }

-- the id is of this desk's draft of this number
abbrev pub is_draft : List ℕ → ℕ → DraftId → Bool
is_draft desk number id = bytes_eq desk id.desk && (number == id.number)

-- the version that the commit of this draft made, if there is one
abbrev pub draft_version : List Drafted → List ℕ → ℕ → Option ℕ
draft_version drafts desk number =
    option_map (λ drafted. drafted.version)
    (find (λ drafted. is_draft desk number drafted.id) drafts)

-- the version that the draft made
abbrev pub drafted_version : Drafted → ℕ
drafted_version drafted = drafted.version

-- no two of the drafts have the same desk and number
abbrev pub AreDifferent : List Drafted → Type 0
AreDifferent [] = Unit {0}
AreDifferent (drafted ∷ drafts) = (draft_version drafts drafted.id.desk drafted.id.number ≡ None)
    × AreDifferent drafts

-- drafts that became commits of a plan at this version: the versions that they made rise strictly
-- from at least 1 to at most that one, and no two have the same desk and number
pub record AreDraftsAt (version : ℕ) (drafts : List Drafted) : Type 0 where
  pub rising : Rises drafted_version 1 (version + 1) drafts
  pub different : AreDifferent drafts

-- the drafts with one more, if there is one, that made this version
abbrev pub with_draft : List Drafted → Option DraftId → ℕ → List Drafted
with_draft drafts None version = drafts
with_draft drafts (Some id) version = drafts ++ record { id = id; version = version } ∷ []

-- drafts in order, and how many can be added to them without taking memory
pub record DraftsHeld : Type 0 where
  pub kept : List Drafted
  pub room : ℕ

-- the order of drafts: by the desk, and then by the number
abbrev pub compare_drafts : DraftId → DraftId → Ordering
compare_drafts id other =
    ordering_then (slice_cmp nat_cmp id.desk other.desk) (nat_cmp id.number other.number)

-- the map has for each draft the version of its commit
abbrev pub IsIndexOf : BTreeMap DraftId ℕ → List Drafted → Type 0
IsIndexOf versions drafts = (id : DraftId)
    → get compare_drafts versions id ≡ draft_version drafts id.desk id.number

-- no two of the drafts have the same desk and number, and the map has the versions of this many
-- first ones
pub record AreIndexed (versions : BTreeMap DraftId ℕ) (indexed : ℕ)
    (drafts : List Drafted) : Type 0 where
  pub different : AreDifferent drafts
  pub few : indexed ≤ length drafts
  pub index : IsIndexOf versions (take indexed drafts)
