-- What the program's commit means.
use Rattle.std.specs.Prelude.{◌≤◌, List, length, map, string_bytes}
use Rattle.visit_book.specs.Edits.{most_edits}
use Rattle.desk_bodies.specs.Commits.{EditSaid, put, lift, cut, join, CommitSaid}
use Rattle.desk_bodies.specs.declared.commits.EditText.{EditText}
use Rattle.desk_bodies.specs.declared.commits.EditText.TheVariants.{Put, Lift, Cut, Join}
use Rattle.desk_bodies.specs.declared.commits.CommitText.{CommitText}

-- an edit
abbrev pub edit_shown : EditText → EditSaid
edit_shown (Put visit part stand) = put visit part (string_bytes stand)
edit_shown (Lift visit part) = lift visit part
edit_shown (Cut visit part at) = cut visit part at
edit_shown (Join visit part) = join visit part

-- a commit
abbrev pub commit_shown : CommitText → CommitSaid
commit_shown c = record {
  desk = c.desk;
  draft = c.draft;
  base = c.base;
  edits = map edit_shown c.edits;
}

-- 1 to 64 edits
abbrev pub HasFewEdits : List EditText → Type 0
HasFewEdits edits = (1 ≤ length edits) × (length edits ≤ most_edits)
