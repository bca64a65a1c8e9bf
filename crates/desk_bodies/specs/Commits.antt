-- The body of a commit.
use Rattle.std.specs.Prelude.{ℕ, ◌&&◌, List, [], ◌∷◌, nat_le, codes, Option, Some, None, if◌then◌else◌}
use Rattle.serde_json.specs.Data.{Data, Items, no_items, item}
use Rattle.serde_json.specs.Find.{get, as_array}
use Rattle.serde_json.specs.Events.{items_len}
use Rattle.apron_base.specs.Name.{is_name}
use Rattle.apron_base.specs.OptionChain.{◌>>=◌}
use Rattle.visit_book.specs.Edits.{most_edits}
use Rattle.desk_bodies.specs.Fields.{body_data, max_u32, max_u8, number_at, text_at}

-- an edit, with its stand by the bytes of its name
pub data EditSaid : Type 0 where
  put : ℕ → ℕ → List ℕ → EditSaid
  lift : ℕ → ℕ → EditSaid
  cut : ℕ → ℕ → ℕ → EditSaid
  join : ℕ → ℕ → EditSaid

-- a commit, with its desk by the bytes of its name
pub record CommitSaid : Type 0 where
  pub desk : List ℕ
  pub draft : ℕ
  pub base : ℕ
  pub edits : List EditSaid

-- a visit's number
abbrev pub json_visit_number : Data → Option ℕ
json_visit_number d = number_at (codes "visit") max_u32 d

-- a part's number
abbrev pub json_part_number : Data → Option ℕ
json_part_number d = number_at (codes "part") max_u8 d

-- {"visit":N,"part":P,"stand":STAND}
abbrev pub json_put : Data → Option EditSaid
json_put d = do
  Some (put (← json_visit_number d) (← json_part_number d) (← text_at (codes "stand") d))

-- {"visit":N,"part":P}
abbrev pub json_lift : Data → Option EditSaid
json_lift d = do Some (lift (← json_visit_number d) (← json_part_number d))

-- {"visit":N,"part":P,"at":M}
abbrev pub json_cut : Data → Option EditSaid
json_cut d = do
  Some (cut (← json_visit_number d) (← json_part_number d) (← number_at (codes "at") max_u32 d))

-- {"visit":N,"part":P}
abbrev pub json_join : Data → Option EditSaid
json_join d = do Some (join (← json_visit_number d) (← json_part_number d))

-- the edit if exactly one of the four keys is there, whatever the value of the others would be
abbrev pub only_edit : Option Data → Option Data → Option Data → Option Data → Option EditSaid
only_edit (Some d) None None None = json_put d
only_edit None (Some d) None None = json_lift d
only_edit None None (Some d) None = json_cut d
only_edit None None None (Some d) = json_join d
only_edit putting lifting cutting joining = None

-- {"put":..}, {"lift":..}, {"cut":..} or {"join":..}
unfoldable pub json_edit : Data → Option EditSaid
json_edit d =
    only_edit (get (codes "put") d) (get (codes "lift") d) (get (codes "cut") d)
    (get (codes "join") d)

-- the edits in order
abbrev pub json_edits : Items → Option (List EditSaid)
json_edits no_items = Some []
json_edits (item d ds) = do Some ((← json_edit d) ∷ (← json_edits ds))

-- 1 to 64 edits
unfoldable pub edits_within : Items → Option (List EditSaid)
edits_within ds =
    if nat_le 1 (items_len ds) && nat_le (items_len ds) most_edits then json_edits ds else None

-- the text, if it is a name
abbrev pub if_name : List ℕ → Option (List ℕ)
if_name text = if is_name text then Some text else None

-- the name under a key
unfoldable pub name_at : List ℕ → Data → Option (List ℕ)
name_at key d = text_at key d >>= if_name

-- {"desk":NAME,"draft":N,"base":N,"edits":[EDIT, ..]}
unfoldable pub json_commit : Data → Option CommitSaid
json_commit d = do
  desk ← name_at (codes "desk") d
  draft ← number_at (codes "draft") max_u32 d
  base ← number_at (codes "base") max_u32 d
  edits ← get (codes "edits") d >>= as_array >>= edits_within
  Some (record { desk = desk; draft = draft; base = base; edits = edits })

-- the commit of a body
abbrev pub body_commit : List ℕ → Option CommitSaid
body_commit bytes = body_data bytes >>= json_commit
