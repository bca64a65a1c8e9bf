-- A commit as fields.
use Rattle.std.specs.Prelude.{ℕ, nat_lt, List, [], ◌∷◌, ◌++◌, length}
use Rattle.std.specs.Int.{w8, w16, w32}
use Rattle.std.specs.List.{flat_map}
use Rattle.apron_base.specs.declared.numbers.StandNo.{StandNo}
use Rattle.apron_base.specs.declared.numbers.VisitNo.{VisitNo}
use Rattle.visit_book.specs.declared.drafts.Draft.{Draft}
use Rattle.visit_book.specs.declared.edits.Edit.{Edit}
use Rattle.visit_book.specs.declared.edits.Edit.TheVariants.{Put, Lift, Cut, Join}
use Rattle.entry_bytes.specs.Fields.{Field, limited_field, name_field, number_field}

-- a stand of the airport
abbrev pub stand_field : StandNo → Field
stand_field stand = limited_field w16 stand.0 (λ airport. nat_lt stand.0 (length airport.stands))

-- a tag, and the visit and the part that an edit changes
abbrev pub part_fields : ℕ → VisitNo → ℕ → List Field
part_fields tag visit part = number_field w8 tag ∷ number_field w32 visit.0 ∷ number_field w8 part ∷ []

-- the same; then the stand of a put, or the minute of a cut
abbrev pub edit_fields : Edit → List Field
edit_fields (Put visit part stand) = part_fields 1 visit part ++ stand_field stand ∷ []
edit_fields (Lift visit part) = part_fields 2 visit part
edit_fields (Cut visit part at) = part_fields 3 visit part ++ number_field w32 at ∷ []
edit_fields (Join visit part) = part_fields 4 visit part

-- the desk's name, the draft's number, its base, how many edits there are, and the edits
abbrev pub commit_fields : Draft → List Field
commit_fields draft =
    name_field draft.desk ∷ number_field w32 draft.number ∷ number_field w32 draft.base
    ∷ number_field w8 (length draft.edits)
    ∷ flat_map edit_fields draft.edits
