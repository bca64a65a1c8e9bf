-- A report as fields: the visit, and what happened to it.
use Rattle.std.specs.Prelude.{List, [], ◌∷◌}
use Rattle.std.specs.Int.{w8, w32}
use Rattle.visit_book.specs.declared.reports.Event.{Event}
use Rattle.visit_book.specs.declared.reports.Event.TheVariants.{On, Off}
use Rattle.desk_asks.specs.declared.asks.DeskReport.{DeskReport}
use Rattle.entry_bytes.specs.Commits.{stand_field}
use Rattle.entry_bytes.specs.Fields.{Field, number_field}

-- a tag; then the part, the stand and the minute on block, or the minute off block
abbrev pub event_fields : Event → List Field
event_fields (On part stand minute) =
    number_field w8 1 ∷ number_field w8 part ∷ stand_field stand ∷ number_field w32 minute ∷ []
event_fields (Off minute) = number_field w8 2 ∷ number_field w32 minute ∷ []

-- the visit, and what happened to it
abbrev pub report_fields : DeskReport → List Field
report_fields report = number_field w32 report.visit.0 ∷ event_fields report.event
