-- What the program's report means.
use Rattle.std.specs.Prelude.{string_bytes}
use Rattle.desk_bodies.specs.Reports.{EventSaid, ReportSaid, on, off}
use Rattle.desk_bodies.specs.declared.reports.EventText.{EventText}
use Rattle.desk_bodies.specs.declared.reports.EventText.TheVariants.{On, Off}
use Rattle.desk_bodies.specs.declared.reports.ReportText.{ReportText}

-- what happened
abbrev pub event_shown : EventText → EventSaid
event_shown (On part stand minute) = on part (string_bytes stand) minute
event_shown (Off minute) = off minute

-- a report
abbrev pub report_shown : ReportText → ReportSaid
report_shown report = record { visit = report.visit; event = event_shown report.event }
