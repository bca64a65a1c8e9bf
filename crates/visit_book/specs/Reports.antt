-- What a report makes of a visit, and why it is refused.
use Rattle.std.specs.Prelude.{◌<◌, not, length, nat_lt, Result, ok_or, Some}
use Rattle.apron_base.specs.ResultChain.{◌>>=◌, refuse_if}
use Rattle.apron_rules.specs.declared.parts.AirportParts.{AirportParts}
use Rattle.visit_book.specs.declared.reports.Event.{Event}
use Rattle.visit_book.specs.declared.reports.Event.TheVariants.{On, Off}
use Rattle.visit_book.specs.declared.reports.ReportFault.{ReportFault}
use Rattle.visit_book.specs.declared.reports.ReportFault.TheVariants.{Gone, NoSuchPart, Time}
use Rattle.visit_book.specs.declared.visits.Visit.{Visit}
use Rattle.visit_book.specs.Ends.{is_live}
use Rattle.visit_book.specs.Movements.{arrive_of, depart_of}
use Rattle.visit_book.specs.PartFields.{part_at}
use Rattle.visit_book.specs.WellFormed.{plan_end}

-- the stand of the event, if it has one, is one of the airport
abbrev pub IsEventOf : AirportParts → Event → Type 0
IsEventOf airport (On part stand minute) = stand.0 < length airport.stands
IsEventOf airport (Off minute) = Unit {0}

-- what the event makes of a live visit: it is refused if there is no such part, or at a minute
-- after the plan's end, or at one that is too early
abbrev pub visit_after_event : AirportParts → Event → Visit → Result Visit ReportFault
visit_after_event airport (On part stand minute) visit = do
  found ← ok_or (part_at visit.parts part) NoSuchPart
  within ← refuse_if (not (nat_lt minute (plan_end airport))) Time
  ok_or (arrive_of airport part minute (Some stand) visit) Time
visit_after_event airport (Off minute) visit = do
  within ← refuse_if (not (nat_lt minute (plan_end airport))) Time
  ok_or (depart_of minute visit) Time

-- what the event makes of the visit: it is refused first of all if the visit is gone or cancelled
abbrev pub report_of : AirportParts → Event → Visit → Result Visit ReportFault
report_of airport event visit = do
  live ← refuse_if (not (is_live visit)) Gone
  visit_after_event airport event visit
