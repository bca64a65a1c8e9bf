use Rattle.std.proofs.Common.{refl, Some}
use Rattle.apron_rules.proofs.Phases.{first_tried}
use Rattle.apron_rules.proofs.clash.first_of_starts.Goals as goal

pub returns-in-Some : goal.returns-in-Some
returns-in-Some c = record {
  first = first_tried c.args.airport.now c.starts_of-starts.ensures.airport.faultless c.args.p.now c.args.q.now c.args.from c.args.end c.starts_of-starts.result c.meeting_at.result _ _ (Some c.in-Some.at)
      c.starts_of-starts.ensures.are c.meeting_at.ensures.is refl refl (rw c.in-Some.is refl);
}

pub returns-in-Some-meeting_at : goal.returns-in-Some-meeting_at
returns-in-Some-meeting_at c = record {
  first = first_tried c.args.airport.now c.starts_of-starts.ensures.airport.faultless c.args.p.now c.args.q.now c.args.from c.args.end c.starts_of-starts.result c.meeting_at.result c.meeting_at-2.result _
      (Some c.in-Some-meeting_at.at) c.starts_of-starts.ensures.are c.meeting_at.ensures.is c.meeting_at-2.ensures.is refl (rw (c.in_default.is, c.in-Some-meeting_at.is) refl);
}

pub returns-in-None : goal.returns-in-None
returns-in-None c = record {
  first = first_tried c.args.airport.now c.starts_of-starts.ensures.airport.faultless c.args.p.now c.args.q.now c.args.from c.args.end c.starts_of-starts.result c.meeting_at.result c.meeting_at-2.result
      c.meeting_at-in-None.result c.meeting_at-in-None.result c.starts_of-starts.ensures.are c.meeting_at.ensures.is c.meeting_at-2.ensures.is c.meeting_at-in-None.ensures.is
      (rw (c.in_default.is, c.in-None.is) refl);
}
