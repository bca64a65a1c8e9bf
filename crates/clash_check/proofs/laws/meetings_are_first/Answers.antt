use Rattle.clash_check.proofs.Meetings.{first_meeting, meeting_sym, never_meeting}
use Rattle.std.proofs.Common.{arith}
use Rattle.clash_check.proofs.laws.meetings_are_first.Goals as goal

pub returns-clause-first : goal.returns-clause-first
returns-clause-first c = λ airport p q at e. let first = first_meeting airport p q at e in (first.rule, λ m below. first.before m (omega arith) below)

pub returns-clause-never : goal.returns-clause-never
returns-clause-never c = never_meeting

pub returns-clause-either_way : goal.returns-clause-either_way
returns-clause-either_way c = meeting_sym
