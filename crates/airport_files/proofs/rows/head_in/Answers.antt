use Rattle.std.proofs.Common.{rules}
use Rattle.airport_files.specs.Walk.{head_in}
use Rattle.airport_files.proofs.rows.head_in.Goals as goal

pub returns-in_err-station-clause-head : goal.returns-in_err-station-clause-head
unfolding head_in
returns-in_err-station-clause-head c = search rules

pub returns-in_err-first-clause-head : goal.returns-in_err-first-clause-head
unfolding head_in
returns-in_err-first-clause-head c = search rules

pub returns-in_err-days-clause-head : goal.returns-in_err-days-clause-head
unfolding head_in
returns-in_err-days-clause-head c = search rules

pub returns-in_err-taxi_in-clause-head : goal.returns-in_err-taxi_in-clause-head
unfolding head_in
returns-in_err-taxi_in-clause-head c = search rules

pub returns-in_err-tow-clause-head : goal.returns-in_err-tow-clause-head
unfolding head_in
returns-in_err-tow-clause-head c = search rules

pub returns-clause-head : goal.returns-clause-head
unfolding head_in
returns-clause-head c = search rules
