use Rattle.std.proofs.Common.{rules}
use Rattle.airport_files.specs.Walk.{pair_in}
use Rattle.airport_files.proofs.rows.pair_in.Goals as goal

pub returns-in_err-a : goal.returns-in_err-a
unfolding pair_in
returns-in_err-a c = search rules

pub returns-in_err-la : goal.returns-in_err-la
unfolding pair_in
returns-in_err-la c = search rules

pub returns-in_err-b : goal.returns-in_err-b
unfolding pair_in
returns-in_err-b c = search rules

pub returns-in_err-lb : goal.returns-in_err-lb
unfolding pair_in
returns-in_err-lb c = search rules

pub returns : goal.returns
unfolding pair_in
returns c = search rules
