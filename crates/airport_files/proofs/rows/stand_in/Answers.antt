use Rattle.std.proofs.Common.{rules}
use Rattle.airport_files.specs.Walk.{stand_in}
use Rattle.airport_files.proofs.rows.stand_in.Goals as goal

pub returns-in_err-name : goal.returns-in_err-name
unfolding stand_in
returns-in_err-name c = search rules

pub returns-in_err-frontage : goal.returns-in_err-frontage
unfolding stand_in
returns-in_err-frontage c = search rules

pub returns-in_err-centre : goal.returns-in_err-centre
unfolding stand_in
returns-in_err-centre c = search rules

pub returns-in_err-letter : goal.returns-in_err-letter
unfolding stand_in
returns-in_err-letter c = search rules

pub returns-in_err-buffer : goal.returns-in_err-buffer
unfolding stand_in
returns-in_err-buffer c = search rules

pub returns-in_err-half_of : goal.returns-in_err-half_of
unfolding stand_in
returns-in_err-half_of c = search rules

pub returns : goal.returns
unfolding stand_in
returns c = search rules
