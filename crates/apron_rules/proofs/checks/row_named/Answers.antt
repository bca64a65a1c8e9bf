use Rattle.std.proofs.Common.{◌∙◌, sym}
use Rattle.std.specs.Str.{bytes_eq}
use Rattle.apron_rules.specs.declared.parts.StandRow.{StandRow}
use Rattle.apron_rules.proofs.Found.{found_some, found_none}
use Rattle.apron_rules.proofs.checks.row_named.Goals as goal

pub returns-in-Some : goal.returns-in-Some
returns-in-Some c =
    let at = rw c.requires.stands at (sym c.place.ensures.place ∙ c.in-Some.is) in
    record { is = sym (found_some (bytes_eq c.args.name.now) (λ (row : StandRow). row.name) c.args.rows.now c.in-Some.place c.index-rows-place.result at c.index-rows-place.is) }

pub returns-in-None : goal.returns-in-None
returns-in-None c =
    let at = rw c.requires.stands at (sym c.place.ensures.place ∙ c.in-None.is) in
    record { is = sym (found_none (bytes_eq c.args.name.now) (λ (row : StandRow). row.name) c.args.rows.now at) }
