use Rattle.std.proofs.Common.{◌∙◌, ap, sym}
use Rattle.std.specs.Option.{option_copied}
use Rattle.history_core.proofs.NewVisits.{new_decides}
use Rattle.apron_run.proofs.season.find_visit.Goals as goal

pub returns-in-Some-clause-there : goal.returns-in-Some-clause-there
returns-in-Some-clause-there c = (
  c.in-Some.visit.now,
  (
    sym c.visit_named.ensures.is ∙ ap option_copied c.in-Some.is,
    sym c.new_of.ensures.is ∙ (new_decides c.new_of.result c.args.new.now).0 (sym c.eq.ensures ∙ c.if-eq.true),
  ),
)
