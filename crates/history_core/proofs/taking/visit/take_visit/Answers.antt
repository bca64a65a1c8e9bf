use Rattle.std.proofs.Common.{◌∙◌, ap, sym}
use Rattle.std.specs.Option.{option_copied}
use Rattle.history_core.proofs.Takings.{named_answered}
use Rattle.history_core.proofs.taking.visit.take_visit.Goals as goal

pub returns-in-Some : goal.returns-in-Some
returns-in-Some c =
    record {
      finds = named_answered c.args.plan.now.plan c.args.entries c.args.new.now c.in-Some.visit.now c.version-version.result c.told_of_same_name.result
          (sym c.visit_named.ensures.is ∙ ap option_copied c.in-Some.is) c.version-version.ensures.value c.told_of_same_name.ensures.same
          c.told_of_same_name.ensures.other;
    }
