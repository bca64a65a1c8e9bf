use Rattle.std.proofs.Common.{◌∙◌, sym, subst}
use Rattle.desk_asks.specs.declared.asks.Command.TheVariants.{Report}
use Rattle.history_core.specs.Taking.{ComesTo}
use Rattle.history_core.proofs.Takings.{report_denied, report_full}
use Rattle.history_core.proofs.taking.report.take_report.Goals as goal

pub returns-in-Err : goal.returns-in-Err
returns-in-Err c =
    let plan = c.args.plan.now.plan in
    record {
      finds = subst (ComesTo plan c.args.entries (Report c.args.report.now)) (sym c.answer_unchanged.ensures.is)
          (report_denied plan c.args.entries c.args.report.now c.in-Err.why (sym c.visit_after_report.ensures.is ∙ c.in-Err.is));
    }

pub returns-then-not-takes_entry : goal.returns-then-not-takes_entry
returns-then-not-takes_entry c =
    let plan = c.args.plan.now.plan in
    let none = c.if-not-takes_entry.true in
    record {
      finds = subst (ComesTo plan c.args.entries (Report c.args.report.now)) (sym c.answer_unchanged-then-not-takes_entry.ensures.is)
          (report_full plan c.args.entries c.args.report.now c.in-Ok.visit (sym c.visit_after_report.ensures.is ∙ c.in-Ok.is)
          (λ has. let takes = c.takes_entry.ensures.is.1 has in absurd (cc)));
    }
