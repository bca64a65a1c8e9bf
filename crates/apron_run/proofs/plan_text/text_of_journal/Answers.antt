use Rattle.std.proofs.Common.{rules, subst}
use Rattle.apron_run.specs.PlanText.{AtPlan}
use Rattle.apron_run.specs.World.{run_world}
use Rattle.apron_run.proofs.plan_text.text_of_journal.Goals as goal

pub returns : goal.returns
returns g c = record {
  does = λ shelf source sink.
      let disk = g.D.Disk.state in
      let met = c.text_on-end in
      subst (λ d. AtPlan (g.T.PlanText.answers c.args.asked.now) c.args.files.now (run_world shelf source sink (disk c.args.disk.now)) (run_world shelf source sink (disk d)) met.result.0)
      (search rules) (met.ensures.does shelf source sink);
}
