use Rattle.std.proofs.Common.{◌∙◌, sym, subst}
use Rattle.desk_asks.specs.declared.asks.Command.TheVariants.{Cancel}
use Rattle.history_core.specs.Taking.{ComesTo}
use Rattle.history_core.proofs.Happenings.{cancellable_is}
use Rattle.history_core.proofs.Takings.{cancel_denied}
use Rattle.history_core.proofs.taking.cancel.take_cancel.Goals as goal

pub returns-in-Err : goal.returns-in-Err
returns-in-Err c =
    let plan = c.args.plan.now.plan in
    record {
      finds = subst (ComesTo plan c.args.entries (Cancel c.args.number)) (sym c.answer_unchanged.ensures.is)
          (cancel_denied plan c.args.entries c.args.number c.in-Err.why (sym c.cancellable.ensures.is ∙ c.in-Err.is));
    }

pub cancel-requires : goal.cancel-requires
cancel-requires c = record { cancellable = cancellable_is c.args.plan.now.plan c.args.number c.in-Ok.visit (sym c.cancellable.ensures.is ∙ c.in-Ok.is) }
