use Rattle.std.proofs.Common.{◌≡◌, ◌∙◌, ◌≤◌, ◌+◌, ℕ, false, Result, Ok, Err, IfErr, length, arith, ap, subst}
use Rattle.apron_base.specs.declared.outside.Acted.TheVariants.{Reply as Replied}
use Rattle.apron_rules.specs.declared.parts.AirportParts.{AirportParts}
use Rattle.plan_core.specs.PlanState.{PlanState}
use Rattle.history_core.specs.Answer.{ActsAs}
use Rattle.history_core.specs.AtRisk.{LeavesAtRisk}
use Rattle.history_core.specs.History.{replay}
use Rattle.history_core.specs.Board.{machine_state}
use Rattle.apron_run.specs.Asking.{IsMissing}
use Rattle.apron_run.specs.Opened.{Reached}
use Rattle.apron_run.proofs.Asking.{asking, standing_at, stops_missing}
use Rattle.apron_run.proofs.season.ask_visit.Goals as goal

-- what follows from a cause follows if there is one
err_by : {T E : Type 0} {P Q : E → Type 0} (result : Result T E) → ((why : E) → P why → Q why) → IfErr result P → IfErr result Q
err_by (Ok done) follows cause = cause
err_by (Err why) follows cause = follows why cause

pub returns-in-Reply-2-clause-stops : goal.returns-in-Reply-2-clause-stops
returns-in-Reply-2-clause-stops g c =
    let before : Reached = machine_state g.K.Keeper.state c.args.board.now in
    let after : Reached = machine_state g.K.Keeper.state c.ask.new.self in
    let airport = c.args.board.now.airport in
    let new = c.args.new.now in
    let number = c.args.number in
    let bytes = c.in-Reply-2.field-0 in
    let call = c.next_call-call.ensures.value in
    let acts : ActsAs airport before.history before.next (asking new) (Replied bytes) after.history =
    subst (λ (n : ℕ). ActsAs airport before.history n (asking new) (Replied bytes) after.history) call c.in-Reply-2.ensures.asks.acts in
    let next : after.next ≡ before.next + 1 = c.in-Reply-2.ensures.next ∙ ap (λ (n : ℕ). n + 1) call in
    let now : length c.history.result.now ≡ length after.history = ap length c.history.ensures.value in
    let was : length c.history-before.result.now ≡ length before.history = ap length c.history-before.ensures.value in
    let few : length after.history ≤ length before.history = omega (arith, c.if-before-history.false, now, was) in
    let plan : c.plan.result.now.plan ≡ replay airport after.history =
    c.plan.ensures.replay ∙ ap (λ (a : AirportParts). replay a after.history) c.in-Reply-2.ensures.asks.airport in
    let risk : LeavesAtRisk (standing_at before) before.next (asking new).what false (standing_at after) =
    subst (λ (n : ℕ). LeavesAtRisk (standing_at before) n (asking new).what false (standing_at after)) call c.in-Reply-2.ensures.asks.at_risk in
    err_by c.find_visit.result
    (λ imported missing. stops_missing airport before after new bytes acts next c.in-Reply-2.ensures.asks.faults risk number imported few
    (subst (λ (p : PlanState). IsMissing p new number imported) plan missing))
    c.find_visit.ensures.missing
