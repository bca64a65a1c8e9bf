use Rattle.std.proofs.Common.{◌≡◌, ◌<◌, ◌≤◌, ◌+◌, ◌∙◌, ap, arith, subst}
use Rattle.apron_base.specs.Machine.{history_at_risk_of, is_fault}
use Rattle.history_core.specs.Answer.{ActsAs}
use Rattle.history_core.specs.AtRisk.{LeavesAtRisk}
use Rattle.history_core.specs.Board.{machine_state}
use Rattle.history_core.specs.History.{IsLegal, call_limit}
use Rattle.desk_http.specs.Alone.{AloneAsks, AloneHeld, alone_port}
use Rattle.desk_http.specs.Ports.{ShowsAsk}
use Rattle.desk_http.proofs.OneDesk.{alone_shows}
use Rattle.desk_http.proofs.alone.AloneDeskPort.ask.Goals as goal

pub returns-clause-shows : goal.returns-clause-shows
returns-clause-shows g c =
    let before = c.self.inside.board in
    let after = c.ask.new.self in
    let call : c.next_call-call.result ≡ before.next = c.next_call-call.ensures.value in
    let few : c.next_call-call.result ≤ call_limit = c.next_call-call.ensures.few in
    let last : before.next < call_limit = omega arith in
    let acts : ActsAs before.airport before.history before.next c.args.ask.now c.ask.result after.history =
    subst (λ n. ActsAs before.airport before.history n c.args.ask.now c.ask.result after.history) call c.ask.ensures.asks.acts in
    let tells = g.K.Keeper.state in
    let risk : LeavesAtRisk (history_at_risk_of (machine_state tells before)) before.next c.args.ask.now.what (is_fault c.ask.result) (history_at_risk_of (machine_state tells after)) =
    subst (λ n. LeavesAtRisk (history_at_risk_of (machine_state tells before)) n c.args.ask.now.what (is_fault c.ask.result) (history_at_risk_of (machine_state tells after))) call c.ask.ensures.asks.at_risk in
    subst (λ (a : AloneHeld g.row.K.Denot). ShowsAsk AloneAsks a.board.airport (alone_port tells a) c.args.ask.now c.ask.result
    (alone_port tells (record { board = after; first = c.self.inside.first })))
    c.self.view_is
    (alone_shows before.airport (machine_state tells before) (machine_state tells after) c.self.inside.first c.args.ask.now c.ask.result c.self.invariant
    (subst (λ airport. IsLegal airport after.history) c.ask.ensures.asks.airport c.ask.ensures.asks.legal) last acts (c.ask.ensures.next ∙ ap (λ n. n + 1) call) c.ask.ensures.asks.faults risk)
