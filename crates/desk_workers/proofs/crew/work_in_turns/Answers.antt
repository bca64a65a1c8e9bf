use Rattle.std.proofs.Common.{◌≡◌, ◌≤◌, ◌∙◌, ap, arith, drop, length, subst, sym}
use Rattle.std.proofs.lemmas.List.{take_at}
use Rattle.apron_base.specs.Histories.{Every}
use Rattle.desk_workers.specs.Seats.{ServedState}
use Rattle.desk_workers.specs.Together.{MeetsAll}
use Rattle.desk_workers.proofs.Together.{Over, same_count, shares_back, still_own, together}
use Rattle.desk_workers.proofs.crew.work_in_turns.Goals as goal

pub meet_ports-requires-clause-board : goal.meet_ports-requires-clause-board
meet_ports-requires-clause-board g c =
    let text = g.M.DeskMachine.feed_text in
    let airport = g.M.DeskMachine.airport in
    let states = g.W.Workplace.states in
    let state = g.W.Workplace.state in
    let asked = c.args.connections in
    let olds = c.cut_ports.new.ports.items in
    let news = c.work_all-ends.new.owns in
    let listeners = c.args.listeners.now in
    let lefts = c.work_all-ends.new.listeners in
    let end = c.work_all-ends.result.0 in
    let work : Over states state text airport asked c.args.board.now olds listeners news lefts end =
    subst (λ ports. Over states state text airport asked c.args.board.now ports listeners news lefts end) c.as_mut_slice.ensures.value c.work_all-ends.ensures.works in
    let count = same_count states state text airport asked c.args.board.now olds news listeners lefts end work ∙ (sym (ap length c.as_mut_slice.ensures.value) ∙ c.as_mut_slice.ensures.len) in
    let all = take_at news (drop (length news) olds) c.cut_ports.new.ports.len count in
    subst (Every (λ (port : ServedState g.row.M-Fixed.Denot). port.board ≡ c.args.board.now)) (sym all)
    (still_own states state text airport asked c.args.board.now olds news listeners lefts end c.cut_ports.ensures.board work)

pub returns-clause-share : goal.returns-clause-share
returns-clause-share g c =
    let text = g.M.DeskMachine.feed_text in
    let airport = g.M.DeskMachine.airport in
    let states = g.W.Workplace.states in
    let state = g.W.Workplace.state in
    let asked = c.args.connections in
    let olds = c.cut_ports.new.ports.items in
    let news = c.work_all-ends.new.owns in
    let listeners = c.args.listeners.now in
    let lefts = c.work_all-ends.new.listeners in
    let end = c.work_all-ends.result.0 in
    let work : Over states state text airport asked c.args.board.now olds listeners news lefts end =
    subst (λ ports. Over states state text airport asked c.args.board.now ports listeners news lefts end) c.as_mut_slice.ensures.value c.work_all-ends.ensures.works in
    let count = same_count states state text airport asked c.args.board.now olds news listeners lefts end work ∙ (sym (ap length c.as_mut_slice.ensures.value) ∙ c.as_mut_slice.ensures.len) in
    let all = take_at news (drop (length news) olds) c.cut_ports.new.ports.len count in
    let meets = subst (λ ports. MeetsAll c.cut_ports.new.seat ports c.meet_ports.new.seat) all c.meet_ports.ensures.meets in
    let few : length olds ≤ c.args.seat.now.share = (let cut = c.cut_ports.ensures.count in let share = c.requires.share in omega arith) in
    shares_back states state text airport asked c.args.board.now c.args.seat.now c.cut_ports.new.seat c.meet_ports.new.seat olds news listeners lefts end few c.cut_ports.ensures.cut work meets

pub returns-clause-works : goal.returns-clause-works
returns-clause-works g c =
    let text = g.M.DeskMachine.feed_text in
    let airport = g.M.DeskMachine.airport in
    let states = g.W.Workplace.states in
    let state = g.W.Workplace.state in
    let asked = c.args.connections in
    let olds = c.cut_ports.new.ports.items in
    let news = c.work_all-ends.new.owns in
    let listeners = c.args.listeners.now in
    let lefts = c.work_all-ends.new.listeners in
    let end = c.work_all-ends.result.0 in
    let work : Over states state text airport asked c.args.board.now olds listeners news lefts end =
    subst (λ ports. Over states state text airport asked c.args.board.now ports listeners news lefts end) c.as_mut_slice.ensures.value c.work_all-ends.ensures.works in
    let count = same_count states state text airport asked c.args.board.now olds news listeners lefts end work ∙ (sym (ap length c.as_mut_slice.ensures.value) ∙ c.as_mut_slice.ensures.len) in
    let all = take_at news (drop (length news) olds) c.cut_ports.new.ports.len count in
    let meets = subst (λ ports. MeetsAll c.cut_ports.new.seat ports c.meet_ports.new.seat) all c.meet_ports.ensures.meets in
    together states state text airport asked c.args.board.now c.args.seat.now c.cut_ports.new.seat c.meet_ports.new.seat olds news listeners lefts end c.cut_ports.ensures.cut c.cut_ports.ensures.board work meets
