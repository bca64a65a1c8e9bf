use Rattle.std.proofs.Common.{◌≡◌, ◌∙◌, ◌<◌, ◌≤◌, ◌+◌, ℕ, suc, List, [], ◌∷◌, ◌++◌, length, take, drop, get_or, take-append-drop, drop-cons, length-take-le, arith, sym, ap, subst}
use Rattle.std.proofs.lemmas.List.{take_more}
use Rattle.apron_rules.specs.declared.parts.AirportParts.{AirportParts}
use Rattle.visit_book.specs.declared.visits.NewVisit.{NewVisit}
use Rattle.apron_run.specs.Asking.{AsksOnce, MeetsAll, StopsImport}
use Rattle.apron_run.specs.Opened.{Reached}
use Rattle.apron_run.proofs.Asking.{among_season, meets_push, one_counts}
use Rattle.apron_run.proofs.season.ask_season.Goals as goal
use Rattle.history_core.specs.Board.{machine_state}

-- the visits up to one, and that one
taken_more : (visits : List NewVisit) (k : ℕ) (new : NewVisit) → k < length visits → new ≡ get_or visits k new → take (k + 1) visits ≡ take k visits ++ new ∷ []
taken_more visits k new less is = take_more visits k new less ∙ ap (λ (n : NewVisit). take k visits ++ n ∷ []) (sym is)

-- one visit among those before and after it
parted_at : (visits : List NewVisit) (k : ℕ) (new : NewVisit) → k < length visits → new ≡ get_or visits k new → visits ≡ take k visits ++ new ∷ drop (suc k) visits
parted_at visits k new less is =
    sym (take-append-drop k visits) ∙ (ap (λ (back : List NewVisit). take k visits ++ back) (drop-cons visits k new less)
    ∙ ap (λ (n : NewVisit). take k visits ++ n ∷ drop (suc k) visits) (sym is))

-- this many visits are before it
numbered : (visits : List NewVisit) (k : ℕ) → k < length visits → k + 2 ≡ length (take k visits) + 2
numbered visits k less = ap (λ (n : ℕ). n + 2) (sym (length-take-le k visits (omega (arith, less))))

pub returns-in-Err-clause-asks : goal.returns-in-Err-clause-asks
returns-in-Err-clause-asks g c =
    let visits = c.args.visits.now in
    let airport = c.args.board.now.airport in
    let before : Reached = machine_state g.K.Keeper.state c.args.board.now in
    let at : Reached = machine_state g.K.Keeper.state c.loop-k.board in
    let after : Reached = machine_state g.K.Keeper.state c.ask_visit.new.board in
    let k = c.loop-k.k in
    let new = c.index-visits-k.result in
    let stop = c.in-Err.stop in
    let stops : StopsImport airport (k + 2) at new after stop =
    subst (λ (a : AirportParts). StopsImport a (k + 2) at new after stop) c.loop-k.invariant.airport c.in-Err.ensures.stops in
    among_season airport visits before after stop (record {
      front = take k visits;
      new = new;
      back = drop (suc k) visits;
      are = parted_at visits k new c.loop-k-test.true c.index-visits-k.is;
      at = at;
      met = c.loop-k.invariant.met;
      stops = subst (λ (n : ℕ). StopsImport airport n at new after stop) (numbered visits k c.loop-k-test.true) stops;
    })

pub loop-k-preserved : goal.loop-k-preserved
loop-k-preserved g c =
    let visits = c.args.visits.now in
    let airport = c.args.board.now.airport in
    let before : Reached = machine_state g.K.Keeper.state c.args.board.now in
    let mid : Reached = machine_state g.K.Keeper.state c.loop-k.board in
    let after : Reached = machine_state g.K.Keeper.state c.ask_visit.new.board in
    let k = c.loop-k.k in
    let new = c.index-visits-k.result in
    let one : AsksOnce airport mid new after = subst (λ (a : AirportParts). AsksOnce a mid new after) c.loop-k.invariant.airport c.in_default.ensures.met in
    let (more, most) = one_counts airport mid after new one in
    let grown : length before.history ≤ length mid.history = c.loop-k.invariant.grown in
    let few : length mid.history ≤ length before.history + k = c.loop-k.invariant.few in
    record {
      met = subst (λ (vs : List NewVisit). MeetsAll airport vs before after) (sym (taken_more visits k new c.loop-k-test.true c.index-visits-k.is))
          (meets_push airport (take k visits) before mid after new c.loop-k.invariant.met one);
      airport = c.in_default.ensures.airport ∙ c.loop-k.invariant.airport;
      grown = omega (arith, more, grown);
      few = omega (arith, most, few);
    }
