-- Each step keeps the rule.
use Rattle.std.proofs.Common.{◌-◌, ◌≡◌, ◌≢◌, ◌⊎◌, ℕ, ◌+◌, ◌^◌, ◌<◌, ◌≤◌, ◌==◌, Bool, true, false, cond, List, [], ◌∷◌, ◌++◌, length, get_or, set, Option, Some, sym, refl, ap, ◌∙◌, subst, inl, inr, ⊎_elim, arith, append_assoc, length-append, lt_of_not-le, ◌%◌}
use mathlib.Core.Logic.{dite}
use mathlib.Core.Option.{some, none, some-injective, some-ne-none}
use mathlib.Core.Option as maybe
use native.Mathlib.Decide.{ℕ_discrete, dec_le}
use lib.ListN.{get_elem?}
use prog.Atomic.{either}
use Rattle.std.proofs.lemmas.Bool.Decides.{nat_tests}
use Rattle.std.proofs.lemmas.List.{append-nil}
use Rattle.std.proofs.Math.Nat.{mod-eq_of_lt}
use Rattle.atomic_table.specs.Table.{Me, step, Act, keeps, takes, gives, Valid, homes_after, carried_after, put_back, rest, Allows}
use Rattle.atomic_table.proofs.Lists.{at_set, set_else, set_again, exchanged}
use Rattle.apron_base.specs.Histories.{Every, Rises, Grows}
use Rattle.apron_base.proofs.Rising.{rises_length, rises_grown}
use Rattle.turn_board.specs.declared.view.Call.{Call}
use Rattle.turn_board.specs.declared.view.Stage.{Stage}
use Rattle.turn_board.specs.declared.view.Stage.TheVariants.{Idle, Waiting, Turn, Noted, Counted}
use Rattle.turn_board.specs.declared.view.View.{View}
use Rattle.apron_base.specs.Machine.{MachineState}
use Rattle.turn_board.specs.declared.view.Start.{Start}
use Rattle.turn_board.specs.Rule.{AreFaults, AreRisks, AtHome, Extends, Facts, HoldsForSeat, IsAtRisk, IsNewAtRisk, IsOut, LastEntryIs, TurnRule, TurnState}
use Rattle.turn_board.specs.Totals.{below, same, total}
use Rattle.turn_board.specs.Turns.{HasActed, HasLeftAtRisk}
use Rattle.turn_board.specs.Views.{acted_count, after_act, after_count, after_draw, after_end, after_look, after_take, count_of_call, has_acted, has_turn, in_flight, is_flying, may_owe, owes_of, run_out, share_of, start_of, turn_of}
use Rattle.turn_board.specs.Plays.{CountsEntry, DrawsNumber, EndsCall, LooksAfterMeeting, Notes, Takes, after_note}
use Rattle.turn_board.proofs.Faults.{IsKnown, apart, ended_call, kept}
use Rattle.turn_board.proofs.Risks.{ended_risk, if_some, keeps_risks, noted_risk, risks_stay}
use Rattle.turn_board.proofs.Totals.{same_inside, below_here, below_suc, not_below, below_most, times_append, total_set, total_le, total_apart, total_at, total_two, set_at, every_append, every_more, every_always, every_both, every_front, later_rest}

module _ {M E F : Type 0} (number : E → ℕ) (state : M → MachineState E F) (origin : MachineState E F) where
  abbrev V : Type 0
  V = View E F

  abbrev S : Type 0
  S = Option M

  abbrev Mine : Type 0
  Mine = Me S V

  abbrev Homes : Type 0
  Homes = List (maybe.Option S)

  abbrev stand : ℕ → ℕ → ℕ → List E → TurnState E
  stand t k n log = record { ticket = t; serving = k; count = n; longest = log }

  -- what a step on the word i owes, if these are the words, the slots at home and the views
  abbrev Owed : List ℕ → Homes → List V → ℕ → Mine → ℕ → ℕ → (ℕ → Mine → Type 0) → Type 0
  Owed ws homes views id me i x then = (w : V) × (a : Act S) × Valid homes me.1 a
      × TurnRule number state origin (record { words = set ws i x; homes = homes_after homes me.1 a; views = set views id w })
      × then (get_or ws i 0) (w, carried_after me.1 a)

  allowed : (slots id : ℕ) (me : Mine) (i : ℕ) (f : ℕ → ℕ) (then : ℕ → Mine → Type 0)
      → ((t k n : ℕ) (log : List E) (homes : Homes) (views : List V) → Facts number state origin (stand t k n log) homes views → AreFaults state origin k homes views → AreRisks number state origin k homes views → get_elem? views id ≡ some me.0
      → Owed (t ∷ k ∷ n ∷ []) homes views id me i (f (get_or (t ∷ k ∷ n ∷ []) i 0)) then)
      → Allows (TurnRule number state origin) slots id me i f then
  allowed slots id me i f then give s h deep at small =
      subst (λ (ws : List ℕ). Owed ws s.homes s.views id me i (f (get_or ws i 0)) then) (sym h.words) (give h.standing.ticket h.standing.serving h.standing.count h.standing.longest s.homes s.views h.facts h.faults h.risks at)

  -- a seat's step: what it owes of the totals, of the slot and of each seat
  moved : (t k n : ℕ) (log : List E) (homes : Homes) (views : List V) → Facts number state origin (stand t k n log) homes views
      → (id : ℕ) (v w : V) → get_elem? views id ≡ some v
      → (t' k' n' : ℕ) (log' : List E) (homes' : Homes)
      → (k' ≤ t') × (t' ≤ 2 ^ 62)
      → ((x : ℕ) → in_flight x w + below x k' + below x t ≡ in_flight x v + below x t' + below x k)
      → ((x : ℕ) → count_of_call x w + below x k ≡ count_of_call x v + below x k')
      → n' + w.owes + length log ≡ n + v.owes + length log'
      → Rises number 1 (k' + total acted_count (set views id w)) log'
      → w.share ≡ v.share
      → AtHome state origin k' log' homes' (set views id w) ⊎ IsOut homes' (set views id w)
      → HoldsForSeat number origin t' k' log' w
      → ((j : ℕ) (u : V) → j ≢ id → get_elem? views j ≡ some u → HoldsForSeat number origin t k log u → HoldsForSeat number origin t' k' log' u)
      → (((log' ≡ w.seen) × (0 < w.share)) ⊎ ((log' ≡ log) × (w.seen ≡ v.seen)))
      → Facts number state origin (stand t' k' n' log') homes' (set views id w)
  moved t k n log homes views r id v w at t' k' n' log' homes' order flights calls count rises share slot mine others last = record {
    order = order;
    flights = λ x. let a = total_set (in_flight x) views id v w at in let b = r.flights x in let c = flights x in omega arith;
    calls = λ x. let a = total_set (count_of_call x) views id v w at in let b = r.calls x in let c = calls x in omega arith;
    counted = let a = total_set owes_of views id v w at in let b = r.counted in omega arith;
    rises = rises;
    shares = let a = total_set share_of views id v w at in let b = r.shares in omega arith;
    slot = slot;
    seats = λ j u e. ⊎_elim (λ (h : (j ≡ id) × (w ≡ u)). subst (HoldsForSeat number origin t' k' log') h.1 mine)
        (λ (h : (j ≢ id) × (get_elem? views j ≡ some u)). others j u h.0 h.1 (r.seats j u h.1))
        (at_set views id j w u e);
    longest = ⊎_elim (λ (h : (log' ≡ w.seen) × (0 < w.share)). (id, w, set_at views id v w at, sym h.0, h.1))
        (λ (h : (log' ≡ log) × (w.seen ≡ v.seen)). let l = r.longest in dite (ℕ_discrete l.0 id)
        (λ (e : l.0 ≡ id). let is : l.1 ≡ v = some-injective l.1 v (sym l.2 ∙ ap (get_elem? views) e ∙ at) in
        (id, w, set_at views id v w at, h.1 ∙ (ap (λ (u : V). u.seen) (sym is) ∙ (l.3 ∙ sym h.0)), (let a = l.4 in let b : l.1.share ≡ v.share = ap (λ (u : V). u.share) is in omega arith)))
        (λ (e : l.0 ≢ id). (l.0, l.1, set_else views id l.0 w e ∙ l.2, l.3 ∙ sym h.0, l.4))) last;
  }

  flies : (x : ℕ) (v : V) (st : Stage) → v.stage ≡ st → in_flight x v ≡ cond (x == v.number) (is_flying st) 0
  flies x v st is = ap (λ (z : Stage). cond (x == v.number) (is_flying z) 0) is

  idles : (x : ℕ) (v : V) → v.stage ≡ Idle → in_flight x v ≡ 0
  idles x v is = let a = flies x v Idle is in grind (arith, nat_tests)

  -- nothing changes for the slot if the stage stays on its side of the turn
  slot_stays : (k : ℕ) (log : List E) (homes : Homes) (views : List V) (id : ℕ) (v w : V) → get_elem? views id ≡ some v → has_turn w.stage ≡ has_turn v.stage
      → AtHome state origin k log homes views ⊎ IsOut homes views → AtHome state origin k log homes (set views id w) ⊎ IsOut homes (set views id w)
  slot_stays k log homes views id v w at same_side slot = let a = total_set turn_of views id v w at in
      ⊎_elim (λ (h : AtHome state origin k log homes views). inl (h.0, h.1, (let b = h.2 in omega arith), h.3)) (λ (h : IsOut homes views). inr (h.0, (let b = h.1 in omega arith))) slot

  stays : (t k n : ℕ) (log : List E) (homes : Homes) (views : List V) → Facts number state origin (stand t k n log) homes views → (id : ℕ) (v : V) → get_elem? views id ≡ some v
      → Facts number state origin (stand t k n log) homes (set views id v)
  stays t k n log homes views r id v at = subst (Facts number state origin (stand t k n log) homes) (sym (set_again views id v at)) r

  done_stays : (number : E → ℕ) (k : ℕ) (log : List E) (views : List V) (id : ℕ) (v w : V) → get_elem? views id ≡ some v → has_acted w.stage ≡ has_acted v.stage
      → Rises number 1 (k + total acted_count views) log → Rises number 1 (k + total acted_count (set views id w)) log
  done_stays number k log views id v w at is r = let a = total_set acted_count views id v w at in let b : total acted_count (set views id w) ≡ total acted_count views = omega arith in
      subst (λ (z : ℕ). Rises number 1 (k + z) log) (sym b) r

  -- the counts stay if the slot and the seat's calls, stage and counts do
  faults_stay : (k : ℕ) (homes : Homes) (views : List V) (f : AreFaults state origin k homes views) (id : ℕ) (v w : V) → get_elem? views id ≡ some v → w.calls ≡ v.calls
      → has_turn w.stage ≡ has_turn v.stage → has_acted w.stage ≡ has_acted v.stage → w.found ≡ v.found → w.left ≡ v.left → AreFaults state origin k homes (set views id w)
  faults_stay k homes views f id v w at ended_is past_is done_is found_is left_is = kept state origin k homes homes views f id v w at ended_is
      ((λ p. let a = (f.turn id v at).0 (omega arith) in omega arith), (λ p. let a = (f.turn id v at).1 (omega arith) in omega arith)) f.home

  not_true : (b : Bool) → (b ≡ true → ⊥) → b ≡ false
  not_true true f = absurd (f refl)
  not_true false f = refl

  pub draws : (slots id : ℕ) (me : Mine) (old new : ℕ) → me.0.stage ≡ Idle → 0 < me.0.share → (old < 2 ^ 62 → new ≡ old + 1) → (2 ^ 62 ≤ old → new ≡ old)
      → Allows (TurnRule number state origin) slots id me 0 (λ n. either (n == old) new n) (DrawsNumber (step slots 0 old new none) me)
  draws slots id me old new idle live up at_end = allowed slots id me 0 (λ n. either (n == old) new n) (DrawsNumber (step slots 0 old new none) me) (λ t k n log homes views r q d at.
      let v = me.0 in
      let mine = r.seats id v at in
      let Goal : ℕ → Type 0 = λ x. Owed (t ∷ k ∷ n ∷ []) homes views id me 0 x (DrawsNumber (step slots 0 old new none) me) in
      dite (ℕ_discrete t (2 ^ 62))
      (λ (full : t ≡ 2 ^ 62).
      let w = run_out v in
      let still : Goal t = (
        w,
        keeps,
        tt,
        record {
          standing = stand t k n log;
          words = refl;
          facts = moved t k n log homes views r id v w at t k n log homes r.order (λ x. omega arith) (λ x. refl) refl
              (done_stays number k log views id v w at refl r.rises) refl (slot_stays k log homes views id v w at refl r.slot)
              (record { start = mine.start; seen = mine.seen; calls = mine.calls; told = mine.told; late = mine.late; turn = mine.turn; owes = mine.owes; own = mine.own; note = λ _. full; spent = mine.spent }) (λ j u _ _ f. f) (inr (refl, refl));
          faults = faults_stay k homes views q id v w at refl refl refl refl refl;
          risks = risks_stay number state origin k homes views d id v w at refl (d.turn id v at);
        },
        ((λ _. refl), (λ no. absurd (no full)), (λ no. absurd (no full))),
      ) in exchanged t old new Goal (λ e. subst Goal (let h = at_end (omega arith) in omega arith) still) (λ _. still))
      (λ (room : t ≢ 2 ^ 62).
      let less : t < 2 ^ 62 = let h = r.order.1 in omega arith in
      exchanged t old new Goal
      (λ (e : t ≡ old).
      let w = after_draw t v in
      let one : t + 1 ≡ new = let h = up (omega arith) in omega arith in
      subst Goal one (
        w,
        keeps,
        tt,
        record {
          standing = stand (t + 1) k n log;
          words = refl;
          facts = moved t k n log homes views r id v w at (t + 1) k n log homes ((let h = r.order.0 in omega arith), omega arith)
              (λ x. let a = idles x v idle in let b = below_suc x t in omega arith) (λ x. refl) refl
              (done_stays number k log views id v w at (sym (ap has_acted idle)) r.rises) refl (slot_stays k log homes views id v w at (sym (ap has_turn idle)) r.slot)
              (record {
                start = mine.start;
                seen = mine.seen;
                calls = mine.calls;
                told = mine.told;
                late = mine.late;
                turn = λ h. absurd (omega arith);
                owes = (let a = mine.owes in let b : may_owe v.stage ≡ 0 = ap may_owe idle in omega arith);
                own = λ z. absurd (let a = mine.owes in let b : may_owe v.stage ≡ 0 = ap may_owe idle in omega arith);
                note = λ h. absurd (room (mine.note h));
                spent = λ h. absurd (omega arith);
              })
              (λ j u _ _ f. record { start = f.start; seen = f.seen; calls = f.calls; told = f.told; late = f.late; turn = f.turn; owes = f.owes; own = f.own; note = λ h. absurd (room (f.note h)); spent = f.spent }) (inr (refl, refl));
          faults = faults_stay k homes views q id v w at refl (sym (ap has_turn idle)) (sym (ap has_acted idle)) refl refl;
          risks = risks_stay number state origin k homes views d id v w at refl (λ p. absurd (omega arith));
        },
        ((λ h. absurd (room h)), (λ _ _. (less, refl, every_more (λ (c : Call E). c.number < k) (λ (c : Call E). c.number < t) (λ c h. let g = r.order.0 in omega arith) v.calls mine.calls, not_true v.exhausted (λ h. room (mine.note h)))), (λ _ h. absurd (h e))),
      ))
      (λ (ne : t ≢ old). (
        v,
        keeps,
        tt,
        record { standing = stand t k n log; words = refl; facts = stays t k n log homes views r id v at; faults = faults_stay k homes views q id v v at refl refl refl refl refl; risks = risks_stay number state origin k homes views d id v v at refl (d.turn id v at) },
        ((λ h. absurd (room h)), (λ _ h. absurd (ne h)), (λ _ _. refl)),
      ))))

  past_flies : (st : Stage) (number k : ℕ) → (0 < has_turn st → number ≡ k) → has_turn st ≤ cond (k == number) (is_flying st) 0
  past_flies Idle number k f = omega arith
  past_flies Waiting number k f = omega arith
  past_flies Turn number k f = let h : number ≡ k = f (omega arith) in grind (arith, nat_tests)
  past_flies Noted number k f = let h : number ≡ k = f (omega arith) in grind (arith, nat_tests)
  past_flies Counted number k f = let h : number ≡ k = f (omega arith) in grind (arith, nat_tests)

  done_le_past : (st : Stage) → has_acted st ≤ has_turn st
  done_le_past Idle = omega arith
  done_le_past Waiting = omega arith
  done_le_past Turn = omega arith
  done_le_past Noted = omega arith
  done_le_past Counted = omega arith

  -- if a seat that waits has the number served, no seat is past waiting
  alone : (t k n : ℕ) (log : List E) (homes : Homes) (views : List V) → Facts number state origin (stand t k n log) homes views → (id : ℕ) (v : V) → get_elem? views id ≡ some v
      → v.stage ≡ Waiting → k ≡ v.number → total turn_of views ≡ 0
  alone t k n log homes views r id v at waits e =
      let a = total_apart turn_of (in_flight k) views id v at (λ j u h. let f = r.seats j u h in past_flies u.stage u.number k (λ p. (f.turn p).0)) in
      let b = r.flights k in
      let c = below_most k t in
      let d : in_flight k v ≡ 1 = flies k v Waiting waits ∙ (let g = e in grind (arith, nat_tests)) in
      let p : has_turn v.stage ≡ 0 = ap has_turn waits in
      omega arith

  -- the longest history begins with itself, and nothing follows
  whole : (log seen : List E) (after_end : List (Call E)) → seen ≡ log → Extends number log seen after_end
  whole log seen after_end is = record { rest = []; is = sym (append-nil seen ∙ is); later = every_always (λ (c : Call E). Every (λ e. c.number < number e) []) (λ c. tt) after_end }

  head_is : (m' : M) {homes : Homes} {m : M} → homes ≡ some (Some m) ∷ [] → set homes 0 none ≡ some (Some m') ∷ [] → some (Some m') ≡ none
  head_is m' {homes} {m} is e = sym (ap (head none) (sym (ap (λ (hs : Homes). set hs 0 none) is) ∙ e))
    where
      head : maybe.Option S → Homes → maybe.Option S
      head d [] = d
      head d (x ∷ xs) = x

  pub takes_turn : (slots id : ℕ) (me : Mine) → me.0.stage ≡ Waiting → 0 < me.0.share → Allows (TurnRule number state origin) slots id me 1 (λ n. n) (Takes state number (step slots 1 0 0 none) me)
  takes_turn slots id me waits live = allowed slots id me 1 (λ n. n) (Takes state number (step slots 1 0 0 none) me) (λ t k n log homes views r q d at.
      let v = me.0 in
      let mine = r.seats id v at in
      dite (ℕ_discrete k v.number)
      (λ (e : k ≡ v.number).
      let nobody = alone t k n log homes views r id v at waits e in
      ⊎_elim
      (λ (h : AtHome state origin k log homes views).
      let m = h.0 in
      let home = h.3 in
      let w = after_take (state m) v in
      let p = total_set turn_of views id v w at in
      let none_past : has_turn v.stage ≡ 0 = ap has_turn waits in
      let undone : total acted_count views ≡ 0 = let a = total_le acted_count turn_of views (λ j u _. done_le_past u.stage) in omega arith in
      let rises = subst (λ (z : ℕ). Rises number 1 z log) (let a = undone in omega arith) r.rises in (
        w,
        takes 0 (Some m),
        ap (λ (hs : Homes). get_elem? hs 0) h.1,
        record {
          standing = stand t k n log;
          words = refl;
          facts = moved t k n log homes views r id v w at t k n log (set homes 0 none) r.order
              (λ x. let a = flies x v Waiting waits in omega arith) (λ x. refl) refl
              (done_stays number k log views id v w at (sym (ap has_acted waits)) r.rises) refl
              (inr (ap (λ (hs : Homes). set hs 0 none) h.1, omega arith))
              (record {
                start = mine.start;
                seen = whole log (state m).history v.calls home.history;
                calls = mine.calls;
                told = mine.told;
                late = mine.late;
                turn = λ _. (sym e, home.history);
                owes = (let a = mine.owes in let b : may_owe v.stage ≡ 0 = ap may_owe waits in omega arith);
                own = λ z. absurd (let a = mine.owes in let b : may_owe v.stage ≡ 0 = ap may_owe waits in omega arith);
                note = mine.note;
                spent = λ z. absurd (omega arith);
              })
              (λ j u _ _ f. f) (inl (sym home.history, live));
          faults = kept state origin k homes (set homes 0 none) views q id v w at refl ((λ _. q.home m h.1), (λ p. absurd (omega arith)))
              (λ m' e. absurd (some-ne-none (Some m') (head_is m' h.1 e)));
          risks = keeps_risks number state origin k homes (set homes 0 none) views d id w (d.calls id v at)
              (λ _. if_some (IsAtRisk number origin d.left k (state m).history) (λ a. IsNewAtRisk number w a ⊎ IsAtRisk number origin d.left k (state m).history a) (λ a known. inr known) (state m).at_risk (d.home m h.1))
              (λ m' e. absurd (some-ne-none (Some m') (head_is m' h.1 e)));
        },
        (
          (λ _. (
            m,
            refl,
            refl,
            record {
              extends = subst (λ (l : List E). Extends number l v.seen v.calls) (sym home.history) mine.seen;
              rises = subst (Rises number 1 k) (sym home.history) rises;
              next = home.next;
              start = λ x is. subst (λ (y : Start F). ((state m).fixed ≡ y.fixed) × (y.faults ≤ (state m).faults)) (same_inside (start_of origin) x (mine.start live) is) (home.fixed, (let b = q.rose in let c = q.home m h.1 in omega arith));
              faults = every_more (IsKnown q.found q.left k) (λ (c : Call E). c.left ≤ (state m).faults) (λ c g. let a = (q.each c.number g.0).2 in let b = g.2 in let d = q.home m h.1 in omega arith) v.calls (q.calls id v at);
              at_risk = if_some (IsAtRisk number origin d.left k (state m).history) (λ a. number a < k) (λ a known. known.ended) (state m).at_risk (d.home m h.1);
            },
          )),
          (λ no. absurd (no e)),
        ),
      ))
      (λ (h : IsOut homes views). absurd (let a = h.1 in omega arith)) r.slot)
      (λ (ne : k ≢ v.number). (
        v,
        keeps,
        tt,
        record { standing = stand t k n log; words = refl; facts = stays t k n log homes views r id v at; faults = faults_stay k homes views q id v v at refl refl refl refl refl; risks = risks_stay number state origin k homes views d id v v at refl (d.turn id v at) },
        ((λ h. absurd (ne h)), (λ _. refl)),
      )))

  -- the slot is out if a seat is past waiting
  out_with : (t k n : ℕ) (log : List E) (homes : Homes) (views : List V) → Facts number state origin (stand t k n log) homes views → (id : ℕ) (v : V) → get_elem? views id ≡ some v
      → has_turn v.stage ≡ 1 → IsOut homes views
  out_with t k n log homes views r id v at is = let a = total_at turn_of views id v at in
      ⊎_elim (λ (h : AtHome state origin k log homes views). absurd (let b = h.2 in omega arith)) (λ (h : IsOut homes views). h) r.slot

  -- and no other seat is
  others_wait : (homes : Homes) (views : List V) → IsOut homes views → (id : ℕ) (v : V) → get_elem? views id ≡ some v → has_turn v.stage ≡ 1
      → (j : ℕ) (u : V) → j ≢ id → get_elem? views j ≡ some u → has_turn u.stage ≡ 0
  others_wait homes views out id v at is j u ne e = let a = total_two turn_of views id j v u ne at e in let b = out.1 in omega arith

  -- what was not seen, after one more entry of the number k
  before_grown : (k call : ℕ) (log after seen : List E) (after_end : List (Call E)) → call ≡ k → Grows number call log after → Every (λ (c : Call E). c.number < k) after_end → Extends number log seen after_end → Extends number after seen after_end
  before_grown k call log after seen after_end is g below_k b = ⊎_elim
      (λ (same : after ≡ log). subst (λ (l : List E). Extends number l seen after_end) (sym same) b)
      (λ (more : (e : E) × (number e ≡ call) × (after ≡ log ++ e ∷ [])). record {
        rest = b.rest ++ more.0 ∷ [];
        is = more.2 ∙ (ap (λ (l : List E). l ++ more.0 ∷ []) b.is ∙ append_assoc seen b.rest (more.0 ∷ []));
        later = every_both (λ (c : Call E). Every (λ e. c.number < number e) b.rest) (λ (c : Call E). c.number < k) (λ (c : Call E). Every (λ e. c.number < number e) (b.rest ++ more.0 ∷ []))
            (λ c h l. every_append (λ e. c.number < number e) b.rest (more.0 ∷ []) h ((let a = more.1 in omega arith), tt)) after_end b.later below_k;
      }) g

  grown_length : (call : ℕ) (before after : List E) → Grows number call before after → (length before ≤ length after) × (length after ≤ length before + 1)
  grown_length call before after g = ⊎_elim (λ (same : after ≡ before). let a : length after ≡ length before = ap length same in (omega arith, omega arith))
      (λ (more : (e : E) × (number e ≡ call) × (after ≡ before ++ e ∷ [])). let a : length after ≡ length before + 1 = ap length more.2 ∙ length-append before (more.0 ∷ []) in (omega arith, omega arith)) g

  own_entry : (call : ℕ) (before after : List E) → Grows number call before after → 0 < length after - length before → LastEntryIs number call after
  own_entry call before after g more = ⊎_elim (λ (same : after ≡ before). absurd (let a : length after ≡ length before = ap length same in omega arith))
      (λ (h : (e : E) × (number e ≡ call) × (after ≡ before ++ e ∷ [])). (before, h.0, h.2, h.1)) g

  pub notes : (slots id : ℕ) (me : Mine) (m : M) → me.0.stage ≡ Turn → me.1 ≡ (0, Some m) ∷ [] → 0 < me.0.share → Grows number me.0.number me.0.seen (state m).history → me.0.found ≤ (state m).faults → HasLeftAtRisk number me (state m)
      → Allows (TurnRule number state origin) slots id me 1 (λ n. n) (Notes state (step slots 1 0 0 none) me)
  notes slots id me m turn holds live grows rose left = allowed slots id me 1 (λ n. n) (Notes state (step slots 1 0 0 none) me) (λ t k n log homes views r q d at.
      let v = me.0 in
      let mine = r.seats id v at in
      let w = after_act (state m) v in
      let went : has_turn v.stage ≡ 1 = ap has_turn turn in
      let undone : has_acted v.stage ≡ 0 = ap has_acted turn in
      let out = out_with t k n log homes views r id v at went in
      let now = mine.turn (omega arith) in
      let long = grown_length v.number v.seen (state m).history grows in
      let as_long : length v.seen ≡ length log = ap length now.1 in
      let grown : Grows number v.number log (state m).history = subst (λ (l : List E). Grows number v.number l (state m).history) now.1 grows in
      let done_before : total acted_count views ≡ 0 = let a = total_apart acted_count turn_of views id v at (λ j u _. done_le_past u.stage) in let b = out.1 in omega arith in
      let done_after : total acted_count (set views id w) ≡ 1 = let a = total_set acted_count views id v w at in omega arith in
      let rises : Rises number 1 k log = subst (λ (z : ℕ). Rises number 1 z log) (let a = done_before in omega arith) r.rises in
      let rises' : Rises number 1 (k + total acted_count (set views id w)) (state m).history =
      rises_grown number 1 k v.number (k + total acted_count (set views id w)) log (state m).history rises grown (let a = now.0 in omega arith) (let a = now.0 in omega arith) in (
        w,
        keeps,
        tt,
        record {
          standing = stand t k n (state m).history;
          words = refl;
          facts = moved t k n log homes views r id v w at t k n (state m).history homes r.order
              (λ x. let a = flies x v Turn turn in omega arith) (λ x. refl) (let a = mine.owes in let b = long.0 in let c : may_owe v.stage ≡ 0 = ap may_owe turn in omega arith) rises' refl
              (inr (out.0, (let a = total_set turn_of views id v w at in let b = out.1 in omega arith)))
              (record {
                start = mine.start;
                seen = whole (state m).history (state m).history v.calls refl;
                calls = mine.calls;
                told = before_grown k v.number log (state m).history v.told v.late now.0 grown mine.late mine.told;
                late = mine.late;
                turn = λ _. (now.0, refl);
                owes = (let b = long.1 in omega arith);
                own = own_entry v.number v.seen (state m).history grows;
                note = mine.note;
                spent = λ z. absurd (omega arith);
              })
              (λ j u ne e f. record {
                start = f.start;
                seen = before_grown k v.number log (state m).history u.seen u.calls now.0 grown f.calls f.seen;
                calls = f.calls;
                told = before_grown k v.number log (state m).history u.told u.late now.0 grown f.late f.told;
                late = f.late;
                turn = λ p. absurd (let a = others_wait homes views out id v at went j u ne e in omega arith);
                owes = f.owes;
                own = f.own;
                note = f.note;
                spent = f.spent;
              })
              (inl (refl, live));
          faults = kept state origin k homes homes views q id v w at refl ((λ _. (q.turn id v at).0 (omega arith)), (λ _. rose)) q.home;
          risks = keeps_risks number state origin k homes homes views d id w (d.calls id v at)
              (λ _. noted_risk number state origin v m me.1 d.left k left (subst (λ (z : ℕ). Rises number 1 z v.seen) (sym now.0) (subst (Rises number 1 k) (sym now.1) rises)) (d.turn id v at (omega arith))) d.home;
        },
        (λ i. (ap (λ (cs : List (ℕ × S)). after_note state v cs) (sym holds) i, me.1)),
      ))

  -- the same, after the machine was put back into the slot
  pub notes_acted : (slots id : ℕ) (me me' : Mine) (m : M) → HasActed number me (state m) → HasLeftAtRisk number me (state m) → me' ≡ (me.0, (0, Some m) ∷ rest me.1)
      → Allows (TurnRule number state origin) slots id me' 1 (λ n. n) (Notes state (step slots 1 0 0 none) me')
  notes_acted slots id me me' m asked left is =
      let now : Mine = (me.0, (0, Some m) ∷ rest me.1) in
      subst (λ (z : Mine). Allows (TurnRule number state origin) slots id z 1 (λ n. n) (Notes state (step slots 1 0 0 none) z)) (sym is)
      (notes slots id now m asked.stage (ap (λ cs. (0, Some m) ∷ rest cs) asked.out) asked.share asked.grows asked.faults left)

  flying_done : (st : Stage) → has_acted st ≡ 1 → (is_flying st ≡ 1) × (has_turn st ≡ 1)
  flying_done Idle is = absurd (omega arith)
  flying_done Waiting is = absurd (omega arith)
  flying_done Turn is = absurd (omega arith)
  flying_done Noted is = (refl, refl)
  flying_done Counted is = (refl, refl)

  pub counts_entry : (slots id : ℕ) (me : Mine) → me.0.stage ≡ Noted → me.0.owes ≡ 1 → 0 < me.0.share
      → Allows (TurnRule number state origin) slots id me 2 (λ n. (n + 1) % 2 ^ 64) (CountsEntry (step slots 2 1 0 none) me)
  counts_entry slots id me acted_ owes live = allowed slots id me 2 (λ n. (n + 1) % 2 ^ 64) (CountsEntry (step slots 2 1 0 none) me) (λ t k n log homes views r q d at.
      let v = me.0 in
      let mine = r.seats id v at in
      let w = after_count v in
      let went : has_turn v.stage ≡ 1 = ap has_turn acted_ in
      let is_done : has_acted v.stage ≡ 1 = ap has_acted acted_ in
      let out = out_with t k n log homes views r id v at went in
      let few : total acted_count views ≤ 1 = let a = total_le acted_count turn_of views (λ j u _. done_le_past u.stage) in let b = out.1 in omega arith in
      let owed : 1 ≤ total owes_of views = let a = total_at owes_of views id v at in omega arith in
      let small : n + 1 < 2 ^ 64 = let a = rises_length number 1 (k + total acted_count views) log r.rises in let b = r.counted in let c = r.order in omega arith in
      let Goal : ℕ → Type 0 = λ x. Owed (t ∷ k ∷ n ∷ []) homes views id me 2 x (CountsEntry (step slots 2 1 0 none) me) in
      subst Goal (sym (mod-eq_of_lt small)) (
        w,
        keeps,
        tt,
        record {
          standing = stand t k (n + 1) log;
          words = refl;
          facts = moved t k n log homes views r id v w at t k (n + 1) log homes r.order
              (λ x. let a = flies x v Noted acted_ in omega arith) (λ x. refl) (omega arith)
              (done_stays number k log views id v w at (sym is_done) r.rises) refl (slot_stays k log homes views id v w at (sym went) r.slot)
              (record { start = mine.start; seen = mine.seen; calls = mine.calls; told = mine.told; late = mine.late; turn = λ _. mine.turn (omega arith); owes = omega arith; own = λ z. absurd (omega arith); note = mine.note; spent = λ z. absurd (omega arith) })
              (λ j u _ _ f. f) (inr (refl, refl));
          faults = faults_stay k homes views q id v w at refl (sym went) (sym is_done) refl refl;
          risks = risks_stay number state origin k homes views d id v w at refl (λ _. d.turn id v at (omega arith));
        },
        refl,
      ))

  machine_is : (m m' : M) → ◌≡◌ {A = Homes} (some (Some m) ∷ []) (some (Some m') ∷ []) → m ≡ m'
  machine_is m m' e = ap (held m) e
    where
      held : M → Homes → M
      held d (some (Some x) ∷ _) = x
      held d _ = d

  pub ends : (slots id : ℕ) (me : Mine) (m : M) → has_acted me.0.stage ≡ 1 → me.0.owes ≡ 0 → 0 < me.0.share → me.1 ≡ (0, Some m) ∷ []
      → (state m).history ≡ me.0.seen → (state m).next ≤ me.0.number + 1 → (x : Start F) → me.0.start ≡ Some x → (state m).fixed ≡ x.fixed → me.0.left ≡ (state m).faults → me.0.at_risk ≡ (state m).at_risk
      → Allows (TurnRule number state origin) slots id me 1 (λ n. (n + 1) % 2 ^ 64) (EndsCall (step slots 1 1 0 none) me)
  ends slots id me m is_done owes live holds same_history next_is x has same_fixed left_is risk_is = allowed slots id me 1 (λ n. (n + 1) % 2 ^ 64) (EndsCall (step slots 1 1 0 none) me) (λ t k n log homes views r q d at.
      let v = me.0 in
      let mine = r.seats id v at in
      let w = after_end v in
      let went : has_turn v.stage ≡ 1 = (flying_done v.stage is_done).1 in
      let flew : is_flying v.stage ≡ 1 = (flying_done v.stage is_done).0 in
      let out = out_with t k n log homes views r id v at went in
      let now = mine.turn (omega arith) in
      let here : in_flight k v ≡ 1 = ap (λ z. cond (k == v.number) z 0) flew ∙ (let g = now.0 in grind (arith, nat_tests)) in
      let served : k < t = dite (dec_le t k)
      (λ (h : t ≤ k). absurd (let a = r.flights k in let b = not_below k t h in let c = total_at (in_flight k) views id v at in omega arith)) (λ (h : t ≤ k → ⊥). lt_of_not-le h) in
      let small : k + 1 < 2 ^ 64 = let c = r.order in omega arith in
      let since : origin.next ≤ k = dite (dec_le origin.next k) (λ (l : origin.next ≤ k). l)
      (λ (g : origin.next ≤ k → ⊥). absurd (let a = r.calls k in let b = not_below k k (omega arith) in let c = below_here k origin.next (lt_of_not-le g) in omega arith)) in
      let Goal : ℕ → Type 0 = λ z. Owed (t ∷ k ∷ n ∷ []) homes views id me 1 z (EndsCall (step slots 1 1 0 none) me) in
      let returned : put_back homes me.1 ≡ some (Some m) ∷ [] = λ i. put_back (out.0 i) (holds i) in
      let past_after : total turn_of (set views id w) ≡ 0 = let a = total_set turn_of views id v w at in let b = out.1 in omega arith in
      let done_after : k + total acted_count views ≡ (k + 1) + total acted_count (set views id w) = let a = total_set acted_count views id v w at in omega arith in
      subst Goal (sym (mod-eq_of_lt small)) (
        w,
        gives,
        tt,
        record {
          standing = stand t (k + 1) n log;
          words = refl;
          facts = moved t k n log homes views r id v w at t (k + 1) n log (put_back homes me.1) (omega arith, r.order.1)
              (λ y. let a = below_suc y k in let b : same y v.number ≡ same y k = ap (same y) now.0 in let c : in_flight y v ≡ same y v.number = ap (λ z. cond (y == v.number) z 0) flew in let d = idles y w refl in omega arith)
              (λ y. let a = below_suc y k in let b : same y v.number ≡ same y k = ap (same y) now.0 in let c = times_append y v.calls (record { number = v.number; found = v.found; left = v.left; at_risk = v.at_risk } ∷ []) in omega arith)
              (omega arith)
              (subst (λ (z : ℕ). Rises number 1 z log) done_after r.rises) refl
              (inl (m, returned, past_after, record { history = same_history ∙ now.1; next = (let a = now.0 in omega arith); fixed = same_fixed ∙ ap (λ (y : Start F). y.fixed) (same_inside x (start_of origin) has (mine.start live)) }))
              (record {
                start = mine.start;
                seen = whole log v.seen w.calls now.1;
                calls = every_append (λ (c : Call E). c.number < k + 1) v.calls (record { number = v.number; found = v.found; left = v.left; at_risk = v.at_risk } ∷ [])
                    (every_more (λ (c : Call E). c.number < k) (λ (c : Call E). c.number < k + 1) (λ c h. omega arith) v.calls mine.calls) ((let a = now.0 in omega arith), tt);
                told = mine.told;
                late = every_more (λ (c : Call E). c.number < k) (λ (c : Call E). c.number < k + 1) (λ c h. omega arith) v.late mine.late;
                turn = λ p. absurd (omega arith);
                owes = omega arith;
                own = λ z. absurd (omega arith);
                note = mine.note;
                spent = λ g. absurd (omega arith);
              })
              (λ j u ne e f. record {
                start = f.start;
                seen = f.seen;
                calls = every_more (λ (c : Call E). c.number < k) (λ (c : Call E). c.number < k + 1) (λ c h. omega arith) u.calls f.calls;
                told = f.told;
                late = every_more (λ (c : Call E). c.number < k) (λ (c : Call E). c.number < k + 1) (λ c h. omega arith) u.late f.late;
                turn = λ p. absurd (let a = others_wait homes views out id v at went j u ne e in omega arith);
                owes = f.owes;
                own = f.own;
                note = f.note;
                spent = f.spent;
              })
              (inr (refl, refl));
          faults = ended_call state origin k homes (put_back homes me.1) views q id v w at now.0 is_done went refl refl refl (others_wait homes views out id v at went)
              (λ m' e. let same_machine : m ≡ m' = machine_is m m' (sym returned ∙ e) in let a : (state m).faults ≡ (state m').faults = ap (λ (y : M). (state y).faults) same_machine in omega arith);
          risks = ended_risk number state origin k homes (put_back homes me.1) views d id v w at now.0 went since refl refl (others_wait homes views out id v at went)
              (λ m' e. let same_machine : m ≡ m' = machine_is m m' (sym returned ∙ e) in
              (risk_is ∙ ap (λ (y : M). (state y).at_risk) same_machine, ap (λ (y : M). (state y).history) (sym same_machine) ∙ same_history));
        },
        (λ i. (w, rest (holds i))),
      ))

  nothing_told : (log : List E) → Extends number log [] []
  nothing_told log = record { rest = log; is = refl; later = tt }

  -- what comes before the whole history comes before each longer beginning of it
  stands : (log seen told : List E) (late : List (Call E)) (rest : List E) → log ≡ seen ++ rest → Extends number log told late → length told ≤ length seen → Extends number seen told late
  stands log seen told late rest is b h = let l = later_rest told seen b.rest rest (sym b.is ∙ is) h in record {
    rest = l.0;
    is = l.1;
    later = every_more (λ (c : Call E). Every (λ e. c.number < number e) b.rest) (λ (c : Call E). Every (λ e. c.number < number e) l.0)
        (λ c all. every_front (λ e. c.number < number e) l.0 rest (subst (Every (λ e. c.number < number e)) l.2 all)) late b.later;
  }

  pub looks : (slots id : ℕ) (me : Mine) → Allows (TurnRule number state origin) slots id me 1 (λ n. n) (LooksAfterMeeting number (step slots 1 0 0 none) me)
  looks slots id me = allowed slots id me 1 (λ n. n) (LooksAfterMeeting number (step slots 1 0 0 none) me) (λ t k n log homes views r q d at.
      let v = me.0 in
      let mine = r.seats id v at in
      let w = after_look v in (
        w,
        keeps,
        tt,
        record {
          standing = stand t k n log;
          words = refl;
          facts = moved t k n log homes views r id v w at t k n log homes r.order (λ x. omega arith) (λ x. refl) refl
              (done_stays number k log views id v w at refl r.rises) refl (slot_stays k log homes views id v w at refl r.slot)
              (record { start = mine.start; seen = mine.seen; told = nothing_told log; late = tt; calls = mine.calls; turn = mine.turn; owes = mine.owes; own = mine.own; note = mine.note; spent = mine.spent })
              (λ j u _ _ f. f) (inr (refl, refl));
          faults = faults_stay k homes views q id v w at refl refl refl refl refl;
          risks = risks_stay number state origin k homes views d id v w at refl (d.turn id v at);
        },
        (
          refl,
          (λ h. stands log v.seen v.told v.late mine.seen.rest mine.seen.is mine.told h),
          (λ x. let a = total_at (count_of_call x) views id v at in let b = r.calls x in let c = below_most x k in omega arith),
          apart state origin k homes views q id v at,
        ),
      ))
