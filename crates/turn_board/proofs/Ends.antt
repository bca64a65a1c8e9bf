-- A table that begins, and one that is closed.
use Rattle.std.proofs.Common.{◌≡◌, ◌≢◌, ℕ, zero, suc, ◌+◌, ◌^◌, ◌<◌, ◌≤◌, ◌==◌, cond, List, [], ◌∷◌, length, Option, None, Some, IfSome, sym, refl, ap, ◌∙◌, subst, ◌⊎◌, inl, ⊎_elim, arith, lt_of_not-le}
use mathlib.Core.Logic.{dite}
use mathlib.Core.Option.{some, none, some-injective, some-ne-none}
use mathlib.Core.Option as maybe
use native.Mathlib.Decide.{ℕ_discrete, dec_le}
use lib.ListN.{get_elem?}
use Rattle.std.specs.List.{sum_by}
use Rattle.std.proofs.lemmas.Bool.Decides.{nat_tests}
use Rattle.atomic_table.specs.Table.{opening, Final, Seen}
use Rattle.apron_base.specs.Histories.{Every, Rises}
use Rattle.std.proofs.lemmas.List.{append-nil}
use Rattle.atomic_table.specs.Seated.{TableId}
use Rattle.apron_base.specs.Machine.{MachineState}
use Rattle.turn_board.specs.declared.view.Call.{Call}
use Rattle.turn_board.specs.declared.view.Stage.{Stage}
use Rattle.turn_board.specs.declared.view.Stage.TheVariants.{Idle}
use Rattle.turn_board.specs.declared.view.View.{View}
use Rattle.turn_board.specs.Board.{Closes, IsPutAtRisk, SeatState, TurnBoardState, seat_of}
use Rattle.turn_board.specs.Rule.{AtHome, HoldsForSeat, IsAtRisk, IsNewAtRisk, IsOut, TurnRule}
use Rattle.turn_board.specs.Totals.{below, rise_of, times, total}
use Rattle.turn_board.specs.Views.{all_shares, count_of_call, first_view, has_acted, has_turn, in_flight, is_flying, risen_of, share_of, start_of, turn_of}
use Rattle.turn_board.proofs.Faults.{IsKnown}
use Rattle.turn_board.proofs.Risks.{IsLeft, if_some}
use Rattle.turn_board.proofs.Totals.{below_here, called, every_more, not_below, same_inside, total_only, total_two}

module _ {M E F : Type 0} (number : E → ℕ) (state : M → MachineState E F) where
  pub starts : (m : M) (first long : ℕ) → first ≡ (state m).next → first ≤ 2 ^ 62 → long ≡ length (state m).history → Rises number 1 (state m).next (state m).history → (state m).at_risk ≡ None
      → TurnRule number state (state m) (opening (first ∷ first ∷ long ∷ []) (Some m ∷ []) (first_view (state m)))
  starts m first long is few long_is rises safe = record {
    standing = record { ticket = first; serving = first; count = long; longest = (state m).history };
    words = refl;
    facts = record {
      order = (omega arith, few);
      flights = λ x. let a : in_flight x (first_view (state m)) ≡ 0 = grind (arith, nat_tests) in omega arith;
      calls = λ x. let a : below x (state m).next ≡ below x first = ap (below x) (sym is) in omega arith;
      counted = omega arith;
      rises = subst (λ (n : ℕ). Rises number 1 n (state m).history) (omega arith) rises;
      shares = refl;
      slot = inl (m, refl, refl, record { history = refl; next = omega arith; fixed = refl });
      seats = at_first;
      longest = (0, first_view (state m), refl, refl, omega arith);
    };
    faults = record {
      found = λ x. (state m).faults;
      left = λ x. (state m).faults;
      top = (state m).faults;
      rose = omega arith;
      each = λ x h. (omega arith, omega arith, omega arith);
      order = λ x y h l. omega arith;
      calls = no_calls;
      turn = no_turn;
      home = λ m' e. let a : (state m).faults ≡ (state m').faults = ap (held_faults m) e in omega arith;
    };
    risks = record {
      left = λ x. None;
      calls = none_left;
      turn = never_turned;
      home = λ m' e. subst (λ (r : Option E). IfSome r (IsAtRisk number (state m) (λ x. None) first (state m').history)) (sym safe ∙ ap (held_risk m) e) tt;
    };
  }
    where
      held_faults : M → List (maybe.Option (Option M)) → ℕ
      held_faults d (some (Some x) ∷ _) = (state x).faults
      held_faults d _ = (state d).faults

      held_risk : M → List (maybe.Option (Option M)) → Option E
      held_risk d (some (Some x) ∷ _) = (state x).at_risk
      held_risk d _ = (state d).at_risk

      none_left : (j : ℕ) (v : View E F) → get_elem? (first_view (state m) ∷ []) j ≡ some v → Every (IsLeft (λ x. None) first) v.calls
      none_left zero v e = subst (λ (z : View E F). Every (IsLeft (λ x. None) first) z.calls) (some-injective (first_view (state m)) v e) tt
      none_left (suc j) v e = absurd (some-ne-none v (sym e))

      Knows : View E F → Type 0
      Knows v = 0 < has_turn v.stage → IfSome v.at_risk (λ a. IsNewAtRisk number v a ⊎ IsAtRisk number (state m) (λ x. None) first v.seen a)

      never_turned : (j : ℕ) (v : View E F) → get_elem? (first_view (state m) ∷ []) j ≡ some v → Knows v
      never_turned zero v e = subst Knows (some-injective (first_view (state m)) v e) (λ p. absurd (omega arith))
      never_turned (suc j) v e = absurd (some-ne-none v (sym e))

      no_calls : (j : ℕ) (v : View E F) → get_elem? (first_view (state m) ∷ []) j ≡ some v → Every (λ (c : Call E). (c.number < first) × (c.found ≡ (state m).faults) × (c.left ≡ (state m).faults)) v.calls
      no_calls zero v e = subst (λ (z : View E F). Every (λ (c : Call E). (c.number < first) × (c.found ≡ (state m).faults) × (c.left ≡ (state m).faults)) z.calls) (some-injective (first_view (state m)) v e) tt
      no_calls (suc j) v e = absurd (some-ne-none v (sym e))

      no_turn : (j : ℕ) (v : View E F) → get_elem? (first_view (state m) ∷ []) j ≡ some v → (0 < has_turn v.stage → v.found ≡ (state m).faults) × (0 < has_acted v.stage → v.found ≤ v.left)
      no_turn zero v e = subst (λ (z : View E F). (0 < has_turn z.stage → z.found ≡ (state m).faults) × (0 < has_acted z.stage → z.found ≤ z.left)) (some-injective (first_view (state m)) v e) ((λ p. absurd (omega arith)), (λ p. absurd (omega arith)))
      no_turn (suc j) v e = absurd (some-ne-none v (sym e))

      mine : HoldsForSeat number (state m) first first (state m).history (first_view (state m))
      mine = record {
        start = λ _. refl;
        seen = record { rest = []; is = sym (append-nil (state m).history); later = tt };
        told = record { rest = (state m).history; is = refl; later = tt };
        late = tt;
        calls = tt;
        turn = λ h. absurd (omega arith);
        owes = omega arith;
        own = λ z. absurd (omega arith);
        note = λ h. absurd (cc);
        spent = λ h. absurd (omega arith);
      }

      at_first : (j : ℕ) (v : View E F) → get_elem? (first_view (state m) ∷ []) j ≡ some v → HoldsForSeat number (state m) first first (state m).history v
      at_first zero v e = subst (HoldsForSeat number (state m) first first (state m).history) (some-injective (first_view (state m)) v e) mine
      at_first (suc j) v e = absurd (some-ne-none v (sym e))

module _ {M E F : Type 0} (number : E → ℕ) (state : M → MachineState E F) where
  pub starts_as : (m m' : M) (xs : List (Option M)) (first second long : ℕ) → m' ≡ m → xs ≡ Some m ∷ [] → first ≡ (state m).next → second ≡ (state m).next → (state m).next ≤ 2 ^ 62 → long ≡ length (state m).history
      → Rises number 1 (state m).next (state m).history → (state m).at_risk ≡ None → TurnRule number state (state m') (opening (first ∷ second ∷ long ∷ []) xs (first_view (state m')))
  starts_as m m' xs first second long is items first_is second_is few long_is rises safe =
      let at : TurnRule number state (state m) (opening (first ∷ second ∷ long ∷ []) (Some m ∷ []) (first_view (state m))) =
      subst (λ (z : ℕ). TurnRule number state (state m) (opening (first ∷ z ∷ long ∷ []) (Some m ∷ []) (first_view (state m)))) (first_is ∙ sym second_is) (starts number state m first long first_is (omega arith) long_is rises safe) in
      let other : TurnRule number state (state m') (opening (first ∷ second ∷ long ∷ []) (Some m ∷ []) (first_view (state m'))) = subst (λ (z : M). TurnRule number state (state z) (opening (first ∷ second ∷ long ∷ []) (Some m ∷ []) (first_view (state z)))) (sym is) at in
      subst (λ (ys : List (Option M)). TurnRule number state (state m') (opening (first ∷ second ∷ long ∷ []) ys (first_view (state m')))) (sym items) other

module _ {M E F : Type 0} (number : E → ℕ) (state : M → MachineState E F) (origin : MachineState E F) where
  abbrev V : Type 0
  V = View E F

  idles : (x : ℕ) (v : V) → v.stage ≡ Idle → in_flight x v ≡ 0
  idles x v is = let a : in_flight x v ≡ cond (x == v.number) 0 0 = ap (λ (z : Stage). cond (x == v.number) (is_flying z) 0) is in grind (arith, nat_tests)

  abbrev board_of : TableId → TurnBoardState F
  board_of z = record { table = z; start = start_of origin }

  -- a seat that has every share is the only one that has called, and the machine is at home
  pub closes : (z z' : TableId) (id : ℕ) (v : V) (ws : List ℕ) (xs : List (Option M)) → v.share ≡ all_shares → v.stage ≡ Idle → Final (Seen (TurnRule number state origin) id v) ws xs → (m : M) × (get_elem? xs 0 ≡ some (Some m)) × Closes number (board_of z) (seat_of z' v) (state m)
  closes z z' id v ws xs all idle f =
      let s = f.0 in let h = f.1.0 in let at = f.1.1 in
      let t = h.standing.ticket in let k = h.standing.serving in let log = h.standing.longest in let r = h.facts in let q = h.faults in let d = h.risks in
      let views = s.views in
      let mine = r.seats id v at in
      let others : (j : ℕ) (u : V) → j ≢ id → get_elem? views j ≡ some u → u.share ≡ 0 = λ j u ne e. let a = total_two share_of views id j v u ne at e in let b = r.shares in omega arith in
      let only : (g : V → ℕ) → ((u : V) → u.stage ≡ Idle → u.calls ≡ [] → g u ≡ 0) → total g views ≡ g v = λ g z. total_only g views id v at (λ j u ne e. let f = (r.seats j u e).spent (others j u ne e) in z u f.0 f.1) in
      let none_past : total turn_of views ≡ 0 = only turn_of (λ u i e. ap has_turn i) ∙ ap has_turn idle in
      let empty : (x : ℕ) → total (in_flight x) views ≡ 0 = λ x. only (in_flight x) (λ u i e. idles x u i) ∙ idles x v idle in
      let end : t ≡ k = dite (dec_le t k) (λ (l : t ≤ k). let a = r.order.0 in omega arith)
      (λ (g : t ≤ k → ⊥). absurd (let a = empty k in let b = r.flights k in let c = not_below k k (omega arith) in let d = below_here k t (lt_of_not-le g) in omega arith)) in
      let calls : (x : ℕ) → times x v.calls + below x (origin.next) ≡ below x k =
      λ x. let a = only (count_of_call x) (λ u i e. ap (times x) e) in let b = r.calls x in omega arith in
      let since : origin.next ≤ k = dite (dec_le (origin.next) k) (λ (l : origin.next ≤ k). l)
      (λ (g : origin.next ≤ k → ⊥). absurd (let a = calls k in let c = not_below k k (omega arith) in let d = below_here k (origin.next) (lt_of_not-le g) in omega arith)) in
      ⊎_elim
      (λ (hm : AtHome state origin k log s.homes views).
      let l = r.longest in
      let mine_is_longest : v.seen ≡ log = dite (ℕ_discrete l.0 id)
      (λ (e : l.0 ≡ id). ap (λ (u : V). u.seen) (sym (some-injective l.1 v (sym l.2 ∙ ap (get_elem? views) e ∙ at))) ∙ l.3)
      (λ (ne : l.0 ≢ id). absurd (let a = others l.0 l.1 ne l.2 in let b = l.4 in omega arith)) in (
        hm.0,
        f.4 0 (Some hm.0) (ap (λ hs. get_elem? hs 0) hm.1),
        record {
          end = k;
          calls = calls;
          order = (since, (let a = r.order in omega arith));
          exhausted = λ x. sym end ∙ mine.note x;
          history = hm.3.history ∙ sym mine_is_longest;
          fixed = hm.3.fixed;
          next = hm.3.next;
          rose = let a = q.rose in let d = q.home hm.0 hm.1 in let b = only risen_of (λ u i e. ap (sum_by rise_of) e) in omega arith;
          faults = every_more (IsKnown q.found q.left k) (λ (c : Call E). (origin.faults ≤ c.found) × (c.found ≤ c.left) × (c.left ≤ (state hm.0).faults)) (λ c g. let a = q.each c.number g.0 in let d = q.home hm.0 hm.1 in let x = g.1 in let y = g.2 in (omega arith, omega arith, omega arith)) v.calls (q.calls id v at);
          at_risk = if_some (IsAtRisk number origin d.left k (state hm.0).history) (IsPutAtRisk number v.calls (state hm.0).history) (λ e known. record {
            by = called (number e) v.calls (let a = calls (number e) in let b = not_below (number e) origin.next known.from in let c = below_here (number e) k known.ended in omega arith);
            stays = every_more (IsLeft d.left k) (λ (c : Call E). number e ≤ c.number → c.at_risk ≡ Some e) (λ c left l. left.1 ∙ known.stays c.number l left.0) v.calls (d.calls id v at);
            since = known.since;
          }) (state hm.0).at_risk (d.home hm.0 hm.1);
        },
      ))
      (λ (out : IsOut s.homes views). absurd (let a = out.1 in omega arith)) r.slot

  -- the same, by the value that was in the slot
  pub closes_with : (z z' : TableId) (id : ℕ) (v : V) (ws : List ℕ) (xs : List (Option M)) (slot : Option M) → v.share ≡ all_shares → v.stage ≡ Idle → Final (Seen (TurnRule number state origin) id v) ws xs → get_elem? xs 0 ≡ some slot
      → (m : M) × (slot ≡ Some m) × Closes number (board_of z) (seat_of z' v) (state m)
  closes_with z z' id v ws xs slot all idle f at = let c = closes z z' id v ws xs all idle f in (c.0, some-injective slot (Some c.0) (sym at ∙ c.1), c.2)

  pub closes_as : (z z' : TableId) (id : ℕ) (v : V) (ws : List ℕ) (xs : List (Option M)) (slot : Option M) (m : M) (board : TurnBoardState F) (seat : SeatState E F) → board_of z ≡ board → seat_of z' v ≡ seat
      → v.share ≡ all_shares → v.stage ≡ Idle → Final (Seen (TurnRule number state origin) id v) ws xs → get_elem? xs 0 ≡ some slot → slot ≡ Some m → Closes number board seat (state m)
  closes_as z z' id v ws xs slot m board seat board_is seat_is all idle f at is = let c = closes_with z z' id v ws xs slot all idle f at in
      let here : Closes number (board_of z) (seat_of z' v) (state m) = subst (λ (y : M). Closes number (board_of z) (seat_of z' v) (state y)) (same_inside c.0 m c.1 is) c.2 in
      subst (λ (x : SeatState E F). Closes number board x (state m)) seat_is (subst (λ (y : TurnBoardState F). Closes number y (seat_of z' v) (state m)) board_is here)
