-- The counts of faults through each step.
use Rattle.std.proofs.Common.{◌≡◌, ◌≢◌, ℕ, ◌+◌, ◌<◌, ◌≤◌, ◌==◌, true, false, cond, List, [], ◌∷◌, ◌++◌, set, Option, Some, sym, ap, ◌∙◌, subst, ⊎_elim, arith}
use mathlib.Core.Logic.{dite}
use mathlib.Core.Option.{some, none, some-injective, some-ne-none}
use mathlib.Core.Option as maybe
use native.Mathlib.Decide.{ℕ_discrete}
use lib.ListN.{get_elem?}
use Rattle.std.specs.List.{sum_by}
use Rattle.std.proofs.lemmas.Bool.Decides.{nat_tests}
use Rattle.std.proofs.lemmas.List.Sums.{sum_by-append, sum_by_push}
use Rattle.atomic_table.proofs.Lists.{at_set, at_snoc, set_else}
use Rattle.apron_base.specs.Histories.{Every}
use Rattle.turn_board.specs.declared.view.Call.{Call}
use Rattle.turn_board.specs.declared.view.View.{View}
use Rattle.apron_base.specs.Machine.{MachineState}
use Rattle.turn_board.specs.Rule.{AreFaults}
use Rattle.turn_board.specs.Totals.{rise_of}
use Rattle.turn_board.specs.Views.{has_acted, has_turn, risen_of}
use Rattle.turn_board.specs.Plays.{DoNotOverlap}
use Rattle.turn_board.proofs.Totals.{every_append, every_more, total_set, total_snoc}

-- f, but y at k
abbrev pub at_else : {A : Type 0} → (ℕ → A) → ℕ → A → ℕ → A
at_else f k y x = cond (x == k) y (f x)

pub below_else : {A : Type 0} (f : ℕ → A) (k : ℕ) (y : A) (x : ℕ) → x < k → at_else f k y x ≡ f x
below_else f k y x h = let b : (x == k) ≡ false = grind (arith, nat_tests) in ap (λ z. cond z y (f x)) b

pub here_else : {A : Type 0} (f : ℕ → A) (k : ℕ) (y : A) → at_else f k y k ≡ y
here_else f k y = let b : (k == k) ≡ true = grind (arith, nat_tests) in ap (λ z. cond z y (f k)) b

-- what is known of an ended call
abbrev pub IsKnown : {E : Type 0} → (ℕ → ℕ) → (ℕ → ℕ) → ℕ → Call E → Type 0
IsKnown found left k c = (c.number < k) × (c.found ≡ found c.number) × (c.left ≡ left c.number)

module _ {M E F : Type 0} (state : M → MachineState E F) (origin : MachineState E F) where
  abbrev V : Type 0
  V = View E F

  abbrev Homes : Type 0
  Homes = List (maybe.Option (Option M))

  -- a step after which the seat id has the view w, with the calls that it had
  pub kept : (k : ℕ) (homes homes' : Homes) (views : List V) (f : AreFaults state origin k homes views) (id : ℕ) (v w : V) → get_elem? views id ≡ some v → w.calls ≡ v.calls
      → (0 < has_turn w.stage → w.found ≡ f.top) × (0 < has_acted w.stage → w.found ≤ w.left) → ((m : M) → homes' ≡ some (Some m) ∷ [] → (state m).faults ≡ f.top)
      → AreFaults state origin k homes' (set views id w)
  kept k homes homes' views f id v w at same turn home = let known = subst (Every (IsKnown f.found f.left k)) (sym same) (f.calls id v at) in record {
    found = f.found;
    left = f.left;
    top = f.top;
    rose = let a = f.rose in let b = total_set risen_of views id v w at in let c : risen_of w ≡ risen_of v = ap (sum_by rise_of) same in omega arith;
    each = f.each;
    order = f.order;
    calls = λ j u e. ⊎_elim (λ (h : (j ≡ id) × (w ≡ u)). subst (λ (z : V). Every (IsKnown f.found f.left k) z.calls) h.1 known)
        (λ (h : (j ≢ id) × (get_elem? views j ≡ some u)). f.calls j u h.1) (at_set views id j w u e);
    turn = λ j u e. ⊎_elim (λ (h : (j ≡ id) × (w ≡ u)). subst (λ (z : V). (0 < has_turn z.stage → z.found ≡ f.top) × (0 < has_acted z.stage → z.found ≤ z.left)) h.1 turn)
        (λ (h : (j ≢ id) × (get_elem? views j ≡ some u)). f.turn j u h.1) (at_set views id j w u e);
    home = home;
  }

  -- the seat's call ends, with the number k
  pub ended_call : (k : ℕ) (homes homes' : Homes) (views : List V) (f : AreFaults state origin k homes views) (id : ℕ) (v w : V) → get_elem? views id ≡ some v → v.number ≡ k → has_acted v.stage ≡ 1 → has_turn v.stage ≡ 1
      → w.calls ≡ v.calls ++ record { number = v.number; found = v.found; left = v.left; at_risk = v.at_risk } ∷ [] → has_turn w.stage ≡ 0 → has_acted w.stage ≡ 0
      → ((j : ℕ) (u : V) → j ≢ id → get_elem? views j ≡ some u → has_turn u.stage ≡ 0)
      → ((m : M) → homes' ≡ some (Some m) ∷ [] → (state m).faults ≡ v.left) → AreFaults state origin (k + 1) homes' (set views id w)
  ended_call k homes homes' views f id v w at is is_done went calls_are idle undone others home =
      let found' = at_else f.found k v.found in
      let left' = at_else f.left k v.left in
      let turn = f.turn id v at in
      let low : v.found ≡ f.top = turn.0 (omega arith) in
      let rise : risen_of w ≡ risen_of v + rise_of (record { number = v.number; found = v.found; left = v.left; at_risk = v.at_risk }) = ap (sum_by rise_of) calls_are ∙ sum_by_push rise_of v.calls (record { number = v.number; found = v.found; left = v.left; at_risk = v.at_risk }) in
      let least : origin.faults ≤ f.top = let a = f.rose in omega arith in
      let high : v.found ≤ v.left = turn.1 (omega arith) in
      let move : (c : Call E) → IsKnown f.found f.left k c → IsKnown found' left' (k + 1) c =
      λ c h. ((let a = h.0 in omega arith), h.1 ∙ sym (below_else f.found k v.found c.number h.0), h.2 ∙ sym (below_else f.left k v.left c.number h.0)) in
      let new : IsKnown found' left' (k + 1) (record { number = v.number; found = v.found; left = v.left; at_risk = v.at_risk }) =
      ((omega arith), sym (ap found' is ∙ here_else f.found k v.found), sym (ap left' is ∙ here_else f.left k v.left)) in
      record {
        found = found';
        left = left';
        top = v.left;
        rose = let a = f.rose in let b = total_set risen_of views id v w at in omega arith;
        each = λ x l. dite (ℕ_discrete x k)
            (λ (e : x ≡ k). let a : found' x ≡ v.found = ap found' e ∙ here_else f.found k v.found in let b : left' x ≡ v.left = ap left' e ∙ here_else f.left k v.left in (omega arith, omega arith, omega arith))
            (λ (ne : x ≢ k). let less : x < k = omega arith in let a = below_else f.found k v.found x less in let b = below_else f.left k v.left x less in let c = f.each x less in (omega arith, omega arith, omega arith));
        order = λ x y l m. let less : x < k = omega arith in let a = below_else f.left k v.left x less in let c = f.each x less in dite (ℕ_discrete y k)
            (λ (e : y ≡ k). let b : found' y ≡ v.found = ap found' e ∙ here_else f.found k v.found in omega arith)
            (λ (ne : y ≢ k). let less' : y < k = omega arith in let b = below_else f.found k v.found y less' in let d = f.order x y l less' in omega arith);
        calls = λ j u e. ⊎_elim
            (λ (h : (j ≡ id) × (w ≡ u)). subst (λ (z : V). Every (IsKnown found' left' (k + 1)) z.calls) h.1 (subst (Every (IsKnown found' left' (k + 1))) (sym calls_are)
            (every_append (IsKnown found' left' (k + 1)) v.calls (record { number = v.number; found = v.found; left = v.left; at_risk = v.at_risk } ∷ []) (every_more (IsKnown f.found f.left k) (IsKnown found' left' (k + 1)) move v.calls (f.calls id v at)) (new, tt))))
            (λ (h : (j ≢ id) × (get_elem? views j ≡ some u)). every_more (IsKnown f.found f.left k) (IsKnown found' left' (k + 1)) move u.calls (f.calls j u h.1)) (at_set views id j w u e);
        turn = λ j u e. ⊎_elim
            (λ (h : (j ≡ id) × (w ≡ u)). subst (λ (z : V). (0 < has_turn z.stage → z.found ≡ v.left) × (0 < has_acted z.stage → z.found ≤ z.left)) h.1 ((λ p. absurd (omega arith)), (λ p. absurd (omega arith))))
            (λ (h : (j ≢ id) × (get_elem? views j ≡ some u)). ((λ p. absurd (let a = others j u h.0 h.1 in omega arith)), (f.turn j u h.1).1)) (at_set views id j w u e);
        home = home;
      }

  -- a new seat at the end, without calls
  pub with_new : (k : ℕ) (homes : Homes) (views : List V) → AreFaults state origin k homes views → (u : V) → u.calls ≡ [] → has_turn u.stage ≡ 0 → has_acted u.stage ≡ 0
      → AreFaults state origin k homes (views ++ u ∷ [])
  with_new k homes views f u none_called idle undone = record {
    found = f.found;
    left = f.left;
    top = f.top;
    rose = let a = f.rose in let b = total_snoc risen_of views u in let c : risen_of u ≡ 0 = ap (sum_by rise_of) none_called in omega arith;
    each = f.each;
    order = f.order;
    calls = λ j z e. ⊎_elim (λ (was : get_elem? views j ≡ some z). f.calls j z was) (λ (new : u ≡ z). subst (λ (y : V). Every (IsKnown f.found f.left k) y.calls) new (subst (Every (IsKnown f.found f.left k)) (sym none_called) tt)) (at_snoc views u z j e);
    turn = λ j z e. ⊎_elim (λ (was : get_elem? views j ≡ some z). f.turn j z was)
        (λ (new : u ≡ z). subst (λ (y : V). (0 < has_turn y.stage → y.found ≡ f.top) × (0 < has_acted y.stage → y.found ≤ y.left)) new ((λ p. absurd (omega arith)), (λ p. absurd (omega arith)))) (at_snoc views u z j e);
    home = f.home;
  }

  -- a seat takes in the calls of another, and neither has its turn
  pub joined : (k : ℕ) (homes : Homes) (views : List V) → AreFaults state origin k homes views → (id other : ℕ) (v u w spent : V) → other ≢ id → get_elem? views id ≡ some v → get_elem? views other ≡ some u
      → w.calls ≡ v.calls ++ u.calls → spent.calls ≡ [] → (has_turn w.stage ≡ 0) × (has_acted w.stage ≡ 0) → (has_turn spent.stage ≡ 0) × (has_acted spent.stage ≡ 0)
      → AreFaults state origin k homes (set (set views id w) other spent)
  joined k homes views f id other v u w spent apart at there calls_are none_called idle done =
      let idles : (z : V) → (has_turn z.stage ≡ 0) × (has_acted z.stage ≡ 0) → (0 < has_turn z.stage → z.found ≡ f.top) × (0 < has_acted z.stage → z.found ≤ z.left) =
      λ z no. ((λ p. absurd (let a = no.0 in omega arith)), (λ p. absurd (let a = no.1 in omega arith))) in
      record {
        found = f.found;
        left = f.left;
        top = f.top;
        rose = let a = f.rose in let b = total_set risen_of views id v w at in let c = total_set risen_of (set views id w) other u spent (set_else views id other w apart ∙ there) in
            let d : risen_of w ≡ risen_of v + risen_of u = ap (sum_by rise_of) calls_are ∙ sum_by-append rise_of v.calls u.calls in let e : risen_of spent ≡ 0 = ap (sum_by rise_of) none_called in omega arith;
        each = f.each;
        order = f.order;
        calls = λ j z e. ⊎_elim (λ (h : (j ≡ other) × (spent ≡ z)). subst (λ (y : V). Every (IsKnown f.found f.left k) y.calls) h.1 (subst (Every (IsKnown f.found f.left k)) (sym none_called) tt))
            (λ (h : (j ≢ other) × (get_elem? (set views id w) j ≡ some z)). ⊎_elim
            (λ (g : (j ≡ id) × (w ≡ z)). subst (λ (y : V). Every (IsKnown f.found f.left k) y.calls) g.1 (subst (Every (IsKnown f.found f.left k)) (sym calls_are)
            (every_append (IsKnown f.found f.left k) v.calls u.calls (f.calls id v at) (f.calls other u there))))
            (λ (g : (j ≢ id) × (get_elem? views j ≡ some z)). f.calls j z g.1) (at_set views id j w z h.1)) (at_set (set views id w) other j spent z e);
        turn = λ j z e. ⊎_elim (λ (h : (j ≡ other) × (spent ≡ z)). idles z (subst (λ (y : V). (has_turn y.stage ≡ 0) × (has_acted y.stage ≡ 0)) h.1 done))
            (λ (h : (j ≢ other) × (get_elem? (set views id w) j ≡ some z)). ⊎_elim
            (λ (g : (j ≡ id) × (w ≡ z)). idles z (subst (λ (y : V). (has_turn y.stage ≡ 0) × (has_acted y.stage ≡ 0)) g.1 idle))
            (λ (g : (j ≢ id) × (get_elem? views j ≡ some z)). f.turn j z g.1) (at_set views id j w z h.1)) (at_set (set views id w) other j spent z e);
        home = f.home;
      }

  -- what the counts of one seat's calls say about one another
  pub apart : (k : ℕ) (homes : Homes) (views : List V) → AreFaults state origin k homes views → (id : ℕ) (v : V) → get_elem? views id ≡ some v → DoNotOverlap v.calls
  apart k homes views f id v at = let all = f.calls id v at in every_more (IsKnown f.found f.left k) (λ (c : Call E). Every (λ (d : Call E). c.number < d.number → c.left ≤ d.found) v.calls)
      (λ c h. every_more (IsKnown f.found f.left k) (λ (d : Call E). c.number < d.number → c.left ≤ d.found) (λ d g l. let a = f.order c.number d.number l g.0 in let b = h.2 in let e = g.1 in omega arith) v.calls all) v.calls all
