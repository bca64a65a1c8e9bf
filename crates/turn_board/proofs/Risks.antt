-- What is at risk through each step.
use Rattle.std.proofs.Common.{◌≡◌, ◌≢◌, ◌⊎◌, ℕ, ◌+◌, ◌<◌, ◌≤◌, true, List, [], ◌∷◌, ◌++◌, set, Option, None, Some, IfSome, sym, refl, ap, ◌∙◌, subst, inl, ⊎_elim, arith}
use mathlib.Core.Logic.{dite}
use mathlib.Core.Option.{some, none}
use mathlib.Core.Option as maybe
use native.Mathlib.Decide.{ℕ_discrete}
use lib.ListN.{get_elem?}
use Rattle.atomic_table.proofs.Lists.{at_set, at_snoc}
use Rattle.apron_base.specs.Histories.{Every, Rises}
use Rattle.apron_base.specs.Machine.{MachineState}
use Rattle.turn_board.specs.declared.view.Call.{Call}
use Rattle.turn_board.specs.declared.view.View.{View}
use Rattle.turn_board.specs.Rule.{AreRisks, IsAtRisk, IsNewAtRisk}
use Rattle.turn_board.specs.Turns.{HasLeftAtRisk}
use Rattle.turn_board.specs.Views.{has_turn}
use Rattle.turn_board.proofs.Faults.{at_else, below_else, here_else}
use Rattle.turn_board.proofs.Totals.{every_append, every_more}

-- what an ended call left at risk is known
abbrev pub IsLeft : {E : Type 0} → (ℕ → Option E) → ℕ → Call E → Type 0
IsLeft left k c = (c.number < k) × (c.at_risk ≡ left c.number)

-- what holds of an option's value, if it has one, by another fact of that value
pub if_some : {X : Type 0} (P Q : X → Type 0) → ((x : X) → P x → Q x) → (o : Option X) → IfSome o P → IfSome o Q
if_some P Q f None h = tt
if_some P Q f (Some x) h = f x h

module _ {M E F : Type 0} (number : E → ℕ) (state : M → MachineState E F) (origin : MachineState E F) where
  abbrev V : Type 0
  V = View E F

  abbrev Homes : Type 0
  Homes = List (maybe.Option (Option M))

  abbrev Knows : (ℕ → Option E) → ℕ → V → Type 0
  Knows left k v = 0 < has_turn v.stage → IfSome v.at_risk (λ e. IsNewAtRisk number v e ⊎ IsAtRisk number origin left k v.seen e)

  -- a step after which the seat id has the view w, with the calls that it had
  pub keeps_risks : (k : ℕ) (homes homes' : Homes) (views : List V) (f : AreRisks number state origin k homes views) (id : ℕ) (w : V) → Every (IsLeft f.left k) w.calls → Knows f.left k w
      → ((m : M) → homes' ≡ some (Some m) ∷ [] → IfSome (state m).at_risk (IsAtRisk number origin f.left k (state m).history)) → AreRisks number state origin k homes' (set views id w)
  keeps_risks k homes homes' views f id w known turn home = record {
    left = f.left;
    calls = λ j u e. ⊎_elim (λ (h : (j ≡ id) × (w ≡ u)). subst (λ (z : V). Every (IsLeft f.left k) z.calls) h.1 known)
        (λ (h : (j ≢ id) × (get_elem? views j ≡ some u)). f.calls j u h.1) (at_set views id j w u e);
    turn = λ j u e. ⊎_elim (λ (h : (j ≡ id) × (w ≡ u)). subst (Knows f.left k) h.1 turn)
        (λ (h : (j ≢ id) × (get_elem? views j ≡ some u)). f.turn j u h.1) (at_set views id j w u e);
    home = home;
  }

  -- nothing changes in it if the slot and the seat's calls, stage, history and risk stay
  pub risks_stay : (k : ℕ) (homes : Homes) (views : List V) (f : AreRisks number state origin k homes views) (id : ℕ) (v w : V) → get_elem? views id ≡ some v → w.calls ≡ v.calls
      → Knows f.left k w → AreRisks number state origin k homes (set views id w)
  risks_stay k homes views f id v w at calls_are turn = keeps_risks k homes homes views f id w (subst (Every (IsLeft f.left k)) (sym calls_are) (f.calls id v at)) turn f.home

  -- what a seat has at risk once the machine acted
  pub noted_risk : (v : V) (m : M) (cs : List (ℕ × Option M)) (left : ℕ → Option E) (k : ℕ) → HasLeftAtRisk number (v, cs) (state m) → Rises number 1 v.number v.seen
      → IfSome v.at_risk (λ e. IsNewAtRisk number v e ⊎ IsAtRisk number origin left k v.seen e)
      → IfSome (state m).at_risk (λ e. ((number e ≡ v.number) × Rises number 1 (number e) (state m).history) ⊎ IsAtRisk number origin left k (state m).history e)
  noted_risk v m cs left k acts rises known = ⊎_elim
      (λ (none : (state m).at_risk ≡ None). subst (λ (r : Option E). IfSome r Now) (sym none) tt)
      (⊎_elim
      (λ (same : ((state m).at_risk ≡ v.at_risk) × ((state m).history ≡ v.seen)). subst (λ (xs : List E). IfSome (state m).at_risk (At xs)) (sym same.1)
      (subst (λ (r : Option E). IfSome r (At v.seen)) (sym same.0) known))
      (λ (new : (true ≡ true) × ((e : E) × ((state m).at_risk ≡ Some e) × ((number e ≡ v.number) × ((state m).history ≡ v.seen)))). subst (λ (r : Option E). IfSome r Now) (sym new.1.1)
      (inl (new.1.2.0, subst (λ (xs : List E). Rises number 1 (number new.1.0) xs) (sym new.1.2.1) (subst (λ (n : ℕ). Rises number 1 n v.seen) (sym new.1.2.0) rises)))))
      acts
    where
      At : List E → E → Type 0
      At xs e = ((number e ≡ v.number) × Rises number 1 (number e) xs) ⊎ IsAtRisk number origin left k xs e

      Now : E → Type 0
      Now = At (state m).history

  -- the seat's call ends, with the number k
  pub ended_risk : (k : ℕ) (homes homes' : Homes) (views : List V) (f : AreRisks number state origin k homes views) (id : ℕ) (v w : V) → get_elem? views id ≡ some v → v.number ≡ k → has_turn v.stage ≡ 1 → origin.next ≤ k
      → w.calls ≡ v.calls ++ record { number = v.number; found = v.found; left = v.left; at_risk = v.at_risk } ∷ [] → has_turn w.stage ≡ 0
      → ((j : ℕ) (u : V) → j ≢ id → get_elem? views j ≡ some u → has_turn u.stage ≡ 0)
      → ((m : M) → homes' ≡ some (Some m) ∷ [] → (v.at_risk ≡ (state m).at_risk) × ((state m).history ≡ v.seen)) → AreRisks number state origin (k + 1) homes' (set views id w)
  ended_risk k homes homes' views f id v w at is went from calls_are idle others home =
      let left' = at_else f.left k v.at_risk in
      let last : Call E = record { number = v.number; found = v.found; left = v.left; at_risk = v.at_risk } in
      let move : (c : Call E) → IsLeft f.left k c → IsLeft left' (k + 1) c = λ c h. ((let a = h.0 in omega arith), h.1 ∙ sym (below_else f.left k v.at_risk c.number h.0)) in
      let new : IsLeft left' (k + 1) last = ((omega arith), sym (ap left' is ∙ here_else f.left k v.at_risk)) in
      record {
        left = left';
        calls = λ j u e. ⊎_elim
            (λ (h : (j ≡ id) × (w ≡ u)). subst (λ (z : V). Every (IsLeft left' (k + 1)) z.calls) h.1 (subst (Every (IsLeft left' (k + 1))) (sym calls_are)
            (every_append (IsLeft left' (k + 1)) v.calls (last ∷ []) (every_more (IsLeft f.left k) (IsLeft left' (k + 1)) move v.calls (f.calls id v at)) (new, tt))))
            (λ (h : (j ≢ id) × (get_elem? views j ≡ some u)). every_more (IsLeft f.left k) (IsLeft left' (k + 1)) move u.calls (f.calls j u h.1)) (at_set views id j w u e);
        turn = λ j u e. ⊎_elim
            (λ (h : (j ≡ id) × (w ≡ u)). subst (Knows left' (k + 1)) h.1 (λ p. absurd (omega arith)))
            (λ (h : (j ≢ id) × (get_elem? views j ≡ some u)) (p : 0 < has_turn u.stage). absurd (let a = others j u h.0 h.1 in omega arith)) (at_set views id j w u e);
        home = λ m e. let h = home m e in subst (λ (xs : List E). IfSome (state m).at_risk (IsAtRisk number origin left' (k + 1) xs)) (sym h.1)
            (subst (λ (r : Option E). IfSome r (IsAtRisk number origin left' (k + 1) v.seen)) h.0 (after v.at_risk refl (f.turn id v at (omega arith))));
      }
    where
      after : (r : Option E) → v.at_risk ≡ r → IfSome r (λ e. IsNewAtRisk number v e ⊎ IsAtRisk number origin f.left k v.seen e)
          → IfSome r (IsAtRisk number origin (at_else f.left k v.at_risk) (k + 1) v.seen)
      after None r_is h = tt
      after (Some e) r_is h =
          let here : at_else f.left k v.at_risk k ≡ Some e = here_else f.left k v.at_risk ∙ r_is in
          let Left : ℕ → Type 0 = λ x. at_else f.left k v.at_risk x ≡ Some e in
          ⊎_elim
          (λ (new : IsNewAtRisk number v e). record {
            from = (let a = new.0 in omega arith);
            ended = (let a = new.0 in omega arith);
            stays = λ x l m. subst Left (let a = new.0 in omega arith) here;
            since = new.1;
          })
          (λ (old : IsAtRisk number origin f.left k v.seen e). record {
            from = old.from;
            ended = (let a = old.ended in omega arith);
            stays = λ x l m. dite (ℕ_discrete x k) (λ (same : x ≡ k). subst Left (sym same) here)
                (λ (ne : x ≢ k). below_else f.left k v.at_risk x (omega arith) ∙ old.stays x l (omega arith));
            since = old.since;
          }) h

  -- a new seat at the end, without calls
  pub new_at_risk : (k : ℕ) (homes : Homes) (views : List V) → AreRisks number state origin k homes views → (u : V) → u.calls ≡ [] → has_turn u.stage ≡ 0 → AreRisks number state origin k homes (views ++ u ∷ [])
  new_at_risk k homes views f u none_called idle = record {
    left = f.left;
    calls = λ j z e. ⊎_elim (λ (was : get_elem? views j ≡ some z). f.calls j z was)
        (λ (new : u ≡ z). subst (λ (y : V). Every (IsLeft f.left k) y.calls) new (subst (Every (IsLeft f.left k)) (sym none_called) tt)) (at_snoc views u z j e);
    turn = λ j z e. ⊎_elim (λ (was : get_elem? views j ≡ some z). f.turn j z was)
        (λ (new : u ≡ z). subst (Knows f.left k) new (λ p. absurd (omega arith))) (at_snoc views u z j e);
    home = f.home;
  }
