-- What the steps of a call show together.
use Rattle.std.proofs.Common.{◌≡◌, ℕ, ◌+◌, ◌<◌, ◌≤◌, Bool, true, false, cond, List, [], ◌∷◌, ◌++◌, length, Option, Some, sym, refl, ap, ◌∙◌, subst, inl, inr, ⊎_elim, length-append, arith}
use Rattle.atomic_table.specs.Seated.{TableId}
use Rattle.apron_base.specs.Counts.{Counts}
use Rattle.apron_base.specs.Histories.{Grows}
use Rattle.apron_base.specs.Machine.{Acts, ActsAtRisk, Leaves, MachineState, history_at_risk_of, is_fault}
use Rattle.apron_base.specs.declared.outside.Acted.{Acted}
use Rattle.apron_base.specs.declared.outside.Acted.TheVariants.{Fault, Memory, Reply, Spent}
use Rattle.apron_base.proofs.Rising.{leaves_grown}
use Rattle.turn_board.specs.declared.view.Start.{Start}
use Rattle.turn_board.specs.declared.view.View.{View}
use Rattle.turn_board.specs.Board.{GotTurn, SeatState, seat_of}
use Rattle.turn_board.specs.Plays.{IsMachineTaken, Mine}
use Rattle.turn_board.specs.Totals.{AreBelow}
use Rattle.turn_board.specs.Turns.{HasActed, HasLeftAtRisk, IsOver}
use Rattle.turn_board.specs.Views.{after_act, after_count, after_draw, after_end, after_take, call_end}

-- a count of faults never falls
counts_rise : (failed : Bool) (before now : ℕ) → Counts failed before now → before ≤ now
counts_rise true before now c = c.0
counts_rise false before now c = omega arith

module _ {E : Type 0} (number : E → ℕ) where
  -- the entry that was added is counted once
  pub longer_by : (call : ℕ) (before after : List E) (added : Bool) → Grows number call before after → (added ≡ true → length before < length after) → (added ≡ false → length after ≤ length before)
      → length after ≡ length before + cond added 1 0
  longer_by call before after true grows more few = ⊎_elim (λ (same : after ≡ before). absurd (let a : length after ≡ length before = ap length same in let b = more refl in omega arith))
      (λ (one : (e : E) × (number e ≡ call) × (after ≡ before ++ e ∷ [])). ap length one.2 ∙ length-append before (one.0 ∷ [])) grows
  longer_by call before after false grows more few = ⊎_elim (λ (same : after ≡ before). let a : length after ≡ length before = ap length same in omega arith)
      (λ (one : (e : E) × (number e ≡ call) × (after ≡ before ++ e ∷ [])). absurd (let a : length after ≡ length before + 1 = ap length one.2 ∙ length-append before (one.0 ∷ []) in let b = few refl in omega arith)) grows

module _ {E F : Type 0} (number : E → ℕ) where
  pub not_spent : (before after : MachineState E F) (call : ℕ) (answer : Acted) → Acts number before after call answer → answer ≡ Spent → ⊥
  not_spent before after call answer acts is = subst (λ (a : Acted). Leaves number call a before.history after.history) is acts.history

  pub grown : (before after : MachineState E F) (call : ℕ) (answer : Acted) → Acts number before after call answer → Grows number call before.history after.history
  grown before after call answer acts = leaves_grown number call answer before.history after.history acts.history

  -- if it failed, no entry was added
  still : (before after : MachineState E F) (call : ℕ) (answer : Acted) → Acts number before after call answer → is_fault answer ≡ true → after.history ≡ before.history
  still before after call Fault acts is = acts.history
  still before after call (Reply bytes) acts is = absurd (cc)
  still before after call Memory acts is = absurd (cc)
  still before after call Spent acts is = absurd (cc)

  -- what the act left at risk, as the seat that it acted for knows it
  pub left_at_risk : {M A : Type 0} (adds : A → E → Type 0) (ask : A) (mine : Mine M E F) (before after : MachineState E F) (call : ℕ) (answer : Acted) → Acts number before after call answer
      → ActsAtRisk (λ e. (number e ≡ call) × adds ask e) (is_fault answer) (history_at_risk_of before) (history_at_risk_of after)
      → mine.0.number ≡ call → mine.0.seen ≡ before.history → mine.0.at_risk ≡ before.at_risk → HasLeftAtRisk number mine after
  left_at_risk adds ask mine before after call answer acts risks number_is seen_is risk_is = ⊎_elim inl
      (⊎_elim (λ (same : (after.at_risk ≡ before.at_risk) × (after.history ≡ before.history)). inr (inl (same.0 ∙ sym risk_is, same.1 ∙ sym seen_is)))
      (λ (new : (is_fault answer ≡ true) × ((e : E) × (after.at_risk ≡ Some e) × ((number e ≡ call) × adds ask e))).
      inr (inr (refl, (new.1.0, new.1.1, (new.1.2.0 ∙ sym number_is, still before after call answer acts new.0 ∙ sym seen_is)))))) risks

  pub risen : (before after : MachineState E F) (call : ℕ) (answer : Acted) → Acts number before after call answer → before.faults ≤ after.faults
  risen before after call answer acts = counts_rise (is_fault answer) before.faults after.faults acts.faults

module _ {M E F : Type 0} (state : M → MachineState E F) (number : E → ℕ) where
  -- after the note and the count the call is over
  pub over : (before noted counted' : Mine M E F) (machine : M) (added : Bool) → HasActed number before (state machine) → length (state machine).history ≡ length before.0.seen + cond added 1 0
      → (state machine).next ≡ before.0.number + 1 → (start : Start F) × (before.0.start ≡ Some start) × ((state machine).fixed ≡ start.fixed)
      → noted ≡ (after_act (state machine) before.0, (0, Some machine) ∷ []) → counted' ≡ (cond added (after_count noted.0) noted.0, noted.1) → IsOver state counted' machine
  over before noted counted' machine added has one next start noted_is counted_is = subst (λ (m : Mine M E F). IsOver state m machine) (sym whole) (at added one)
    where
      w : View E F
      w = after_act (state machine) before.0

      whole : counted' ≡ (cond added (after_count w) w, (0, Some machine) ∷ [])
      whole = counted_is ∙ ap (λ (m : Mine M E F). (cond added (after_count m.0) m.0, m.1)) noted_is

      at : (b : Bool) → length (state machine).history ≡ length before.0.seen + cond b 1 0 → IsOver state (cond b (after_count w) w, (0, Some machine) ∷ []) machine
      at true long = record { stage = refl; share = has.share; paid = refl; held = refl; history = refl; next = omega arith; start = start; left = refl; at_risk = refl }
      at false long = record { stage = refl; share = has.share; paid = omega arith; held = refl; history = refl; next = omega arith; start = start; left = refl; at_risk = refl }

  -- the seat with the machine knows the start as before, and the machine has its fixed part
  pub keeps_start : (v p : View E F) (q : Mine M E F) (cs : List (ℕ × Option M)) (n : ℕ) (m : M) (left : MachineState E F) (x : Start F) → v.start ≡ Some x → p ≡ after_draw n v → q ≡ (after_take (state m) p, cs)
      → IsMachineTaken number p n (state m) → left.fixed ≡ (state m).fixed → (y : Start F) × (q.0.start ≡ Some y) × (left.fixed ≡ y.fixed)
  keeps_start v p q cs n m left x has drawn_is turned_is taken fixed =
      let known : p.start ≡ Some x = ap (λ (y : View E F). y.start) drawn_is ∙ has in
      (x, ap (λ (y : Mine M E F). y.0.start) turned_is ∙ known, fixed ∙ (taken.start x known).0)

  module _ {A : Type 0} (adds : A → E → Type 0) (answers : F → List E → ℕ → A → Acted → List E → Type 0) (z z' : TableId) (v : View E F) (before : SeatState E F) (ask : A) (answer : Acted) where
    -- a call that got its turn
    pub got_turn : seat_of z v ≡ before → (n : ℕ) (m m' : M) (p : View E F) (q w : Mine M E F) (cs : List (ℕ × Option M)) → p ≡ after_draw n v → q ≡ (after_take (state m) p, cs)
        → w ≡ (after_end (after_act (state m') q.0), []) → n < call_end → AreBelow n v.calls → v.exhausted ≡ false → IsMachineTaken number p n (state m) → Acts number (state m) (state m') n answer
        → ActsAtRisk (λ e. (number e ≡ n) × adds ask e) (is_fault answer) (history_at_risk_of (state m)) (history_at_risk_of (state m'))
        → answers (state m).fixed (state m).history n ask answer (state m').history → GotTurn state number adds answers before (record { ask = ask; answer = answer }) (seat_of z' w.0)
    got_turn seat_is n m m' p q w cs drawn_is turned_is ended_is small new room taken acts risks meets =
        subst (λ (s : SeatState E F). GotTurn state number adds answers s (record { ask = ask; answer = answer }) (seat_of z' w.0)) seat_is
        (subst (λ (x : View E F). GotTurn state number adds answers (seat_of z v) (record { ask = ask; answer = answer }) (seat_of z' x)) (sym whole) (record {
          found = m;
          left = m';
          ticket = n;
          note = room;
          new = new;
          end = small;
          extends = took.extends;
          rises = took.rises;
          next = took.next;
          start = took.start;
          faults = took.faults;
          older = took.at_risk;
          at_risk = risks;
          acts = acts;
          answered = meets;
          seen = refl;
          calls = refl;
        }))
      where
        whole : w.0 ≡ after_end (after_act (state m') (after_take (state m) (after_draw n v)))
        whole = ap (λ (y : Mine M E F). y.0) ended_is ∙ (ap (λ (y : Mine M E F). after_end (after_act (state m') y.0)) turned_is ∙ ap (λ (x : View E F). after_end (after_act (state m') (after_take (state m) x))) drawn_is)

        took : IsMachineTaken number (after_draw n v) n (state m)
        took = subst (λ (x : View E F). IsMachineTaken number x n (state m)) drawn_is taken
