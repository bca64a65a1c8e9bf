-- Splitting and joining seats keeps the rule.
use Rattle.std.proofs.Common.{◌≡◌, ◌≢◌, ◌⊎◌, ℕ, ◌+◌, ◌^◌, ◌<◌, ◌≤◌, ◌==◌, Bool, true, false, cond, ◌||◌, List, [], ◌∷◌, ◌++◌, length, set, Option, sym, refl, ap, ◌∙◌, subst, inl, inr, ⊎_elim, arith, length-append, lt_of_not-le}
use Rattle.std.specs.Prelude.{nat_lt}
use mathlib.Core.Logic.{dite}
use mathlib.Core.Option.{some, none, some-injective, some-ne-none}
use mathlib.Core.Option as maybe
use native.Mathlib.Decide.{ℕ_discrete, dec_le}
use lib.ListN.{get_elem?}
use Rattle.std.proofs.lemmas.Bool.Decides.{nat_tests}
use Rattle.std.proofs.lemmas.List.{append-nil}
use Rattle.atomic_table.specs.Table.{Splits, Joins}
use Rattle.atomic_table.proofs.Lists.{at_set, set_else, at_snoc, at_longer}
use Rattle.apron_base.specs.Histories.{Every, Rises}
use Rattle.turn_board.specs.declared.view.Call.{Call}
use Rattle.turn_board.specs.declared.view.Stage.{Stage}
use Rattle.turn_board.specs.declared.view.Stage.TheVariants.{Idle}
use Rattle.turn_board.specs.declared.view.View.{View}
use Rattle.atomic_table.specs.Seated.{TableId}
use Rattle.apron_base.specs.Machine.{MachineState}
use Rattle.turn_board.specs.Board.{Meets, SeatState, seat_of}
use Rattle.turn_board.specs.Plays.{DoNotOverlap}
use Rattle.turn_board.specs.Rule.{AtHome, Extends, HoldsForSeat, IsOut, TurnRule}
use Rattle.turn_board.specs.Totals.{times, total}
use Rattle.turn_board.specs.Views.{acted_count, after_look, both, count_of_call, has_acted, has_turn, in_flight, is_flying, less_one, longer, may_owe, owes_of, share_of, shorter, spent_view, split_off, turn_of}
use Rattle.turn_board.proofs.Faults.{joined, kept, with_new}
use Rattle.turn_board.proofs.Risks.{IsLeft, keeps_risks, new_at_risk}
use Rattle.turn_board.proofs.Totals.{times_append, total_set, total_snoc, set_at, every_append, every_more, every_rest, later_rest}

module _ {M E F : Type 0} (number : E → ℕ) (state : M → MachineState E F) (origin : MachineState E F) where
  abbrev V : Type 0
  V = View E F

  abbrev S : Type 0
  S = Option M

  abbrev Homes : Type 0
  Homes = List (maybe.Option S)

  -- an idle seat is in no total except those of its calls and its share
  idle_in : (x : ℕ) (v : V) → v.stage ≡ Idle → v.owes ≤ may_owe v.stage → (in_flight x v ≡ 0) × (turn_of v ≡ 0) × (acted_count v ≡ 0) × (owes_of v ≡ 0)
  idle_in x v is few = let a : in_flight x v ≡ cond (x == v.number) 0 0 = ap (λ (z : Stage). cond (x == v.number) (is_flying z) 0) is in let d : has_acted v.stage ≡ 0 = ap has_acted is in let n : may_owe v.stage ≡ 0 = ap may_owe is in
      ((grind (arith, nat_tests)), ap has_turn is, d, omega arith)

  pub splits : (id : ℕ) (v : V) → 2 ≤ v.share → Splits (TurnRule number state origin) id v (less_one v) (split_off v)
  splits id v room s h at =
      let t = h.standing.ticket in let k = h.standing.serving in let n = h.standing.count in let log = h.standing.longest in let r = h.facts in let q = h.faults in let d = h.risks in
      let views = s.views in
      let mine = r.seats id v at in
      let w = less_one v in
      let u = split_off v in
      let more : (f : V → ℕ) → total f (set views id w ++ u ∷ []) + f v ≡ total f views + f w + f u =
      λ (f : V → ℕ). let a = total_set f views id v w at in let b = total_snoc f (set views id w) u in omega arith in
      let past_same : total turn_of (set views id w ++ u ∷ []) ≡ total turn_of views = let a = more turn_of in omega arith in
      let done_same : total acted_count views ≡ total acted_count (set views id w ++ u ∷ []) = let a = more acted_count in omega arith in record {
        standing = h.standing;
        words = h.words;
        facts = record {
          order = r.order;
          flights = λ x. let a = more (in_flight x) in let b = r.flights x in let c : in_flight x u ≡ 0 = (idle_in x u refl (omega arith)).0 in omega arith;
          calls = λ x. let a = more (count_of_call x) in let b = r.calls x in omega arith;
          counted = let a = more owes_of in let b = r.counted in omega arith;
          rises = subst (λ (z : ℕ). Rises number 1 (k + z) log) done_same r.rises;
          shares = let a = more share_of in let b = r.shares in omega arith;
          slot = ⊎_elim (λ (m : AtHome state origin k log s.homes views). inl (m.0, m.1, past_same ∙ m.2, m.3)) (λ (m : IsOut s.homes views). inr (m.0, past_same ∙ m.1)) r.slot;
          seats = λ j z e. ⊎_elim
              (λ (was : get_elem? (set views id w) j ≡ some z). ⊎_elim
              (λ (me : (j ≡ id) × (w ≡ z)). subst (HoldsForSeat number origin t k log) me.1 (record {
                start = λ g. mine.start (omega arith);
                seen = mine.seen;
                told = mine.told;
                late = mine.late;
                calls = mine.calls;
                turn = mine.turn;
                owes = mine.owes;
                own = mine.own;
                note = mine.note;
                spent = λ g. absurd (omega arith);
              }))
              (λ (other : (j ≢ id) × (get_elem? views j ≡ some z)). r.seats j z other.1)
              (at_set views id j w z was))
              (λ (new : u ≡ z). subst (HoldsForSeat number origin t k log) new (record {
                start = λ g. mine.start (omega arith);
                seen = record { rest = mine.seen.rest; is = mine.seen.is; later = tt };
                told = record { rest = log; is = refl; later = tt };
                late = tt;
                calls = tt;
                turn = λ g. absurd (omega arith);
                owes = omega arith;
                own = λ z. absurd (omega arith);
                note = λ g. absurd (cc);
                spent = λ _. (refl, refl);
              }))
              (at_snoc (set views id w) u z j e);
          longest = let l = r.longest in dite (ℕ_discrete l.0 id)
              (λ (e : l.0 ≡ id). let is : l.1 ≡ v = some-injective l.1 v (sym l.2 ∙ ap (get_elem? views) e ∙ at) in
              (id, w, at_longer (set views id w) (u ∷ []) id w (set_at views id v w at), ap (λ (y : V). y.seen) (sym is) ∙ l.3, omega arith))
              (λ (e : l.0 ≢ id). (l.0, l.1, at_longer (set views id w) (u ∷ []) l.0 l.1 (set_else views id l.0 w e ∙ l.2), l.3, l.4));
        };
        faults = with_new state origin k s.homes (set views id w) (kept state origin k s.homes s.homes views q id v w at refl (q.turn id v at) q.home)
            u refl refl refl;
        risks = new_at_risk number state origin k s.homes (set views id w) (keeps_risks number state origin k s.homes s.homes views d id w (d.calls id v at) (d.turn id v at) d.home) u refl refl;
      }

  pub longer_is : (P : List E → Type 0) (xs ys : List E) → (length xs < length ys → P ys) → (length ys ≤ length xs → P xs) → P (longer xs ys)
  longer_is P xs ys f g = dite (dec_le (length ys) (length xs))
      (λ (h : length ys ≤ length xs). let b : nat_lt (length xs) (length ys) ≡ false = grind (arith, nat_tests) in subst (λ z. P (cond z ys xs)) (sym b) (g h))
      (λ (h : length ys ≤ length xs → ⊥). let l : length xs < length ys = lt_of_not-le h in let b : nat_lt (length xs) (length ys) ≡ true = grind (arith, nat_tests) in subst (λ z. P (cond z ys xs)) (sym b) (f l))

  prefix_whole : (log xs ys : List E) → log ≡ xs ++ ys → length log ≤ length xs → xs ≡ log
  prefix_whole log xs [] is few = sym (is ∙ append-nil xs)
  prefix_whole log xs (y ∷ ys) is few = absurd (let a : length log ≡ length xs + length (y ∷ ys) = ap length is ∙ length-append xs (y ∷ ys) in omega arith)

  short : (log xs ys : List E) → log ≡ xs ++ ys → length xs ≤ length log
  short log xs ys is = let a : length log ≡ length xs + length ys = ap length is ∙ length-append xs ys in omega arith

  -- the calls of a seat whose history goes on come before what the longer history leaves
  shorter_rest : (log xs ys : List E) (ended : List (Call E)) (b : Extends number log xs ended) (rest : List E) → log ≡ ys ++ rest → length xs ≤ length ys → Every (λ (c : Call E). Every (λ e. c.number < number e) rest) ended
  shorter_rest log xs ys ended b rest is h = let l = later_rest xs ys b.rest rest (sym b.is ∙ is) h in
      every_more (λ (c : Call E). Every (λ e. c.number < number e) b.rest) (λ (c : Call E). Every (λ e. c.number < number e) rest)
      (λ c all. every_rest (λ e. c.number < number e) l.0 rest (subst (Every (λ e. c.number < number e)) l.2 all)) ended b.later

  before_both : (log xs ys : List E) (cs ds : List (Call E)) → Extends number log xs cs → Extends number log ys ds → Extends number log (longer xs ys) (cs ++ ds)
  before_both log xs ys cs ds b c = longer_is (λ zs. Extends number log zs (cs ++ ds)) xs ys
      (λ h. record { rest = c.rest; is = c.is; later = every_append (λ (k : Call E). Every (λ e. k.number < number e) c.rest) cs ds (shorter_rest log xs ys cs b c.rest c.is (omega arith)) c.later })
      (λ h. record { rest = b.rest; is = b.is; later = every_append (λ (k : Call E). Every (λ e. k.number < number e) b.rest) cs ds b.later (shorter_rest log ys xs ds c b.rest b.is h) })

  longest_left : (log xs ys : List E) (cs ds : List (Call E)) → Extends number log xs cs → Extends number log ys ds → xs ≡ log → longer xs ys ≡ log
  longest_left log xs ys cs ds b c is = let a : length xs ≡ length log = ap length is in longer_is (λ zs. zs ≡ log) xs ys (λ h. absurd (let d = short log ys c.rest c.is in omega arith)) (λ h. is)

  longest_right : (log xs ys : List E) (cs ds : List (Call E)) → Extends number log xs cs → Extends number log ys ds → ys ≡ log → longer xs ys ≡ log
  longest_right log xs ys cs ds b c is = let a : length ys ≡ length log = ap length is in longer_is (λ zs. zs ≡ log) xs ys (λ h. is) (λ h. prefix_whole log xs b.rest b.is (omega arith))

  told_both : (log xs ys : List E) (cs ds : List (Call E)) → Extends number log xs cs → Extends number log ys ds → Extends number log (shorter xs ys) (cond (nat_lt (length xs) (length ys)) cs ds)
  told_both log xs ys cs ds a b = elim (nat_lt (length xs) (length ys)) as (λ z. Extends number log (cond z xs ys) (cond z cs ds)) [ true ↦ a | false ↦ b ]

  late_both : (k : ℕ) (b : Bool) (cs ds : List (Call E)) → Every (λ (c : Call E). c.number < k) cs → Every (λ (c : Call E). c.number < k) ds → Every (λ (c : Call E). c.number < k) (cond b cs ds)
  late_both k true cs ds a b = a
  late_both k false cs ds a b = b

  either_true : (a b : Bool) (P : Type 0) → (a || b) ≡ true → (a ≡ true → P) → (b ≡ true → P) → P
  either_true true b P is f g = f refl
  either_true false b P is f g = g is

  pub joins : (id : ℕ) (v : V) (other : ℕ) (u : V) → v.stage ≡ Idle → u.stage ≡ Idle → 0 < v.share → Joins (TurnRule number state origin) id v other u (both v u) spent_view
  joins id v other u idle idle' live s h at apart there' =
      let t = h.standing.ticket in let k = h.standing.serving in let n = h.standing.count in let log = h.standing.longest in let r = h.facts in let q = h.faults in let d = h.risks in
      let views = s.views in
      let w = both v u in
      let sp : V = spent_view in
      let there : get_elem? views other ≡ some u = sym (set_else views id other w apart) ∙ there' in
      let mine = r.seats id v at in
      let theirs = r.seats other u there in
      let after = set (set views id w) other sp in
      let all : (f : V → ℕ) → total f after + f u + f v ≡ total f views + f w + f sp =
      λ (f : V → ℕ). let a = total_set f views id v w at in let b = total_set f (set views id w) other u sp there' in omega arith in
      let no_v = λ (x : ℕ). idle_in x v idle mine.owes in
      let no_u = λ (x : ℕ). idle_in x u idle' theirs.owes in
      let no_w = λ (x : ℕ). idle_in x w idle mine.owes in
      let past_same : total turn_of after ≡ total turn_of views = let a = all turn_of in let b = (no_v 0).1 in let c = (no_u 0).1 in omega arith in
      let done_same : total acted_count views ≡ total acted_count after = let a = all acted_count in let b = (no_v 0).2 in let c = (no_u 0).2 in omega arith in
      let last = before_both log v.seen u.seen v.calls u.calls mine.seen theirs.seen in record {
        standing = h.standing;
        words = h.words;
        facts = record {
          order = r.order;
          flights = λ x. let a = all (in_flight x) in let b = r.flights x in let c = (no_v x).0 in let d = (no_u x).0 in let e = (no_w x).0 in let f = (idle_in x sp refl (omega arith)).0 in omega arith;
          calls = λ x. let a = all (count_of_call x) in let b = r.calls x in let c = times_append x v.calls u.calls in omega arith;
          counted = let a = all owes_of in let b = r.counted in let c = (no_u 0).3 in omega arith;
          rises = subst (λ (z : ℕ). Rises number 1 (k + z) log) done_same r.rises;
          shares = let a = all share_of in let b = r.shares in omega arith;
          slot = ⊎_elim (λ (m : AtHome state origin k log s.homes views). inl (m.0, m.1, past_same ∙ m.2, m.3)) (λ (m : IsOut s.homes views). inr (m.0, past_same ∙ m.1)) r.slot;
          seats = λ j z e. ⊎_elim
              (λ (gone : (j ≡ other) × (sp ≡ z)). subst (HoldsForSeat number origin t k log) gone.1 (record {
                start = λ g. absurd (omega arith);
                seen = record { rest = log; is = refl; later = tt };
                told = record { rest = log; is = refl; later = tt };
                late = tt;
                calls = tt;
                turn = λ g. absurd (omega arith);
                owes = omega arith;
                own = λ z. absurd (omega arith);
                note = λ g. absurd (cc);
                spent = λ _. (refl, refl);
              }))
              (λ (was : (j ≢ other) × (get_elem? (set views id w) j ≡ some z)). ⊎_elim
              (λ (me : (j ≡ id) × (w ≡ z)). subst (HoldsForSeat number origin t k log) me.1 (record {
                start = λ _. mine.start live;
                seen = last;
                told = told_both log v.seen u.seen v.calls u.calls mine.seen theirs.seen;
                late = late_both k (nat_lt (length v.seen) (length u.seen)) v.calls u.calls mine.calls theirs.calls;
                calls = every_append (λ (c : Call E). c.number < k) v.calls u.calls mine.calls theirs.calls;
                turn = λ g. absurd (let a : has_turn v.stage ≡ 0 = ap has_turn idle in omega arith);
                owes = mine.owes;
                own = λ z. absurd (let a = mine.owes in let b : may_owe v.stage ≡ 0 = ap may_owe idle in omega arith);
                note = λ g. either_true v.exhausted u.exhausted (t ≡ 2 ^ 62) g mine.note theirs.note;
                spent = λ g. absurd (omega arith);
              }))
              (λ (them : (j ≢ id) × (get_elem? views j ≡ some z)). r.seats j z them.1)
              (at_set views id j w z was.1))
              (at_set (set views id w) other j sp z e);
          longest = let l = r.longest in
              let mine_at : get_elem? after id ≡ some w = set_else (set views id w) other id sp (λ e. apart (sym e)) ∙ set_at views id v w at in
              dite (ℕ_discrete l.0 id)
              (λ (e : l.0 ≡ id). let is : l.1 ≡ v = some-injective l.1 v (sym l.2 ∙ ap (get_elem? views) e ∙ at) in
              (id, w, mine_at, longest_left log v.seen u.seen v.calls u.calls mine.seen theirs.seen (ap (λ (y : V). y.seen) (sym is) ∙ l.3), omega arith))
              (λ (ne : l.0 ≢ id). dite (ℕ_discrete l.0 other)
              (λ (e : l.0 ≡ other). let is : l.1 ≡ u = some-injective l.1 u (sym l.2 ∙ ap (get_elem? views) e ∙ there) in
              (id, w, mine_at, longest_right log v.seen u.seen v.calls u.calls mine.seen theirs.seen (ap (λ (y : V). y.seen) (sym is) ∙ l.3), omega arith))
              (λ (ne' : l.0 ≢ other). (l.0, l.1, set_else (set views id w) other l.0 sp ne' ∙ (set_else views id l.0 w ne ∙ l.2), l.3, l.4)));
        };
        faults = (let no : has_turn v.stage ≡ 0 = ap has_turn idle in let undone : has_acted v.stage ≡ 0 = ap has_acted idle in
            joined state origin k s.homes views q id other v u w sp apart at there refl refl (no, undone) (refl, refl));
        risks = (let no : has_turn v.stage ≡ 0 = ap has_turn idle in
            let joined = keeps_risks number state origin k s.homes s.homes views d id w (every_append (IsLeft d.left k) v.calls u.calls (d.calls id v at) (d.calls other u there)) (λ p. absurd (omega arith)) d.home in
            keeps_risks number state origin k s.homes s.homes (set views id w) joined other sp tt (λ p. absurd (omega arith)) joined.home);
      }

  -- what the look after a join shows: both histories begin the longer one, each before its own
  -- calls
  pub met : (v u : V) (met : V) → met ≡ both v u → (length met.told ≤ length met.seen → Extends number met.seen met.told met.late) → Extends number met.seen v.seen v.calls × Extends number met.seen u.seen u.calls
  met v u w is h = let known = subst (λ (z : V). length z.told ≤ length z.seen → Extends number z.seen z.told z.late) is h in
      subst (λ (z : V). Extends number z.seen v.seen v.calls × Extends number z.seen u.seen u.calls) (sym is) (cases (nat_lt (length v.seen) (length u.seen)) refl known)
    where
      itself : (xs : List E) (cs : List (Call E)) → Extends number xs xs cs
      itself xs cs = record { rest = []; is = sym (append-nil xs); later = every_more (λ (c : Call E). Unit {0}) (λ (c : Call E). Every (λ e. c.number < number e) []) (λ c _. tt) cs (all_units cs) }
        where
          all_units : (cs : List (Call E)) → Every (λ (c : Call E). Unit {0}) cs
          all_units [] = tt
          all_units (c ∷ cs) = (tt, all_units cs)

      cases : (b : Bool) → nat_lt (length v.seen) (length u.seen) ≡ b
          → (length (cond b v.seen u.seen) ≤ length (cond b u.seen v.seen) → Extends number (cond b u.seen v.seen) (cond b v.seen u.seen) (cond b v.calls u.calls))
          → Extends number (cond b u.seen v.seen) v.seen v.calls × Extends number (cond b u.seen v.seen) u.seen u.calls
      cases true e f = (f (let l : length v.seen < length u.seen = grind (arith, nat_tests) in omega arith), itself u.seen u.calls)
      cases false e f = (itself v.seen v.calls, f (let l : length u.seen ≤ length v.seen = grind (arith, nat_tests) in l))

  pub meets : (before other : SeatState E F) (z z' z'' : TableId) (v u j w : V) → seat_of z v ≡ before → seat_of z' u ≡ other → j ≡ both v u → w ≡ after_look j
      → (length j.told ≤ length j.seen → Extends number j.seen j.told j.late) → ((x : ℕ) → times x j.calls ≤ 1) → DoNotOverlap j.calls → Meets number before other (seat_of z'' w)
  meets before other z z' z'' v u j w before_is other_is j_is w_is told once apart =
      let m = met v u j j_is told in
      let whole : w ≡ after_look (both v u) = w_is ∙ ap (λ (y : V). after_look y) j_is in
      let at : Meets number (seat_of z v) (seat_of z' u) (seat_of z'' (after_look (both v u))) = record {
        one = longer_is (λ (xs : List E). (xs ≡ v.seen) ⊎ (xs ≡ u.seen)) v.seen u.seen (λ _. inr refl) (λ _. inl refl);
        mine = subst (λ (y : V). Extends number y.seen v.seen v.calls) j_is m.0;
        theirs = subst (λ (y : V). Extends number y.seen u.seen u.calls) j_is m.1;
        calls = refl;
        once = subst (λ (y : V). (x : ℕ) → times x y.calls ≤ 1) j_is once;
        faults = subst (λ (y : V). DoNotOverlap y.calls) j_is apart;
        note = refl;
        share = refl;
      } in
      subst (λ (y : V). Meets number before other (seat_of z'' y)) (sym whole)
      (subst (λ (y : SeatState E F). Meets number y other (seat_of z'' (after_look (both v u)))) before_is (subst (λ (y : SeatState E F). Meets number (seat_of z v) y (seat_of z'' (after_look (both v u)))) other_is at))
