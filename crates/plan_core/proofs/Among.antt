-- Edits tried only on the visits that they change.
use Rattle.std.proofs.Common.{◌≡◌, ◌<◌, ◌≤◌, ◌+◌, ◌||◌, ◌∙◌, ℕ, Bool, true, false, List, [], ◌∷◌, refl, arith, sym, ap, Option, None, Some, Result, Ok, Err, ok_or}
use Rattle.std.specs.Option.{unwrap_or}
use Rattle.std.proofs.lemmas.Bool.Decides.{nat_tests}
use Rattle.apron_base.specs.declared.numbers.VisitNo.{VisitNo}
use Rattle.apron_rules.specs.declared.parts.AirportParts.{AirportParts}
use Rattle.visit_book.specs.declared.visits.Visit.{Visit}
use Rattle.visit_book.specs.declared.edits.Edit.{Edit}
use Rattle.visit_book.specs.declared.edits.EditFault.{EditFault}
use Rattle.visit_book.specs.declared.edits.EditFault.TheVariants.{UnknownVisit}
use Rattle.visit_book.specs.Edits.{visit_of}
use Rattle.visit_book.specs.Numbers.{IsNumbered, IsNumberedAbove, has_number, visit_at, with_visit}
use Rattle.apron_base.specs.ResultChain.{◌>>=◌}
use Rattle.plan_core.specs.Edits.{after_all_edits, after_edit, after_edits, edit_visit, edited_visits, is_edited, is_of_visit}
use Rattle.plan_core.specs.Working.{newest, replace_visits}
use Rattle.plan_core.proofs.ByNumber.{found_number, only, only_found, only_with}
use Rattle.plan_core.proofs.Changed.{Follows, edits_follow, follows_numbered}
use Rattle.plan_core.proofs.EditKept.{visit_number}

-- a result, restricted to the visits that the edits change
abbrev among : List Edit → Result (List Visit) EditFault → Result (List Visit) EditFault
among all (Ok visits) = Ok (edited_visits all visits)
among all (Err fault) = Err fault

put_among : (all : List Edit) (visits : List Visit) (r : Result Visit EditFault) → ((v : Visit) → r ≡ Ok v → is_edited all v.number.0 ≡ true)
    → (r >>= λ after. Ok (with_visit (edited_visits all visits) after)) ≡ among all (r >>= λ after. Ok (with_visit visits after))
put_among all visits (Ok v) named = ap (λ vs. Ok vs) (only_with (is_edited all) visits v (named v refl))
put_among all visits (Err fault) named = refl

found_among : (a : AirportParts) (all : List Edit) (base k : ℕ) (edit : Edit) (visits : List Visit) (found : Option Visit)
    → is_edited all (visit_of edit).0 ≡ true → visit_at visits (visit_of edit) ≡ found
    → (ok_or found (UnknownVisit k) >>= λ visit. edit_visit a base k edit visit >>= λ after. Ok (with_visit (edited_visits all visits) after))
    ≡ among all (ok_or found (UnknownVisit k) >>= λ visit. edit_visit a base k edit visit >>= λ after. Ok (with_visit visits after))
found_among a all base k edit visits None named at = refl
found_among a all base k edit visits (Some v) named at =
    put_among all visits (edit_visit a base k edit v)
    (λ w is.
    let same : w.number.0 ≡ (visit_of edit).0 = ap (λ (n : VisitNo). n.0) (visit_number a base k edit v w is) ∙ found_number visits (visit_of edit) v at in
    rw same named)

either_true : (x y : Bool) → x ≡ true → (x || y) ≡ true
either_true true y h = refl
either_true false y h = absurd (cc)

or_true : (x y : Bool) → y ≡ true → (x || y) ≡ true
or_true true y h = refl
or_true false y h = h

-- one edit of a visit that is among them
edit_among : (a : AirportParts) (all : List Edit) (base k : ℕ) (edit : Edit) (visits : List Visit) → ((n : ℕ) → is_of_visit n edit ≡ true → is_edited all n ≡ true)
    → after_edit a base k edit (edited_visits all visits) ≡ among all (after_edit a base k edit visits)
edit_among a all base k edit visits names =
    let named : is_edited all (visit_of edit).0 ≡ true = names (visit_of edit).0 (grind (arith, nat_tests)) in
    rw (only_found (is_edited all) visits (visit_of edit) named) (found_among a all base k edit visits (visit_at visits (visit_of edit)) named refl)

then_among : (a : AirportParts) (all : List Edit) (base k : ℕ) (edits : List Edit) (r : Result (List Visit) EditFault)
    → ((visits : List Visit) → after_edits a base k edits (edited_visits all visits) ≡ among all (after_edits a base k edits visits))
    → (among all r >>= λ after. after_edits a base k edits after) ≡ among all (r >>= λ after. after_edits a base k edits after)
then_among a all base k edits (Ok visits) rest = rest visits
then_among a all base k edits (Err fault) rest = refl

-- edits of visits that are among them
edits_among : (a : AirportParts) (all : List Edit) (base k : ℕ) (edits : List Edit) (visits : List Visit) → ((n : ℕ) → is_edited edits n ≡ true → is_edited all n ≡ true)
    → after_edits a base k edits (edited_visits all visits) ≡ among all (after_edits a base k edits visits)
edits_among a all base k [] visits names = refl
edits_among a all base k (edit ∷ edits) visits names =
    ap (λ r. r >>= λ after. after_edits a base (k + 1) edits after)
    (edit_among a all base k edit visits (λ n h. names n (either_true (is_of_visit n edit) (is_edited edits n) h)))
    ∙ then_among a all base (k + 1) edits (after_edit a base k edit visits)
    (λ now. edits_among a all base (k + 1) edits now (λ n h. names n (or_true (is_of_visit n edit) (is_edited edits n) h)))

among_ok : (all : List Edit) (r : Result (List Visit) EditFault) (named : List Visit) → among all r ≡ Ok named
    → (new : List Visit) × (r ≡ Ok new) × (named ≡ edited_visits all new)
among_ok all (Ok new) named e = (new, refl, cc)
among_ok all (Err fault) named e = absurd (cc)

among_err : (all : List Edit) (r : Result (List Visit) EditFault) (fault : EditFault) → among all r ≡ Err fault → r ≡ Err fault
among_err all (Ok new) fault e = absurd (cc)
among_err all (Err other) fault e = e

-- what the edits make of the visits that they change is what they make of these among all visits
pub edited_among : (a : AirportParts) (base : ℕ) (edits : List Edit) (visits named : List Visit)
    → after_all_edits a base edits (edited_visits edits visits) ≡ Ok named
    → (new : List Visit) × (after_all_edits a base edits visits ≡ Ok new) × (named ≡ edited_visits edits new)
edited_among a base edits visits named e =
    among_ok edits (after_all_edits a base edits visits) named (sym (edits_among a edits base 1 edits visits (λ n h. h)) ∙ e)

-- edits that are refused on the visits that they change are refused for the same cause on all
-- visits
pub refused_among : (a : AirportParts) (base : ℕ) (edits : List Edit) (visits : List Visit) (fault : EditFault)
    → after_all_edits a base edits (edited_visits edits visits) ≡ Err fault → after_all_edits a base edits visits ≡ Err fault
refused_among a base edits visits fault e =
    among_err edits (after_all_edits a base edits visits) fault (sym (edits_among a edits base 1 edits visits (λ n h. h)) ∙ e)

below_first : (e : ℕ → Bool) (n : VisitNo) (v : Visit) (visits : List Visit) (b : Bool) → e v.number.0 ≡ b → n.0 < v.number.0
    → visit_at (only e visits) n ≡ None → visit_at (only e (v ∷ visits)) n ≡ None
below_first e n v visits true is above rest =
    let other : has_number n v ≡ false = grind (arith, nat_tests) in rw (is, other) rest
below_first e n v visits false is above rest = rw is rest

-- no visit that comes later has an earlier number
none_below : (e : ℕ → Bool) (n : ℕ) (visits : List Visit) (m : VisitNo) → IsNumberedAbove n visits → m.0 ≤ n → visit_at (only e visits) m ≡ None
none_below e n [] m h above = refl
none_below e n (v ∷ visits) m h above =
    below_first e m v visits (e v.number.0) refl (omega (arith, h.0)) (none_below e (n + 1) visits m h.1 (omega arith))

newest_first : (e : ℕ → Bool) (n : ℕ) (others : List Visit) (o v : Visit) (news : List Visit) (b : Bool) → e v.number.0 ≡ b
    → o.number.0 ≡ n + 1 → v.number.0 ≡ n + 1 → (e (n + 1) ≡ false → v ≡ o) → IsNumberedAbove (n + 1) news
    → visit_at others o.number ≡ visit_at (only e (v ∷ news)) o.number → newest others o ≡ v
newest_first e n others o v news true is old number same later found =
    let here : has_number o.number v ≡ true = grind (arith, nat_tests) in
    let there : visit_at others o.number ≡ Some v = found ∙ rw (is, here) refl in
    ap (λ (found : Option Visit). unwrap_or found o) there
newest_first e n others o v news false is old number same later found =
    let none : visit_at (only e news) o.number ≡ None = none_below e (n + 1) news o.number later (omega arith) in
    let kept : v ≡ o = same (rw (← number) is) in
    let missing : visit_at others o.number ≡ None = found ∙ rw is none in
    ap (λ (found : Option Visit). unwrap_or found o) missing ∙ sym kept

later_found : (e : ℕ → Bool) (n : ℕ) (v : Visit) (news : List Visit) (m : VisitNo) (b : Bool) → e v.number.0 ≡ b → v.number.0 ≡ n + 1 → n + 1 < m.0
    → visit_at (only e (v ∷ news)) m ≡ visit_at (only e news) m
later_found e n v news m true is number above =
    let other : has_number m v ≡ false = grind (arith, nat_tests) in rw (is, other) refl
later_found e n v news m false is number above = rw is refl

replaced_from : (e : ℕ → Bool) (n : ℕ) (others olds news : List Visit) → IsNumberedAbove n olds → IsNumberedAbove n news → Follows e n olds news
    → ((m : VisitNo) → n < m.0 → visit_at others m ≡ visit_at (only e news) m) → replace_visits olds others ≡ news
replaced_from e n others [] [] numbered now h found = refl
replaced_from e n others (o ∷ olds) (v ∷ news) numbered now h found =
    let first : newest others o ≡ v =
    newest_first e n others o v news (e v.number.0) refl numbered.0 h.0.number h.0.kept now.1 (found o.number (omega (arith, numbered.0))) in
    let rest : replace_visits olds others ≡ news = replaced_from e (n + 1) others olds news numbered.1 now.1 h.1
    (λ m above. found m (omega arith) ∙ later_found e n v news m (e v.number.0) refl h.0.number above) in
    rw (first, rest) refl
replaced_from e n others [] (v ∷ news) numbered now h found = absurd h
replaced_from e n others (o ∷ olds) [] numbered now h found = absurd h

-- the visits with the edited ones in place are the visits after the edits
pub replaced_edited : (a : AirportParts) (base : ℕ) (edits : List Edit) (visits new : List Visit)
    → IsNumbered visits → after_all_edits a base edits visits ≡ Ok new → replace_visits visits (edited_visits edits new) ≡ new
replaced_edited a base edits visits new h e =
    let follows : Follows (is_edited edits) 0 visits new = edits_follow a base 1 edits visits new h e in
    replaced_from (is_edited edits) 0 (edited_visits edits new) visits new h (follows_numbered (is_edited edits) 0 visits new follows) follows (λ m above. refl)
