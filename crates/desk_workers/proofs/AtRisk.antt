-- The latest entry that the calls of a seat put at risk.
use Rattle.std.proofs.Common.{◌≡◌, ◌⊎◌, ◌∙◌, ◌<◌, ◌≤◌, ◌==◌, nat_lt, ℕ, Bool, true, false, cond, List, [], ◌∷◌, ◌++◌, Option, None, Some, IfSome, refl, sym, ap, subst, inl, inr, ⊎_elim, arith}
use Rattle.std.proofs.lemmas.Bool.Decides.{eqb_tells, leb_tells, nat_tests}
use Rattle.apron_base.specs.Histories.{Every}
use Rattle.desk_asks.specs.declared.asks.Entry.{Entry}
use Rattle.history_core.specs.History.{call_of}
use Rattle.turn_board.specs.declared.view.Call.{Call}
use Rattle.desk_workers.specs.Seats.{later_of, latest_at_risk, put_by}
use Rattle.desk_workers.specs.Together.{HasCallOf, StaysAtRisk}
use Rattle.desk_workers.proofs.Any.{any_cons, any_none}

-- an older entry was not put there by the call
pub put_older : (call : ℕ) (risk : Option Entry) → IfSome risk (λ entry. call_of entry < call) → put_by call risk ≡ None
put_older call None older = refl
put_older call (Some entry) older =
    let other : (call_of entry == call) ≡ false = grind (arith, nat_tests) in ap (λ (own : Bool). cond own (Some entry) None) other

-- one of the call's number was
pub put_own : (call : ℕ) (risk : Option Entry) (entry : Entry) → risk ≡ Some entry → call_of entry ≡ call → put_by call risk ≡ Some entry
put_own call risk entry is number =
    let same : (call_of entry == call) ≡ true = grind (arith, nat_tests) in ap (put_by call) is ∙ ap (λ (own : Bool). cond own (Some entry) None) same

put_cases : (call : ℕ) (risk : Option Entry) → (put_by call risk ≡ None) ⊎ ((entry : Entry) × (risk ≡ Some entry) × (call_of entry ≡ call) × (put_by call risk ≡ Some entry))
put_cases call None = inl refl
put_cases call (Some entry) = ⊎_elim
    (λ own. inr (entry, refl, own.1, ap (λ (b : Bool). cond b (Some entry) None) own.0))
    (λ other. inl (ap (λ (b : Bool). cond b (Some entry) None) other.0))
    (eqb_tells (call_of entry) call)

-- this entry, or one of a lower number, or none
abbrev AtMost : Entry → Option Entry → Type 0
AtMost entry risk = (risk ≡ Some entry) ⊎ IfSome risk (λ other. call_of other < call_of entry)

-- what a call put at risk before the entry's own call, or which left the entry at risk
put_most : (call : ℕ) (risk : Option Entry) (entry : Entry) → (call_of entry ≤ call → risk ≡ Some entry) → AtMost entry (put_by call risk)
put_most call risk entry stays = ⊎_elim
    (λ (none : put_by call risk ≡ None). inr (subst (λ (r : Option Entry). IfSome r (λ other. call_of other < call_of entry)) (sym none) tt))
    (λ put. ⊎_elim
    (λ later. inl (put.3 ∙ (sym put.1 ∙ stays later.1)))
    (λ before. inr (subst (λ (r : Option Entry). IfSome r (λ other. call_of other < call_of entry)) (sym put.3) (let less = before.1 in let number = put.2 in omega arith)))
    (leb_tells (call_of entry) call))
    (put_cases call risk)

later_most : (entry : Entry) (one other : Option Entry) → AtMost entry one → AtMost entry other → AtMost entry (later_of one other)
later_most entry None other a b = b
later_most entry (Some x) None a b = a
later_most entry (Some x) (Some y) a b = either (nat_lt (call_of y) (call_of x))
  where
    either : (first : Bool) → AtMost entry (cond first (Some x) (Some y))
    either true = a
    either false = b

later_first : (entry : Entry) (other : Option Entry) → AtMost entry other → later_of (Some entry) other ≡ Some entry
later_first entry None most = refl
later_first entry (Some y) (inl same) = either (nat_lt (call_of y) (call_of entry))
  where
    either : (first : Bool) → cond first (Some entry) (Some y) ≡ Some entry
    either true = refl
    either false = same
later_first entry (Some y) (inr less) =
    let first : nat_lt (call_of y) (call_of entry) ≡ true = grind (arith, nat_tests) in ap (λ (b : Bool). cond b (Some entry) (Some y)) first

later_second : (entry : Entry) (one : Option Entry) → AtMost entry one → later_of one (Some entry) ≡ Some entry
later_second entry None most = refl
later_second entry (Some x) (inl same) = either (nat_lt (call_of entry) (call_of x))
  where
    either : (first : Bool) → cond first (Some x) (Some entry) ≡ Some entry
    either true = same
    either false = refl
later_second entry (Some x) (inr less) =
    let second : nat_lt (call_of entry) (call_of x) ≡ false = grind (arith, nat_tests) in ap (λ (b : Bool). cond b (Some x) (Some entry)) second

-- one call more that put nothing at risk
pub latest_still : (calls : List (Call Entry)) (last : Call Entry) → put_by last.number last.at_risk ≡ None → latest_at_risk (calls ++ last ∷ []) ≡ latest_at_risk calls
latest_still [] last none = ap (λ (put : Option Entry). later_of put None) none
latest_still (call ∷ calls) last none = ap (later_of (put_by call.number call.at_risk)) (latest_still calls last none)

-- one call more that put an entry at risk, after all others
pub latest_new : (calls : List (Call Entry)) (last : Call Entry) (entry : Entry) → Every (λ (call : Call Entry). call.number < call_of entry) calls
    → put_by last.number last.at_risk ≡ Some entry → latest_at_risk (calls ++ last ∷ []) ≡ Some entry
latest_new [] last entry above put = ap (λ (put : Option Entry). later_of put None) put
latest_new (call ∷ calls) last entry above put =
    ap (later_of (put_by call.number call.at_risk)) (latest_new calls last entry above.1 put)
    ∙ later_second entry (put_by call.number call.at_risk) (put_most call.number call.at_risk entry (λ later. let less = above.0 in absurd (omega arith)))

latest_most : (entry : Entry) (calls : List (Call Entry)) → StaysAtRisk entry calls → AtMost entry (latest_at_risk calls)
latest_most entry [] stays = inr tt
latest_most entry (call ∷ calls) stays =
    later_most entry (put_by call.number call.at_risk) (latest_at_risk calls) (put_most call.number call.at_risk entry stays.0) (latest_most entry calls stays.1)

-- an entry that one of these calls put at risk, and which no later one of them changed, is the
-- latest
pub latest_is : (entry : Entry) (calls : List (Call Entry)) → HasCallOf entry calls → StaysAtRisk entry calls → latest_at_risk calls ≡ Some entry
latest_is entry [] has stays = absurd (any_none (λ (call : Call Entry). call.number ≡ call_of entry) has)
latest_is entry (call ∷ calls) has stays = ⊎_elim
    (λ (here : call.number ≡ call_of entry).
    let put : put_by call.number call.at_risk ≡ Some entry = put_own call.number call.at_risk entry (stays.0 (omega arith)) (sym here) in
    ap (λ (put : Option Entry). later_of put (latest_at_risk calls)) put ∙ later_first entry (latest_at_risk calls) (latest_most entry calls stays.1))
    (λ (there : HasCallOf entry calls).
    ap (later_of (put_by call.number call.at_risk)) (latest_is entry calls there stays.1)
    ∙ later_second entry (put_by call.number call.at_risk) (put_most call.number call.at_risk entry stays.0))
    (any_cons (λ (call : Call Entry). call.number ≡ call_of entry) call calls has)
