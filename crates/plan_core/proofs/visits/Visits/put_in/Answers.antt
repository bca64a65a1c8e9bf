use Rattle.std.proofs.Common.{◌≡◌, ◌<◌, ◌≤◌, ◌+◌, ◌∙◌, ◌∷◌, ℕ, Bool, true, false, List, ap, arith, cond, drop, length, nat_le, refl, slice_index_or, subst, sym}
use Rattle.std.specs.Prelude.{count_by}
use Rattle.std.proofs.lemmas.Bool.Decides.{nat_tests}
use Rattle.std.proofs.lemmas.List.{drop_more}
use Rattle.std.proofs.lemmas.List.Sums.{sum_by-cons}
use Rattle.visit_book.specs.declared.visits.Visit.{Visit}
use Rattle.plan_core.specs.PlanState.{is_above, put_in}
use Rattle.plan_core.proofs.Puts.{CanPut, first_number, put_next}
use Rattle.plan_core.proofs.visits.Visits.put_in.Goals as goal

-- what is left is the next one and the rest
left : (changed : List Visit) (i : ℕ) (v : Visit) → i < length changed → v ≡ slice_index_or changed i v → drop i changed ≡ v ∷ drop (i + 1) changed
left changed i v within is = drop_more changed i v within ∙ ap (λ (w : Visit). w ∷ drop (i + 1) changed) (sym is)

counted : (count : ℕ) (v : Visit) (rest : List Visit) → count_by (is_above count) (v ∷ rest) ≡ cond (is_above count v) 1 0 + count_by (is_above count) rest
counted count v rest = sum_by-cons (λ (w : Visit). cond (is_above count w) 1 0) v rest

-- there is room for the rest
room_left : (count size : ℕ) (v : Visit) (rest : List Visit) (old new : ℕ) → count ≤ size → count_by (is_above count) (v ∷ rest) ≤ old
    → (v.number.0 ≤ size → old ≤ new) → old ≤ new + 1 → count_by (is_above count) rest ≤ new
room_left count size v rest old new le fits there next =
    test (nat_le v.number.0 size) refl (is_above count v) refl (subst (λ n. n ≤ old) (counted count v rest) fits)
  where
    test : (within : Bool) → nat_le v.number.0 size ≡ within → (above : Bool) → is_above count v ≡ above
        → cond (is_above count v) 1 0 + count_by (is_above count) rest ≤ old → count_by (is_above count) rest ≤ new
    test true here above is fits = let kept : old ≤ new = there (grind (arith, nat_tests)) in omega (arith, fits, kept)
    test false here true is fits = let all : 1 + count_by (is_above count) rest ≤ old = rw is at fits in omega (arith, all, next)
    test false here false is fits = absurd (grind (arith, nat_tests))

pub put_visit-requires-clause-number : goal.put_visit-requires-clause-number
put_visit-requires-clause-number c =
    first_number (length c.args.self.now.kept) c.loop-visit.self.kept c.visit-item.result (drop (c.loop-visit.visit-index + 1) c.args.changed.now)
    (subst (CanPut (length c.args.self.now.kept) c.loop-visit.self.kept)
    (left c.args.changed.now c.loop-visit.visit-index c.visit-item.result c.loop-visit-test.true c.visit-item.is) c.loop-visit.invariant.can)

pub loop-visit-preserved : goal.loop-visit-preserved
loop-visit-preserved c =
    let rest : List Visit = drop (c.loop-visit.visit-index + 1) c.args.changed.now in
    let next = left c.args.changed.now c.loop-visit.visit-index c.visit-item.result c.loop-visit-test.true c.visit-item.is in
    let can : CanPut (length c.args.self.now.kept) c.loop-visit.self.kept (c.visit-item.result ∷ rest) =
    subst (CanPut (length c.args.self.now.kept) c.loop-visit.self.kept) next c.loop-visit.invariant.can in
    record {
      told = ap (λ (visits : List Visit). put_in visits rest) c.put_visit.ensures.kept ∙ (ap (put_in c.loop-visit.self.kept) (sym next) ∙ c.loop-visit.invariant.told);
      can = subst (λ (visits : List Visit). CanPut (length c.args.self.now.kept) visits rest) (sym c.put_visit.ensures.kept)
          (put_next (length c.args.self.now.kept) c.loop-visit.self.kept c.visit-item.result rest can);
      room = room_left (length c.args.self.now.kept) (length c.loop-visit.self.kept) c.visit-item.result rest c.loop-visit.self.room c.put_visit.new.self.room can.size
          (subst (λ (visits : List Visit). count_by (is_above (length c.args.self.now.kept)) visits ≤ c.loop-visit.self.room) next c.loop-visit.invariant.room)
          c.put_visit.ensures.room c.put_visit.ensures.left;
    }
