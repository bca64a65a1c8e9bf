use Rattle.std.proofs.Common.{◌≡◌, ◌-◌, ◌∙◌, List, Option, ap, length, map, subst, sym}
use Rattle.visit_book.specs.declared.visits.Key.{Key}
use Rattle.visit_book.specs.declared.visits.NewVisit.{NewVisit}
use Rattle.visit_book.specs.declared.visits.Visit.{Visit}
use Rattle.visit_book.specs.Numbers.{IsNumbered}
use Rattle.plan_core.specs.FlightPlaces.{KeepsKey, put_key}
use Rattle.plan_core.specs.PlanState.{KeepsOrAdds}
use Rattle.plan_core.specs.Visits.{AreNamed, IsThereOrNext, VisitsHeld, arrival_of, departure_of}
use Rattle.plan_core.proofs.Listed.{key_kept, listed_put}
use Rattle.plan_core.proofs.visits.Visits.put_visit.Goals as goal

-- what is required of the visits holds of those inside
number_in : (visits held : List Visit) (v : Visit) → visits ≡ held → IsThereOrNext (length held) v → IsThereOrNext (length visits) v
number_in visits held v kept h = subst (λ (vs : List Visit). IsThereOrNext (length vs) v) (sym kept) h

same_in : (visits held : List Visit) (v : Visit) → visits ≡ held → KeepsOrAdds held v → KeepsOrAdds visits v
same_in visits held v kept h = subst (λ (vs : List Visit). KeepsOrAdds vs v) (sym kept) h

pub put-requires-clause-same : goal.put-requires-clause-same
put-requires-clause-same c =
    let kept : c.self.inside.kept.items ≡ c.args.self.now.kept = ap (λ (held : VisitsHeld). held.kept) c.self.view_is in
    subst (λ (keys : List (Option Key)). KeepsKey keys (c.args.visit.now.number.0 - 1) c.arrival_of.result) c.self.invariant.arriving
    (subst (KeepsKey (map arrival_of c.self.inside.kept.items) (c.args.visit.now.number.0 - 1)) (sym c.arrival_of.ensures.is)
    (key_kept (λ (new : NewVisit). new.arr) c.self.inside.kept.items c.args.visit.now c.self.invariant.numbered
    (number_in c.self.inside.kept.items c.args.self.now.kept c.args.visit.now kept c.requires.number)
    (same_in c.self.inside.kept.items c.args.self.now.kept c.args.visit.now kept c.requires.same)))

pub put-requires-2-clause-same : goal.put-requires-2-clause-same
put-requires-2-clause-same c =
    let kept : c.self.inside.kept.items ≡ c.args.self.now.kept = ap (λ (held : VisitsHeld). held.kept) c.self.view_is in
    subst (λ (keys : List (Option Key)). KeepsKey keys (c.args.visit.now.number.0 - 1) c.departure_of.result) c.self.invariant.departing
    (subst (KeepsKey (map departure_of c.self.inside.kept.items) (c.args.visit.now.number.0 - 1)) (sym c.departure_of.ensures.is)
    (key_kept (λ (new : NewVisit). new.dep) c.self.inside.kept.items c.args.visit.now c.self.invariant.numbered
    (number_in c.self.inside.kept.items c.args.self.now.kept c.args.visit.now kept c.requires.number)
    (same_in c.self.inside.kept.items c.args.self.now.kept c.args.visit.now kept c.requires.same)))

pub invariant_of-self : goal.invariant_of-self
invariant_of-self c =
    let kept : c.self.inside.kept.items ≡ c.args.self.now.kept = ap (λ (held : VisitsHeld). held.kept) c.self.view_is in
    let listed = listed_put c.self.inside.places c.self.inside.named c.self.inside.arrivals.keys c.self.inside.departures.keys c.self.inside.kept.items
    c.args.visit.now c.self.invariant (number_in c.self.inside.kept.items c.args.self.now.kept c.args.visit.now kept c.requires.number)
    (same_in c.self.inside.kept.items c.args.self.now.kept c.args.visit.now kept c.requires.same) in
    record {
      numbered = subst IsNumbered (sym c.put_one.ensures.items) listed.numbered;
      names = subst (AreNamed c.self.inside.places c.self.inside.named) (sym c.put_one.ensures.items) listed.names;
      arriving = ap (map arrival_of) c.put_one.ensures.items ∙ (listed.arriving
          ∙ (ap (put_key c.self.inside.arrivals.keys (c.args.visit.now.number.0 - 1)) (sym c.arrival_of.ensures.is) ∙ sym c.put.ensures.keys));
      departing = ap (map departure_of) c.put_one.ensures.items ∙ (listed.departing
          ∙ (ap (put_key c.self.inside.departures.keys (c.args.visit.now.number.0 - 1)) (sym c.departure_of.ensures.is) ∙ sym c.put-2.ensures.keys));
    }
