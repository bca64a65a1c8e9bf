use Rattle.std.proofs.Common.{refl, sym}
use Rattle.bump_core.proofs.Touched.{adds_found, adds_none}
use Rattle.bump_core.proofs.after.add_numbered.Goals as goal

pub returns-in_ok-add_visit_once : goal.returns-in_ok-add_visit_once
returns-in_ok-add_visit_once c = record {
  ok = adds_found c.args.plan.now.plan.visits c.args.some.now.items _ c.args.number c.in-Some.visit.now c.visits-known.ensures.plan.numbered (sym c.in-Some.ensures.is)
      c.in_ok-add_visit_once.ensures.ok;
}

pub returns-in_default : goal.returns-in_default
returns-in_default c = record { ok = adds_none c.args.plan.now.plan.visits c.args.some.now.items _ c.args.number (sym c.in_default.ensures.is) refl }
