use Rattle.std.proofs.Common.{sym}
use Rattle.visit_book.specs.WellFormed.{IsWellFormed}
use Rattle.plan_core.proofs.EditKept.{found_has}
use Rattle.bump_core.proofs.lists.part_called.Goals as goal

pub part_on-requires : goal.part_on-requires
part_on-requires c =
    let plan = c.args.plan.now.plan in
    record {
      valid = rw c.requires.airport
          (found_has (IsWellFormed plan.airport) plan.visits c.args.id.visit c.in_ok-visit.visit.now (λ k d inside. (c.visits-known.ensures.plan.each k d inside).well_formed) (sym c.in_ok-visit.ensures.is));
    }
