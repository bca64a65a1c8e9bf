use Rattle.std.proofs.Common.{◌≡◌, ap, subst, sym}
use Rattle.plan_core.specs.Drafts.{AreIndexed, DraftsHeld}
use Rattle.plan_core.proofs.DraftList.{indexed_push}
use Rattle.plan_core.proofs.drafts.Drafts.push.Goals as goal

pub invariant_of-self : goal.invariant_of-self
invariant_of-self c =
    let kept : c.self.inside.kept.items ≡ c.args.self.now.kept = ap (λ (held : DraftsHeld). held.kept) c.self.view_is in
    subst (AreIndexed c.self.inside.versions c.self.inside.indexed) (sym c.push_reserved.ensures.items)
    (indexed_push c.self.inside.versions c.self.inside.indexed c.self.inside.kept.items (record { id = c.args.id.now; version = c.args.version })
    c.self.invariant (rw kept c.requires.new))
