use Rattle.std.proofs.Common.{◌≡◌, ◌-◌, ◌∙◌, List, None, Some, ap, drop, length, sym, take}
use Rattle.std.proofs.lemmas.List.{take_rest}
use Rattle.plan_core.specs.declared.drafts.Drafted.{Drafted}
use Rattle.plan_core.specs.Drafts.{DraftsHeld, draft_version}
use Rattle.plan_core.proofs.DraftIndex.{version_first, version_later}
use Rattle.plan_core.proofs.drafts.Drafts.version.Goals as goal

pub returns-in-Some : goal.returns-in-Some
returns-in-Some c =
    let kept : c.self.inside.kept.items ≡ c.args.self.now.kept = ap (λ (held : DraftsHeld). held.kept) c.self.view_is in
    let found : draft_version (take c.self.inside.indexed c.self.inside.kept.items) c.args.desk.now c.args.number ≡ Some c.in-Some.version.now =
    sym (c.self.invariant.index (record { desk = c.args.desk.now; number = c.args.number })) ∙ sym c.in-Some.ensures.value in
    record {
      version = sym (ap (λ (drafts : List Drafted). draft_version drafts c.args.desk.now c.args.number) (sym kept)
          ∙ version_first c.self.inside.kept.items c.self.inside.indexed c.args.desk.now c.args.number c.in-Some.version.now found);
    }

pub returns-in-None : goal.returns-in-None
returns-in-None c =
    let kept : c.self.inside.kept.items ≡ c.args.self.now.kept = ap (λ (held : DraftsHeld). held.kept) c.self.view_is in
    let none : draft_version (take c.self.inside.indexed c.self.inside.kept.items) c.args.desk.now c.args.number ≡ None =
    sym (c.self.invariant.index (record { desk = c.args.desk.now; number = c.args.number })) ∙ sym c.in-None.ensures.value in
    let late : take (length c.deref.result.now - c.self.inside.indexed) (drop c.self.inside.indexed c.deref.result.now) ≡ drop c.self.inside.indexed c.self.inside.kept.items =
    take_rest c.deref.result.now c.self.inside.indexed ∙ ap (drop c.self.inside.indexed) c.deref.ensures.value in
    let later = version_later c.self.inside.kept.items c.self.inside.indexed c.args.desk.now c.args.number none in
    record {
      version = c.version_of.ensures.version ∙ (ap (λ (drafts : List Drafted). draft_version drafts c.args.desk.now c.args.number) late
          ∙ (sym later ∙ ap (λ (drafts : List Drafted). draft_version drafts c.args.desk.now c.args.number) kept));
    }
