use Rattle.std.proofs.Common.{◌∙◌, ◌≤◌, arith, sym, subst}
use Rattle.desk_asks.specs.declared.asks.Command.TheVariants.{Commit}
use Rattle.desk_words.specs.declared.replies.ReplyBody.{ReplyBody}
use Rattle.history_core.specs.Acceptance.{TakesEntry}
use Rattle.history_core.specs.Taking.{ComesTo, IsAnswered}
use Rattle.history_core.proofs.Takings.{committed_finds, refused_answered, repeated_answered}
use Rattle.history_core.proofs.taking.commit.take_commit.Goals as goal

pub returns-in-Some : goal.returns-in-Some
returns-in-Some c =
    let draft = c.args.draft.now in
    record {
      finds = repeated_answered c.args.plan.now.plan c.args.entries draft c.in-Some.entry c.version-version.result
          (omega (arith, c.if-draft-version.false, c.version-version.ensures.value)) (sym c.draft.ensures.version ∙ c.in-Some.is) c.version-version.ensures.value;
    }

pub returns-in_ok-refusal-in-Err : goal.returns-in_ok-refusal-in-Err
returns-in_ok-refusal-in-Err c =
    let plan = c.args.plan.now.plan in
    let draft = c.args.draft.now in
    let told = c.in_ok-refusal-in-Err.ensures.told in
    let over : draft.base ≤ plan.version = omega (arith, c.if-draft-version.false, c.version-version.ensures.value) in
    let answered = refused_answered plan c.args.entries draft c.in-Err.fault c.version-version.result over
    (sym c.draft.ensures.version ∙ c.in_default.is) c.in-Err.ensures.err told.1 c.version-version.ensures.value in
    record {
      finds = subst (λ (t : ReplyBody). IsAnswered plan c.args.entries (Commit draft) (record { version = c.version-version.result; told = t })) (sym told.0) answered;
    }

pub returns-in-Ok-2 : goal.returns-in-Ok-2
returns-in-Ok-2 c =
    let plan = c.args.plan.now.plan in
    let draft = c.args.draft.now in
    let over : draft.base ≤ plan.version = omega (arith, c.if-draft-version.false, c.version-version.ensures.value) in
    let place : TakesEntry c.args.entries = c.takes_entry.ensures.is.0 c.if-not-takes_entry.false in
    record {
      finds = subst (ComesTo plan c.args.entries (Commit draft)) (sym c.taken_commit.ensures.is)
          (committed_finds plan c.args.entries draft c.in-Ok.field-0 c.requires.numbered c.requires.entries over
          (sym c.draft.ensures.version ∙ c.in_default.is) place c.in-Ok.ensures.ok c.in-Ok.ensures.fits);
    }
