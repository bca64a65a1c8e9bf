use Rattle.std.proofs.Common.{◌∙◌, sym, refl, Some, None}
use Rattle.apron_rules.specs.Refusals.{bad_half_of, limit_of, bad_fold_of, bad_span_of}
use Rattle.apron_rules.proofs.Reasons.{reason_is}
use Rattle.apron_rules.proofs.checks.later_fault.Goals as goal

pub returns-in-Some : goal.returns-in-Some
returns-in-Some c =
    let a = c.args.parts.now in
    record { is = reason_is a (Some c.in-Some.name) (bad_half_of a) (limit_of a) (bad_span_of a) (bad_fold_of a) (sym c.in-Some.is ∙ c.unknown_name.ensures.is) refl refl refl refl }

pub returns-in-Some-bad_half : goal.returns-in-Some-bad_half
returns-in-Some-bad_half c =
    let a = c.args.parts.now in
    record {
      is = reason_is a None (Some c.in-Some-bad_half.name) (limit_of a) (bad_span_of a) (bad_fold_of a) (sym c.in_default.is ∙ c.unknown_name.ensures.is)
          (sym c.in-Some-bad_half.is ∙ rw c.as_slice.ensures.items at c.bad_half.ensures.is) refl refl refl;
    }

pub returns-in-Some-passed_limit : goal.returns-in-Some-passed_limit
returns-in-Some-passed_limit c =
    let a = c.args.parts.now in
    record {
      is = reason_is a None None (Some c.in-Some-passed_limit.limit) (bad_span_of a) (bad_fold_of a) (sym c.in_default.is ∙ c.unknown_name.ensures.is)
          (sym c.in_default-bad_half.is ∙ rw c.as_slice.ensures.items at c.bad_half.ensures.is) (sym c.in-Some-passed_limit.is ∙ c.passed_limit.ensures.is) refl refl;
    }

pub returns-in-Some-bad_span : goal.returns-in-Some-bad_span
returns-in-Some-bad_span c =
    let a = c.args.parts.now in
    record {
      is = reason_is a None None None (Some c.in-Some-bad_span.name) (bad_fold_of a) (sym c.in_default.is ∙ c.unknown_name.ensures.is)
          (sym c.in_default-bad_half.is ∙ rw c.as_slice.ensures.items at c.bad_half.ensures.is) (sym c.in_default-passed_limit.is ∙ c.passed_limit.ensures.is)
          (sym c.in-Some-bad_span.is ∙ rw c.as_slice-2.ensures.items at c.bad_span.ensures.is) refl;
    }

pub returns-in-Some-bad_fold : goal.returns-in-Some-bad_fold
returns-in-Some-bad_fold c =
    let a = c.args.parts.now in
    record {
      is = reason_is a None None None None (Some c.in-Some-bad_fold.name) (sym c.in_default.is ∙ c.unknown_name.ensures.is)
          (sym c.in_default-bad_half.is ∙ rw c.as_slice.ensures.items at c.bad_half.ensures.is) (sym c.in_default-passed_limit.is ∙ c.passed_limit.ensures.is)
          (sym c.in_default-bad_span.is ∙ rw c.as_slice-2.ensures.items at c.bad_span.ensures.is) (sym c.in-Some-bad_fold.is ∙ rw c.as_slice-3.ensures.items at c.bad_fold.ensures.is);
    }

pub returns-in-None : goal.returns-in-None
returns-in-None c =
    let a = c.args.parts.now in
    record {
      is = reason_is a None None None None None (sym c.in_default.is ∙ c.unknown_name.ensures.is)
          (sym c.in_default-bad_half.is ∙ rw c.as_slice.ensures.items at c.bad_half.ensures.is) (sym c.in_default-passed_limit.is ∙ c.passed_limit.ensures.is)
          (sym c.in_default-bad_span.is ∙ rw c.as_slice-2.ensures.items at c.bad_span.ensures.is) (sym c.in-None.is ∙ rw c.as_slice-3.ensures.items at c.bad_fold.ensures.is);
    }
