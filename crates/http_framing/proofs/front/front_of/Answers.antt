use Rattle.std.proofs.Common.{◌≡◌, List, ℕ, subst, inl, refl, arith}
use Rattle.std.proofs.lemmas.List.{length-take}
use Rattle.http_framing.specs.Heads.{max_head}
use Rattle.http_framing.specs.Fronts.{IsHeadFront}
use Rattle.httparse.specs.declared.spans.HeaderSpan.{HeaderSpan}
use Rattle.http_framing.specs.declared.heads.HeadFront.{HeadFront}
use Rattle.http_framing.specs.declared.heads.HeadFront.TheVariants.{Partial, Bad}
use Rattle.http_framing.proofs.HeadLaws.{IsBadHead-window, IsUnfinished-window}
use Rattle.http_framing.proofs.FrontLaws.{IsFront-whole, IsPartial-body, IsMalformed-fields, len_fits, part_behind}
use Rattle.http_framing.proofs.front.front_of.Goals as goal

pub head_front-requires-clause-window : goal.head_front-requires-clause-window
head_front-requires-clause-window c = rw c.window_of-window.ensures.value (omega (arith, length-take max_head c.args.bytes.now))

-- what was found in the window, by the window's other name
in_window : {w window : List ℕ} (fields : List HeaderSpan) (front : HeadFront) → w ≡ window → IsHeadFront w fields front → IsHeadFront window fields front
in_window fields front e x = subst (λ w. IsHeadFront w fields front) e x

pub slice_bounds-behind-count : goal.slice_bounds-behind-count
slice_bounds-behind-count c = len_fits c.args.bytes.now _ _ c.in-Whole.spans c.window_of-window.ensures.value c.in-Whole.ensures.is.0

pub slice_bounds-behind-start : goal.slice_bounds-behind-start
slice_bounds-behind-start c = len_fits c.args.bytes.now _ _ c.in-Whole.spans c.window_of-window.ensures.value c.in-Whole.ensures.is.0

pub returns-in-Partial : goal.returns-in-Partial
returns-in-Partial c = record { is = inl (IsUnfinished-window c.args.bytes.now (in_window c.head_front.new.fields Partial c.window_of-window.ensures.value c.in-Partial.ensures.is)) }

pub returns-in-Bad : goal.returns-in-Bad
returns-in-Bad c = record { is = inl (refl, IsBadHead-window max_head c.args.bytes.now (in_window c.head_front.new.fields Bad c.window_of-window.ensures.value c.in-Bad.ensures.is)) }

pub returns-in-Err : goal.returns-in-Err
returns-in-Err c = record { is = IsMalformed-fields c.args.bytes.now _ _ c.in-Whole.spans c.in-Err.why c.window_of-window.ensures.value c.in-Whole.ensures.is c.in-Err.ensures.value }

pub returns-then-length-behind : goal.returns-then-length-behind
returns-then-length-behind c = record {
  is = IsFront-whole c.args.bytes.now _ _ _ c.in-Whole.spans c.in-Ok.length c.request_parts.result c.window_of-window.ensures.value
      (part_behind c.args.bytes.now c.in-Whole.spans.len) c.in-Whole.ensures.is c.in-Ok.ensures.value c.if-length-behind.true c.request_parts.ensures.parts;
}

pub returns-else-length-behind : goal.returns-else-length-behind
returns-else-length-behind c = record {
  is = IsPartial-body c.args.bytes.now _ _ _ c.in-Whole.spans c.in-Ok.length c.window_of-window.ensures.value
      (part_behind c.args.bytes.now c.in-Whole.spans.len) c.in-Whole.ensures.is c.in-Ok.ensures.value c.if-length-behind.false;
}
