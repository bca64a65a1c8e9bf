-- What the head in the window shows of the front of the whole buffer.
use Rattle.std.proofs.Common.{◌≡◌, ℕ, ◌-◌, ◌+◌, ◌≤◌, ◌<◌, List, ◌++◌, Result, Ok, Err, length, take, drop, sym, ap, ◌∙◌, subst, arith, inr}
use Rattle.std.proofs.lemmas.List.{take-append-drop, take_all, length-take, length-take-le, drop-drop, length-drop}
use Rattle.httparse.specs.Grammar.{RequestHead}
use Rattle.httparse.specs.Spans.{IsRequestAt, IsRequestWithin}
use Rattle.httparse.specs.declared.spans.HeaderSpan.{HeaderSpan}
use Rattle.httparse.specs.declared.spans.RequestSpans.{RequestSpans}
use Rattle.http_framing.specs.Bodies.{length_by_fields}
use Rattle.http_framing.specs.Fields.{pairs}
use Rattle.http_framing.specs.Fronts.{ArePartsOf, IsFront, IsHeadFront}
use Rattle.http_framing.specs.Heads.{HasHead, max_head}
use Rattle.http_framing.specs.Requests.{IsPartial, IsMalformed}
use Rattle.http_framing.specs.declared.bodies.RequestRefusal.{RequestRefusal}
use Rattle.http_framing.specs.declared.front.Front.TheVariants.{Whole}
use Rattle.http_framing.specs.declared.front.RequestParts.{RequestParts}
use Rattle.http_framing.specs.declared.heads.HeadFront as head
use Rattle.http_framing.proofs.HeadLaws.{HasHead-window}

-- a head at the front of a buffer, at spans of its window, and what its fields say of the body
pub record IsHeadAt (bytes window : List ℕ) (fields : List HeaderSpan) (spans : RequestSpans) (says : Result ℕ RequestRefusal) (h : RequestHead) : Type 0 where
  pub head : HasHead bytes h (drop spans.len bytes)
  pub at : IsRequestAt window fields spans h
  pub framed_as : length_by_fields h.method (pairs h) ≡ says

pub IsHeadAt-window : (bytes window : List ℕ) (fields : List HeaderSpan) (spans : RequestSpans) (says : Result ℕ RequestRefusal) → window ≡ take max_head bytes
    → IsHeadFront window fields (head.TheVariants.Whole spans)
    → ((h : RequestHead) → IsRequestAt window fields spans h → says ≡ length_by_fields h.method (pairs h))
    → (h : RequestHead) × IsHeadAt bytes window fields spans says h
IsHeadAt-window bytes window fields spans says e front says_framed =
    let fits : spans.len ≤ length (take max_head bytes) = subst (λ w. spans.len ≤ length w) e front.0.section.len_fits in
    let at_window = subst (λ w. HasHead w front.1 (drop spans.len w)) e front.2 in (
      front.1,
      record {
        head = HasHead-window max_head bytes front.1 spans.len fits at_window;
        at = front.3;
        framed_as = sym (says_framed front.1 front.3);
      },
    )

pub len_fits : (bytes window : List ℕ) (fields : List HeaderSpan) (spans : RequestSpans) → window ≡ take max_head bytes → IsRequestWithin window fields spans → spans.len ≤ length bytes
len_fits bytes window fields spans e within =
    let fits = within.section.len_fits in omega (arith, ap length e, length-take max_head bytes)

-- a part from a place up to the end is all that comes after the place
pub part_behind : (bytes : List ℕ) (at : ℕ) → take (length bytes - at) (drop at bytes) ≡ drop at bytes
part_behind bytes at = take_all (length bytes - at) (drop at bytes) (omega (arith, length-drop at bytes))

-- the body is there
pub IsFront-whole : (bytes window behind : List ℕ) (fields : List HeaderSpan) (spans : RequestSpans) (body : ℕ) (parts : RequestParts)
    → window ≡ take max_head bytes → behind ≡ drop spans.len bytes
    → IsHeadFront window fields (head.TheVariants.Whole spans)
    → ((h : RequestHead) → IsRequestAt window fields spans h → Ok body ≡ length_by_fields h.method (pairs h))
    → body ≤ length behind
    → ((h : RequestHead) → IsRequestAt window fields spans h → ArePartsOf (record { head = h; body = take body behind }) parts)
    → IsFront bytes (Whole parts)
IsFront-whole bytes window behind fields spans body parts e b front says fits are =
    let found = IsHeadAt-window bytes window fields spans (Ok body) e front says in
    let head_fits : spans.len ≤ length bytes = len_fits bytes window fields spans e front.0 in
    let size : length behind ≡ length bytes - spans.len = ap length b ∙ length-drop spans.len bytes in
    let body_long : length (take body behind) ≡ body = length-take-le body behind fits in
    let shown : ArePartsOf (record { head = found.0; body = take body behind }) parts = are found.0 found.1.at in
    let whole = shown.whole in
    let head_long = found.1.at.len in
    let long : parts.length ≡ spans.len + body = omega arith in
    let rest : drop parts.length bytes ≡ drop body behind = ap (λ n. drop n bytes) long ∙ (sym (drop-drop body spans.len bytes) ∙ ap (drop body) (sym b)) in (
      record { head = found.0; body = take body behind },
      record {
        first = record {
          head = subst (HasHead bytes found.0) (sym b ∙ (sym (take-append-drop body behind) ∙ ap (λ t. take body behind ++ t) (sym rest))) found.1.head;
          body = rw body_long found.1.framed_as;
        };
        fits = omega arith;
        parts_are = shown;
      },
    )

-- the body is cut
pub IsPartial-body : (bytes window behind : List ℕ) (fields : List HeaderSpan) (spans : RequestSpans) (body : ℕ)
    → window ≡ take max_head bytes → behind ≡ drop spans.len bytes
    → IsHeadFront window fields (head.TheVariants.Whole spans)
    → ((h : RequestHead) → IsRequestAt window fields spans h → Ok body ≡ length_by_fields h.method (pairs h))
    → length behind < body
    → IsPartial bytes
IsPartial-body bytes window behind fields spans body e b front says over =
    let found = IsHeadAt-window bytes window fields spans (Ok body) e front says in
    inr (found.0, behind, body, record { head = subst (HasHead bytes found.0) (sym b) found.1.head; framed_as = found.1.framed_as; cut = over })

-- the fields are refused
pub IsMalformed-fields : (bytes window : List ℕ) (fields : List HeaderSpan) (spans : RequestSpans) (why : RequestRefusal) → window ≡ take max_head bytes
    → IsHeadFront window fields (head.TheVariants.Whole spans)
    → ((h : RequestHead) → IsRequestAt window fields spans h → Err why ≡ length_by_fields h.method (pairs h))
    → IsMalformed bytes why
IsMalformed-fields bytes window fields spans why e front says =
    let found = IsHeadAt-window bytes window fields spans (Err why) e front says in
    inr (found.0, drop spans.len bytes, record { head = found.1.head; framed_as = found.1.framed_as })
