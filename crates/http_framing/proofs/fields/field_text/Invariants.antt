use Rattle.std.proofs.Common.{◌≡◌, ℕ, List, ◌∷◌, map, drop}
use Rattle.httparse.specs.Spans.{header_bytes}
use Rattle.http_framing.specs.Fields.{values_of}
use Rattle.http_framing.specs.declared.fields.FieldText.{FieldText}
use Rattle.http_framing.specs.declared.fields.FieldText.TheVariants.{Absent, Written, Twice}
use Rattle.http_framing.proofs.fields.field_text.Given as goal

-- the value found so far, and then those of the fields that are left, are all of them
abbrev pub Continues : FieldText → List (List ℕ) → List (List ℕ) → Type 0
Continues Absent left whole = left ≡ whole
Continues (Written v) left whole = v.now ∷ left ≡ whole
Continues Twice left whole = ⊥

abbrev pub invariant-loop-field : goal.invariant-loop-field
invariant-loop-field l =
    Continues l.found (values_of l.name (map (header_bytes l.bytes) (drop l.field-index l.fields)))
    (values_of l.name (map (header_bytes l.bytes) l.fields))
