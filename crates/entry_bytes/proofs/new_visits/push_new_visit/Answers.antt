use Rattle.std.proofs.Common.{◌≡◌, ℕ, List, ◌++◌, Result, Ok, Err, ap, sym, ◌∙◌, append_assoc}
use Rattle.std.specs.Prelude.{OnOk}
use Rattle.std.specs.Int.{w8, w16, w32, to_le_bytes}
use Rattle.visit_book.specs.declared.visits.NewVisit.{NewVisit}
use Rattle.entry_bytes.specs.Fields.{field_bytes, name_field}
use Rattle.entry_bytes.specs.Keys.{optional_key_fields}
use Rattle.entry_bytes.specs.NewVisits.{new_visit_fields}
use Rattle.entry_bytes.proofs.Spells.{texts, texts-append}
use Rattle.entry_bytes.proofs.new_visits.push_new_visit.Goals as goal

on_ok : {T E P Q : Type 0} (result : Result T E) → (P → Q) → OnOk result P → OnOk result Q
on_ok (Ok x) f h = f h
on_ok (Err e) f h = h

behind : (before after x rest : List ℕ) → after ≡ before ++ x → after ++ rest ≡ before ++ (x ++ rest)
behind before after x rest e = ap (λ (t : List ℕ). t ++ rest) e ∙ append_assoc before x rest

-- what is written one after the other
written : (new : NewVisit) (start named kinded classed begun ended arrived left : List ℕ) → named ≡ start ++ field_bytes (name_field new.name) → kinded ≡ named ++ to_le_bytes w16 new.kind.0
    → classed ≡ kinded ++ to_le_bytes w8 new.class → begun ≡ classed ++ to_le_bytes w32 new.on → ended ≡ begun ++ to_le_bytes w32 new.off → arrived ≡ ended ++ texts (optional_key_fields new.arr)
    → left ≡ arrived ++ texts (optional_key_fields new.dep) → left ≡ start ++ texts (new_visit_fields new)
written new start named kinded classed begun ended arrived left n k c o f a d =
    let arr = texts (optional_key_fields new.arr) in
    let dep = texts (optional_key_fields new.dep) in
    let off = to_le_bytes w32 new.off in
    let on = to_le_bytes w32 new.on in
    let class = to_le_bytes w8 new.class in
    let kind = to_le_bytes w16 new.kind.0 in
    let name = field_bytes (name_field new.name) in
    d ∙ behind ended arrived arr dep a
    ∙ behind begun ended off (arr ++ dep) f
    ∙ behind classed begun on (off ++ (arr ++ dep)) o
    ∙ behind kinded classed class (on ++ (off ++ (arr ++ dep))) c
    ∙ behind named kinded kind (class ++ (on ++ (off ++ (arr ++ dep)))) k
    ∙ behind start named name (kind ++ (class ++ (on ++ (off ++ (arr ++ dep))))) n
    ∙ ap (λ (keys : List ℕ). start ++ (name ++ (kind ++ (class ++ (on ++ (off ++ keys)))))) (sym (texts-append (optional_key_fields new.arr) (optional_key_fields new.dep)))

pub returns-clause-text : goal.returns-clause-text
returns-clause-text c = on_ok c.push_optional_key-2.result
    (written c.args.new.now c.args.out.now.items c.push_name.new.out.items c.push_u16.new.out.items c.push_u8.new.out.items c.push_u32.new.out.items c.push_u32-2.new.out.items c.push_optional_key.new.out.items
    c.push_optional_key-2.new.out.items c.in_ok-push_name.ensures.text c.in_ok-push_u16.ensures.text c.in_ok-push_u8.ensures.text c.in_ok-push_u32.ensures.text c.in_ok-push_u32-2.ensures.text
    c.in_ok-push_optional_key.ensures.text)
    c.push_optional_key-2.ensures.text
