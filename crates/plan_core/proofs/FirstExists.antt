-- There is a first clash, or none, among any slots.
use Rattle.std.proofs.Common.{◌≡◌, ◌⊎◌, ◌<◌, ◌≤◌, ◌==◌, ◌&&◌, ◌∙◌, ℕ, Bool, true, false, List, [], ◌∷◌, arith, ap, inl, inr, max, nat_lt, refl, subst, sym, Option, None, Some}
use Rattle.std.specs.Prelude.{Contains, option_map}
use Rattle.std.proofs.lemmas.Bool.Decides.{nat_tests}
use Rattle.std.proofs.lemmas.List.Elements.{All-contains, All-from_recursion, Contains-append_cases, Contains-append_left, Contains-append_right, Contains-push}
use Rattle.apron_base.specs.declared.numbers.PartId.{PartId}
use Rattle.apron_base.specs.declared.slot.Slot.{Slot}
use Rattle.apron_rules.specs.declared.parts.AirportParts.{AirportParts}
use Rattle.apron_rules.specs.declared.rules.Clash.{Clash}
use Rattle.apron_rules.specs.declared.rules.Meeting.{Meeting}
use Rattle.apron_rules.specs.Clash.{IsAtMost, IsBefore, IsClashOf, IsFirstClash, IsLeast, IsNoLater, IsSooner}
use Rattle.apron_rules.proofs.Least.{least_of_both}
use Rattle.apron_rules.proofs.Phases.{least_between}
use Rattle.clash_check.specs.Meetings.{meeting}
use Rattle.clash_check.proofs.Meetings.{meeting_first}

abbrev part_of : ℕ → ℕ → PartId
part_of visit part = record { visit = record { 0 = visit }; part = part }

part_is : (p q : PartId) → p.visit.0 ≡ q.visit.0 → p.part ≡ q.part → p ≡ q
part_is p q visit part = let same : part_of p.visit.0 p.part ≡ part_of q.visit.0 q.part = cc in same

ordered : (m n : ℕ) → (m < n) ⊎ ((m ≡ n) ⊎ (n < m))
ordered m n = tests (nat_lt m n) (nat_lt n m) refl refl
  where
    tests : (below above : Bool) → nat_lt m n ≡ below → nat_lt n m ≡ above → (m < n) ⊎ ((m ≡ n) ⊎ (n < m))
    tests true above is at = inl (grind (arith, nat_tests))
    tests false true is at = inr (inr (grind (arith, nat_tests)))
    tests false false is at = inr (inl (grind (arith, nat_tests)))

at_most_total : (p q : PartId) → IsAtMost p q ⊎ IsAtMost q p
at_most_total p q =
    elim (ordered p.visit.0 q.visit.0) [
      | inl below ↦ inl (inl below)
      | inr more ↦ elim more [
        | inl same ↦ elim (ordered p.part q.part) [
          | inl first ↦ inl (inr (same, omega arith))
          | inr rest ↦ elim rest [ inl equal ↦ inl (inr (same, omega arith)) | inr later ↦ inr (inr (sym same, omega arith)) ]
        ]
        | inr above ↦ inr (inl above)
      ]
    ]

before_total : (p q : PartId) → IsBefore p q ⊎ ((p ≡ q) ⊎ IsBefore q p)
before_total p q =
    elim (ordered p.visit.0 q.visit.0) [
      | inl below ↦ inl (inl below)
      | inr more ↦ elim more [
        | inl same ↦ elim (ordered p.part q.part) [
          | inl first ↦ inl (inr (same, first))
          | inr rest ↦ elim rest [ inl equal ↦ inr (inl (part_is p q same equal)) | inr later ↦ inr (inr (inr (sym same, later))) ]
        ]
        | inr above ↦ inr (inr (inl above))
      ]
    ]

-- of two clashes one is no later than the other
no_later_total : (c d : Clash) → IsNoLater c d ⊎ IsNoLater d c
no_later_total c d =
    elim (ordered c.minute d.minute) [
      | inl below ↦ inl (inl below)
      | inr more ↦ elim more [
        | inl same ↦ elim (before_total c.a d.a) [
          | inl first ↦ inl (inr (same, inl first))
          | inr rest ↦ elim rest [
            | inl equal ↦ elim (at_most_total c.b d.b) [
              | inl at_most ↦ inl (inr (same, inr (equal, at_most)))
              | inr at_least ↦ inr (inr (sym same, inr (sym equal, at_least)))
            ]
            | inr later ↦ inr (inr (sym same, inl later))
          ]
        ]
        | inr above ↦ inr (inl above)
      ]
    ]

-- the lesser of two
lesser : (first second : Option Clash) → (found : Option Clash) × IsSooner first second found
lesser None second = (second, refl)
lesser (Some c) None = (Some c, refl)
lesser (Some c) (Some d) = elim (no_later_total c d) [ inl h ↦ (Some c, inl (refl, h)) | inr h ↦ (Some d, inr (refl, h)) ]

-- a kind of clash has a least one, or none
abbrev HasLeast : (Clash → Type 0) → Type 0
HasLeast P = (found : Option Clash) × IsLeast P found

is_only : (x q : Slot) → Contains (x ∷ []) q → x ≡ q
is_only x q h = All-contains (λ s. x ≡ s) (x ∷ []) q (All-from_recursion (λ s. x ≡ s) (x ∷ []) (refl, tt)) h

-- a kind for each slot has one over all slots
least_over : (F : Slot → Clash → Type 0) → ((q : Slot) → HasLeast (F q)) → (xs : List Slot) → HasLeast (λ c. (q : Slot) × Contains xs q × F q c)
least_over F each [] = (None, λ c r. omega (arith, r.1.1))
least_over F each (x ∷ xs) =
    let first : HasLeast (F x) = each x in
    let rest : HasLeast (λ c. (q : Slot) × Contains xs q × F q c) = least_over F each xs in
    let both = lesser first.0 rest.0 in (
      both.0,
      least_of_both (F x) (λ c. (q : Slot) × Contains xs q × F q c) (λ c. (q : Slot) × Contains (x ∷ xs) q × F q c) first.0 rest.0 both.0 first.1 rest.1 both.1
          (λ c r. elim (Contains-append_cases (x ∷ []) xs r.0 r.1) [
            | inl here ↦ inl (let G : Slot → Type 0 = λ q. F q c in subst G (sym (is_only x r.0 here)) r.2)
            | inr there ↦ inr (r.0, there, r.2)
          ])
          (λ c h. (x, Contains-append_left (x ∷ []) xs x (Contains-push [] x), h))
          (λ c r. (r.0, Contains-append_right (x ∷ []) xs r.0 r.1, r.2)),
    )

-- two slots have a least clash, or none
between_by : (a : AirportParts) (p q : Slot) (both : Bool) → (p.actual && q.actual) ≡ both → IsBefore p.part q.part ⊎ ((p.part ≡ q.part) ⊎ IsBefore q.part p.part) → HasLeast (IsClashOf a p q)
between_by a p q true is order = (None, λ c h. let planned : (p.actual && q.actual) ≡ false = h.planned in absurd (cc))
between_by a p q false is (inl before) =
    let found : Option Clash = option_map (λ (at : Meeting). record { minute = at.minute; a = p.part; b = q.part; rule = at.rule }) (meeting a p q) in
    (found, least_between a p q (meeting a p q) found before is (meeting_first a p q) refl)
between_by a p q false is (inr rest) = (None, λ c h. never c h rest)
  where
    never : (c : Clash) → IsClashOf a p q c → (p.part ≡ q.part) ⊎ IsBefore q.part p.part → ⊥
    never c h (inl same) =
        let visit : p.part.visit.0 ≡ q.part.visit.0 = ap (λ (n : PartId). n.visit.0) same in
        let part : p.part.part ≡ q.part.part = ap (λ (n : PartId). n.part) same in
        let order : IsBefore p.part q.part = h.order in grind arith
    never c h (inr later) = let order : IsBefore p.part q.part = h.order in grind arith

between : (a : AirportParts) (p q : Slot) → HasLeast (IsClashOf a p q)
between a p q = between_by a p q (p.actual && q.actual) refl (before_total p.part q.part)

-- there is a first clash, or none
pub first_exists : (a : AirportParts) (slots : List Slot) → (found : Option Clash) × IsFirstClash a slots found
first_exists a slots =
    least_over (λ p c. (q : Slot) × Contains slots q × IsClashOf a p q c) (λ p. least_over (IsClashOf a p) (between a p) slots) slots
