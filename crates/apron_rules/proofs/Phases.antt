-- The first minute at which two slots clash, with wing tips that are unfolded at the start and at
-- the end.
use Rattle.std.proofs.Common.{true≢false, ◌≡◌, ◌∙◌, ◌<◌, ◌≤◌, ◌+◌, ◌-◌, ◌==◌, ◌&&◌, ◌||◌, ◌⊎◌, inl, inr, max, ℕ, Bool, true, false, cond, refl, sym, ap, subst, arith, Option, None, Some, if◌then◌else◌}
use Rattle.std.specs.Prelude.{nat_le, nat_lt, option_map}
use Rattle.std.specs.Option.{option_or}
use Rattle.std.proofs.lemmas.Bool.{cases_lt}
use Rattle.std.proofs.lemmas.Bool.Decides.{nat_tests}
use Rattle.std.specs.List.{list_any}
use Rattle.std.specs.Prelude.{Contains}
use Rattle.apron_base.specs.declared.numbers.PartId.{PartId}
use Rattle.apron_base.specs.declared.slot.Slot.{Slot}
use Rattle.apron_rules.specs.declared.parts.AirportParts.{AirportParts}
use Rattle.apron_rules.specs.declared.rules.Clash.{Clash}
use Rattle.apron_rules.specs.declared.rules.Meeting.{Meeting}
use Rattle.apron_rules.specs.declared.rules.Rule.{Rule}
use Rattle.apron_rules.specs.declared.rules.Wing.TheVariants.{Full, Parked}
use Rattle.apron_rules.specs.Clash.{IsAtMost, IsBefore, IsClashOf, IsFirstWithin, IsLeast, IsNoLater, NeverClash, breaks_at, is_held, meeting_below, rule_at, wing_of}
use Rattle.apron_rules.specs.Neighbours.{neighbours_of}
use Rattle.apron_rules.specs.Refusals.{airport_fault}
use Rattle.apron_rules.specs.Rules.{buffer_of, fold_of}
use Rattle.apron_rules.specs.Starts.{AreStarts, unfolds}
use Rattle.apron_rules.specs.declared.clash.Starts.{Starts}
use Rattle.apron_rules.proofs.Bordering.{AreAsFull, any_passes, fuller_rule, neighbour_listed}

as_full_by : (old new : Bool) → (old ≡ true → new ≡ true) → AreAsFull (if new then Full else Parked) (if old then Full else Parked)
as_full_by old true h = inl refl
as_full_by true false h = absurd (cc (h refl))
as_full_by false false h = inr refl

still_full : (from to fold c m : ℕ) → c ≤ m → (m < to - fold) ⊎ (to - fold ≤ c) → (nat_lt m (from + fold) || nat_le to (m + fold)) ≡ true → (nat_lt c (from + fold) || nat_le to (c + fold)) ≡ true
still_full from to fold c m less (inl before) h = grind (arith, nat_tests)
still_full from to fold c m less (inr after) h = grind (arith, nat_tests)

-- back to the minute at which they unfold, wing tips stay as full
as_full : (airport : AirportParts) (p : Slot) (c m : ℕ) → c ≤ m → (m < unfolds airport p) ⊎ (unfolds airport p ≤ c) → AreAsFull (wing_of airport p c) (wing_of airport p m)
as_full airport p c m less turn =
    let to = p.end - buffer_of airport p.stand in
    let fold = fold_of airport p.kind in
    as_full_by (nat_lt m (p.from + fold) || nat_le to (m + fold)) (nat_lt c (p.from + fold) || nat_le to (c + fold)) (still_full p.from to fold c m less turn)

-- what a rule at a minute means
pub record Meets (airport : AirportParts) (p q : Slot) (m : ℕ) (rule : Rule) : Type 0 where
  pub apart : (p.part.visit.0 == q.part.visit.0) ≡ false
  pub held : is_held p m ≡ true
  pub held_too : is_held q m ≡ true
  pub breaks : breaks_at airport p q m ≡ Some rule

meets_by : (one held held_too : Bool) (found : Option Rule) (rule : Rule) → ◌≡◌ {A = Option Rule} (if one then None else (if held && held_too then found else None)) (Some rule)
    → (one ≡ false) × ((held ≡ true) × ((held_too ≡ true) × (found ≡ Some rule)))
meets_by true held held_too found rule h = absurd (cc)
meets_by false true true found rule h = (refl, (refl, (refl, h)))
meets_by false true false found rule h = absurd (cc)
meets_by false false held_too found rule h = absurd (cc)

pub meets : (airport : AirportParts) (p q : Slot) (m : ℕ) (rule : Rule) → rule_at airport p q m ≡ Some rule → Meets airport p q m rule
meets airport p q m rule h =
    let all = meets_by (p.part.visit.0 == q.part.visit.0) (is_held p m) (is_held q m) (breaks_at airport p q m) rule h in
    record { apart = all.0; held = all.1.0; held_too = all.1.1.0; breaks = all.1.1.1 }

rule_when : (airport : AirportParts) (p q : Slot) (m : ℕ) (rule : Rule) → (p.part.visit.0 == q.part.visit.0) ≡ false → is_held p m ≡ true → is_held q m ≡ true → breaks_at airport p q m ≡ Some rule
    → rule_at airport p q m ≡ Some rule
rule_when airport p q m rule apart held held_too breaks = rw (apart, held, held_too) breaks

held_before : (from end c m : ℕ) → from ≤ c → c ≤ m → (nat_le from m && nat_lt m end) ≡ true → (nat_le from c && nat_lt c end) ≡ true
held_before from end c m low less h = grind (arith, nat_tests)

-- slots that clash at a minute clash at a minute before it that both hold, if since then neither
-- has begun to unfold its wing tips
pub clash_before : (airport : AirportParts) → airport_fault airport ≡ None → (p q : Slot) (c m : ℕ) (rule : Rule) → p.from ≤ c → q.from ≤ c → c ≤ m
    → (m < unfolds airport p) ⊎ (unfolds airport p ≤ c) → (m < unfolds airport q) ⊎ (unfolds airport q ≤ c)
    → rule_at airport p q m ≡ Some rule → (other : Rule) × (rule_at airport p q c ≡ Some other)
clash_before airport none p q c m rule from_p from_q less turn turn_too h =
    let met = meets airport p q m rule h in
    let found = fuller_rule airport none p.stand p.kind (wing_of airport p m) (wing_of airport p c) q.stand q.kind (wing_of airport q m) (wing_of airport q c) rule
    (as_full airport p c m less turn) (as_full airport q c m less turn_too) met.breaks in
    (found.0, rule_when airport p q c found.0 met.apart (held_before p.from p.end c m from_p less met.held) (held_before q.from q.end c m from_q less met.held_too) found.1)

-- the last of the starts before a clash
record HasClashBefore (airport : AirportParts) (p q : Slot) (starts : Starts) (m : ℕ) : Type 0 where
  at : ℕ
  tried : (at ≡ starts.shared) ⊎ ((at ≡ starts.unfolded) ⊎ (at ≡ starts.both_unfolded))
  no_later : at ≤ m
  rule : Rule
  clash : rule_at airport p q at ≡ Some rule

tried_before : (airport : AirportParts) → airport_fault airport ≡ None → (p q : Slot) (from : ℕ) (starts : Starts) (m : ℕ) (rule : Rule) → AreStarts airport p q from starts → starts.shared ≤ m
    → rule_at airport p q m ≡ Some rule → HasClashBefore airport p q starts m
tried_before airport none p q from starts m rule are low h =
    let from_p : p.from ≤ starts.shared = omega (arith, are.shared) in
    let from_q : q.from ≤ starts.shared = omega (arith, are.shared) in
    elim (cases_lt m (unfolds airport p)) [
      | inl folded ↦ elim (cases_lt m (unfolds airport q)) [
        | inl folded_too ↦ (let found = clash_before airport none p q starts.shared m rule from_p from_q low (inl folded) (inl folded_too) h in
            record { at = starts.shared; tried = inl refl; no_later = low; rule = found.0; clash = found.1 })
        | inr over ↦ (let at : starts.unfolded ≡ max starts.shared (unfolds airport q) = omega (arith, are.unfolded) in
            let found = clash_before airport none p q starts.unfolded m rule (omega arith) (omega arith) (omega arith) (inl folded) (inr (omega arith)) h in
            record { at = starts.unfolded; tried = inr (inl refl); no_later = omega arith; rule = found.0; clash = found.1 })
      ]
      | inr over ↦ elim (cases_lt m (unfolds airport q)) [
        | inl folded ↦ (let at : starts.unfolded ≡ max starts.shared (unfolds airport p) = omega (arith, are.unfolded) in
            let found = clash_before airport none p q starts.unfolded m rule (omega arith) (omega arith) (omega arith) (inr (omega arith)) (inl folded) h in
            record { at = starts.unfolded; tried = inr (inl refl); no_later = omega arith; rule = found.0; clash = found.1 })
        | inr over_too ↦ (let at = are.both_unfolded in
            let found = clash_before airport none p q starts.both_unfolded m rule (omega arith) (omega arith) (omega arith) (inr (omega arith)) (inr (omega arith)) h in
            record { at = starts.both_unfolded; tried = inr (inr refl); no_later = omega arith; rule = found.0; clash = found.1 })
      ]
    ]

-- a meeting that is tried and found, or not
record IsThere (airport : AirportParts) (p q : Slot) (end m : ℕ) (at : Meeting) : Type 0 where
  minute : at.minute ≡ m
  below : m < end
  rule : rule_at airport p q at.minute ≡ Some at.rule

there_by : (airport : AirportParts) (p q : Slot) (end m : ℕ) (at : Meeting) (below : Bool) (found : Option Rule) → nat_lt m end ≡ below → rule_at airport p q m ≡ found
    → cond below (option_map (λ (rule : Rule). record { minute = m; rule = rule }) found) None ≡ Some at → IsThere airport p q end m at
there_by airport p q end m at true (Some rule) is e h =
    let minute : m ≡ at.minute = cc in
    record { minute = sym minute; below = grind (arith, nat_tests); rule = subst (λ (k : ℕ). rule_at airport p q k ≡ Some at.rule) minute (e ∙ (cc)) }
there_by airport p q end m at true None is e h = absurd (cc)
there_by airport p q end m at false found is e h = absurd (cc)

is_there : (airport : AirportParts) (p q : Slot) (end m : ℕ) (at : Meeting) → meeting_below airport p q end m ≡ Some at → IsThere airport p q end m at
is_there airport p q end m at h = there_by airport p q end m at (nat_lt m end) (rule_at airport p q m) refl refl h

gone_by : (m : ℕ) (below : Bool) (found : Option Rule) (rule : Rule) → ◌≡◌ {A = Option Meeting} (cond below (option_map (λ (rule : Rule). record { minute = m; rule = rule }) found) None) None → below ≡ true → found ≡ Some rule → ⊥
gone_by m below found rule h is e = let some : ◌≡◌ {A = Option Meeting} (Some (record { minute = m; rule = rule })) None = rw (is, e) at h in cc

not_there : (airport : AirportParts) (p q : Slot) (end m k : ℕ) (rule : Rule) → meeting_below airport p q end m ≡ None → m < end → k ≡ m → rule_at airport p q k ≡ Some rule → ⊥
not_there airport p q end m k rule h below same e = gone_by m (nat_lt m end) (rule_at airport p q m) rule h (grind (arith, nat_tests)) (ap (rule_at airport p q) (sym same) ∙ e)

none_by : (found : Option Rule) → ((rule : Rule) → found ≡ Some rule → ⊥) → found ≡ None
none_by None h = refl
none_by (Some rule) h = absurd (h rule refl)

unheld : (p q : Slot) (from start m : ℕ) → start ≡ max from (max p.from q.from) → from ≤ m → m < start → is_held p m ≡ true → is_held q m ≡ true → ⊥
unheld p q from start m is low below held held_too =
    let a : p.from ≤ m = grind (arith, nat_tests) in
    let b : q.from ≤ m = grind (arith, nat_tests) in
    omega arith

pub held_from : (p : Slot) (m : ℕ) → is_held p m ≡ true → p.from ≤ m
held_from p m h = grind (arith, nat_tests)

pub held_to : (p : Slot) (m : ℕ) → is_held p m ≡ true → m < p.end
held_to p m h = grind (arith, nat_tests)

at_most_itself : (p : PartId) → IsAtMost p p
at_most_itself p = inr (refl, omega arith)

no_later_by : (c d : Clash) → c.minute ≤ d.minute → c.a ≡ d.a → c.b ≡ d.b → IsNoLater c d
no_later_by c d low a b =
    elim (cases_lt c.minute d.minute) [
      | inl below ↦ inl below
      | inr over ↦ inr (omega arith, inr (a, subst (IsAtMost c.b) b (at_most_itself c.b)))
    ]

-- slots don't clash before the first minute that both hold
before_start : (airport : AirportParts) (p q : Slot) (from start m : ℕ) (rule : Rule) → start ≡ max from (max p.from q.from) → from ≤ m → m < start → rule_at airport p q m ≡ Some rule → ⊥
before_start airport p q from start m rule is low below h = let met = meets airport p q m rule h in unheld p q from start m is low below met.held met.held_too

-- there is no clash before a minute up to which none of the starts has one
none_before : (airport : AirportParts) → airport_fault airport ≡ None → (p q : Slot) (from : ℕ) (starts : Starts) (m : ℕ) → AreStarts airport p q from starts → from ≤ m
    → ((k : ℕ) (rule : Rule) → (k ≡ starts.shared) ⊎ ((k ≡ starts.unfolded) ⊎ (k ≡ starts.both_unfolded)) → k ≤ m → rule_at airport p q k ≡ Some rule → ⊥) → rule_at airport p q m ≡ None
none_before airport none p q from starts m are low never =
    none_by (rule_at airport p q m) (λ rule h. elim (cases_lt m starts.shared) [
      | inl below ↦ before_start airport p q from starts.shared m rule are.shared low below h
      | inr over ↦ (let found = tried_before airport none p q from starts m rule are over h in never found.at found.rule found.tried found.no_later found.clash)
    ])

-- the first meeting at one of the starts is the first of all
pub first_tried : (airport : AirportParts) → airport_fault airport ≡ None → (p q : Slot) (from end : ℕ) (starts : Starts) (one two three found : Option Meeting) → AreStarts airport p q from starts
    → one ≡ meeting_below airport p q end starts.shared → two ≡ meeting_below airport p q end starts.unfolded → three ≡ meeting_below airport p q end starts.both_unfolded → found ≡ option_or one (option_or two three)
    → IsFirstWithin airport p q from end found
first_tried airport none p q from end starts (Some at) two three found are first second third is =
    let there = is_there airport p q end starts.shared at (sym first) in
    let low : from ≤ starts.shared = omega (arith, are.shared) in
    subst (IsFirstWithin airport p q from end) (sym is) (
      record {
        from = omega (arith, there.minute, low);
        rule = there.rule;
        before = λ k above below. none_by (rule_at airport p q k) (λ rule h. before_start airport p q from starts.shared k rule are.shared above (omega (arith, there.minute)) h);
      },
      omega (arith, there.minute, there.below),
    )
first_tried airport none p q from end starts None (Some at) three found are first second third is =
    let there = is_there airport p q end starts.unfolded at (sym second) in
    let low : starts.shared ≤ starts.unfolded = omega (arith, are.unfolded) in
    let order : starts.unfolded ≤ starts.both_unfolded = omega (arith, are.unfolded, are.both_unfolded) in
    let high : starts.unfolded < end = there.below in
    subst (IsFirstWithin airport p q from end) (sym is) (
      record {
        from = omega (arith, there.minute, low, are.shared);
        rule = there.rule;
        before = λ k above below. none_before airport none p q from starts k are above (λ c rule tried no_later h. elim tried [
          | inl same ↦ not_there airport p q end starts.shared c rule (sym first) (omega arith) same h
          | inr more ↦ elim more [ inl same ↦ absurd (omega (arith, there.minute)) | inr same ↦ absurd (omega (arith, there.minute)) ]
        ]);
      },
      omega (arith, there.minute, there.below),
    )
first_tried airport none p q from end starts None None (Some at) found are first second third is =
    let there = is_there airport p q end starts.both_unfolded at (sym third) in
    let low : starts.shared ≤ starts.unfolded = omega (arith, are.unfolded) in
    let order : starts.unfolded ≤ starts.both_unfolded = omega (arith, are.unfolded, are.both_unfolded) in
    let high : starts.both_unfolded < end = there.below in
    subst (IsFirstWithin airport p q from end) (sym is) (
      record {
        from = omega (arith, there.minute, low, order, are.shared);
        rule = there.rule;
        before = λ k above below. none_before airport none p q from starts k are above (λ c rule tried no_later h. elim tried [
          | inl same ↦ not_there airport p q end starts.shared c rule (sym first) (omega arith) same h
          | inr more ↦ elim more [ inl same ↦ not_there airport p q end starts.unfolded c rule (sym second) (omega arith) same h | inr same ↦ absurd (omega (arith, there.minute)) ]
        ]);
      },
      omega (arith, there.minute, there.below),
    )
first_tried airport none p q from end starts None None None found are first second third is =
    subst (IsFirstWithin airport p q from end) (sym is) (λ k above below. none_before airport none p q from starts k are above (λ c rule tried no_later h. elim tried [
      | inl same ↦ not_there airport p q end starts.shared c rule (sym first) (omega arith) same h
      | inr more ↦ elim more [ inl same ↦ not_there airport p q end starts.unfolded c rule (sym second) (omega arith) same h | inr same ↦ not_there airport p q end starts.both_unfolded c rule (sym third) (omega arith) same h ]
    ]))

-- the least clash of two slots, the smaller of which comes first
pub least_between : (airport : AirportParts) (p q : Slot) (at : Option Meeting) (found : Option Clash) → IsBefore p.part q.part → (p.actual && q.actual) ≡ false → IsFirstWithin airport p q p.from p.end at
    → found ≡ option_map (λ (at : Meeting). record { minute = at.minute; a = p.part; b = q.part; rule = at.rule }) at → IsLeast (IsClashOf airport p q) found
least_between airport p q None found order planned first is =
    subst (IsLeast (IsClashOf airport p q)) (sym is) (λ c h. let met = meets airport p q c.minute c.rule h.rule in
    let none : rule_at airport p q c.minute ≡ None = first c.minute (held_from p c.minute met.held) (held_to p c.minute met.held) in
    let some : rule_at airport p q c.minute ≡ Some c.rule = h.rule in cc)
least_between airport p q (Some at) found order planned first is =
    subst (IsLeast (IsClashOf airport p q)) (sym is) (
      record { a = refl; b = refl; order = order; rule = first.0.rule; planned = planned },
      λ c h. let met = meets airport p q c.minute c.rule h.rule in
          elim (cases_lt c.minute at.minute) [
            | inl below ↦ (let none : rule_at airport p q c.minute ≡ None = first.0.before c.minute (held_from p c.minute met.held) below in
                let some : rule_at airport p q c.minute ≡ Some c.rule = h.rule in absurd (cc))
            | inr over ↦ no_later_by (record { minute = at.minute; a = p.part; b = q.part; rule = at.rule }) c over (sym h.a) (sym h.b)
          ],
    )

-- slots that clash are on neighbouring stands
pub rule_neighbour : (airport : AirportParts) (p q : Slot) (m : ℕ) (rule : Rule) → airport_fault airport ≡ None → rule_at airport p q m ≡ Some rule → Contains (neighbours_of airport p.stand) q.stand
rule_neighbour airport p q m rule none h =
    neighbour_listed airport none p.stand q.stand p.kind (wing_of airport p m) q.kind (wing_of airport q m) rule (meets airport p q m rule h).breaks

none_unless : (found : Option Rule) → ((rule : Rule) → found ≡ Some rule → ⊥) → found ≡ None
none_unless None h = refl
none_unless (Some rule) h = absurd (h rule refl)

-- slots on stands that are no neighbours never clash
pub never_apart : (airport : AirportParts) → airport_fault airport ≡ None → (p q : Slot) (from end : ℕ) → list_any (λ listed. listed.0 == q.stand.0) (neighbours_of airport p.stand) ≡ false
    → NeverClash airport p q from end
never_apart airport none p q from end apart m low high =
    let near = neighbours_of airport p.stand in
    let same : (q.stand.0 == q.stand.0) ≡ true = grind (arith, nat_tests) in
    none_unless (rule_at airport p q m) (λ rule h.
    true≢false (sym (any_passes (λ listed. listed.0 == q.stand.0) near q.stand (rule_neighbour airport p q m rule none h) same) ∙ apart))
