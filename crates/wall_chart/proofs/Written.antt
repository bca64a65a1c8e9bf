-- Texts that grow by pieces.
use Rattle.std.proofs.Common.{◌≡◌, ◌∙◌, ◌≤◌, ◌+◌, ◌-◌, ◌++◌, ◌∷◌, [], ℕ, suc, List, refl, sym, ap, arith, append_assoc, length, map, replicate, take}
use Rattle.std.specs.Prelude.{codes, Result, Ok, Err, OnOk}
use Rattle.std.specs.List.{flat_map, range_with_len}
use Rattle.std.proofs.lemmas.List.{flat_map_more, take-replicate}
use Rattle.std.proofs.lemmas.List.FromFn.{map-range_with_len_more}
use Rattle.apron_base.specs.declared.numbers.StandNo.{StandNo}
use Rattle.apron_rules.specs.declared.parts.AirportParts.{AirportParts}
use Rattle.apron_rules.specs.Neighbours.{first_stands}
use Rattle.visit_book.specs.Slots.{slots_of}
use Rattle.plan_core.specs.PlanState.{PlanState}
use Rattle.wall_chart.specs.Chart.{alarm_lines, chart_first_line, chart_text, part_lines, stand_lines, unplaced_lines}
use Rattle.wall_chart.specs.Rows.{filled_up}

-- what follows from the promise of a call that went well
pub ok_then : {T E : Type 0} (r : Result T E) (P Q : Type 0) → (P → Q) → OnOk r P → OnOk r Q
ok_then (Ok x) P Q follows h = follows h
ok_then (Err e) P Q follows h = h

-- the pieces of what a function makes of items
pub flat_map-map : {X Y Z : Type 0} (f : X → Y) (g : Y → List Z) (xs : List X) → flat_map (λ x. g (f x)) xs ≡ flat_map g (map f xs)
flat_map-map f g [] = refl
flat_map-map {X} {Y} {Z} f g (x ∷ xs) = ap (λ (ys : List Z). g (f x) ++ ys) (flat_map-map f g xs)

-- a name and the spaces after it
pub filled_by : (old name before after : List ℕ) (spaces : ℕ) → before ≡ old ++ name → spaces ≡ 6 - length name → after ≡ before ++ take spaces (replicate 6 32) → after ≡ old ++ filled_up name
filled_by old name before after spaces named count then =
    let few : spaces ≤ 6 = omega (arith, count) in
    then ∙ (ap (λ (ys : List ℕ). before ++ ys) (take-replicate spaces 6 32 few ∙ ap (λ (n : ℕ). replicate n 32) count)
    ∙ (ap (λ (xs : List ℕ). xs ++ replicate (6 - length name) 32) named ∙ append_assoc old name (replicate (6 - length name) 32)))

-- a text that grew by four pieces
pub four_pieces : (old one two three four a b c d : List ℕ) → a ≡ old ++ one → b ≡ a ++ two → c ≡ b ++ three → d ≡ c ++ four → d ≡ old ++ (((one ++ two) ++ three) ++ four)
four_pieces old one two three four a b c d e f g h = rw (h, g, f, e) (simp append_assoc)

-- one more cell
pub marks_more : (f : ℕ → ℕ) (old before after : List ℕ) (n mark : ℕ) → before ≡ old ++ map f (range_with_len 0 n) → mark ≡ f n → after ≡ before ++ mark ∷ [] → after ≡ old ++ map f (range_with_len 0 (n + 1))
marks_more f old before after n mark so_far is then =
    then ∙ (ap (λ (m : ℕ). before ++ m ∷ []) is ∙ (ap (λ (xs : List ℕ). xs ++ f n ∷ []) so_far
    ∙ (append_assoc old (map f (range_with_len 0 n)) (f n ∷ []) ∙ ap (λ (ys : List ℕ). old ++ ys) (sym (map-range_with_len_more f 0 n n (omega arith))))))

-- the line of one more stand
pub stands_more : (f : StandNo → List ℕ) (old before after : List ℕ) (n : ℕ) → before ≡ old ++ flat_map f (first_stands n) → after ≡ before ++ f (record { 0 = n }) → after ≡ old ++ flat_map f (first_stands (n + 1))
stands_more f old before after n so_far then =
    let next : suc n ≡ n + 1 = omega arith in
    then ∙ (ap (λ (xs : List ℕ). xs ++ f (record { 0 = n })) so_far
    ∙ (flat_map_more f old (first_stands n) (record { 0 = n }) ∙ ap (λ (k : ℕ). old ++ flat_map f (first_stands k)) next))

-- the chart from its pieces
pub whole : (airport : AirportParts) (plan : PlanState) (day : ℕ) (first stands parts unplaced alarmed all : List ℕ)
    → first ≡ chart_first_line airport plan.version day → stands ≡ first ++ stand_lines airport (slots_of airport plan.visits) day → parts ≡ stands ++ part_lines airport plan day
    → unplaced ≡ parts ++ unplaced_lines airport plan day → alarmed ≡ unplaced ++ alarm_lines airport (slots_of airport plan.visits) day → all ≡ alarmed ++ codes "END\n"
    → all ≡ chart_text airport plan day
unfolding chart_text
whole airport plan day first stands parts unplaced alarmed all one two three four five six =
    let slots = slots_of airport plan.visits in
    six ∙ ap (λ (xs : List ℕ). xs ++ codes "END\n")
    (five ∙ ap (λ (xs : List ℕ). xs ++ alarm_lines airport slots day)
    (four ∙ ap (λ (xs : List ℕ). xs ++ unplaced_lines airport plan day)
    (three ∙ ap (λ (xs : List ℕ). xs ++ part_lines airport plan day)
    (two ∙ ap (λ (xs : List ℕ). xs ++ stand_lines airport slots day) one))))
