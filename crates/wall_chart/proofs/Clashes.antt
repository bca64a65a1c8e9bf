-- The alarms of a day.
use Rattle.std.proofs.Common.{◌≡◌, ◌∙◌, ◌<◌, ◌≤◌, ◌+◌, ◌++◌, ◌==◌, ◌&&◌, ◌⊎◌, inl, inr, ℕ, zero, suc, min, max, nat_lt, Bool, true, false, cond, List, [], ◌∷◌, refl, sym, ap, subst, arith, Option, None, Some, length, get_or}
use Rattle.std.proofs.lemmas.List.Elements.{All-contains, Contains-get_or}
use Rattle.std.specs.Prelude.{Contains, filter, filter_map, nat_le, option_map}
use Rattle.std.specs.List.{flat_map, cons_option}
use Rattle.std.specs.Option.{option_or}
use Rattle.std.proofs.lemmas.Bool.Decides.{nat_tests}
use Rattle.apron_base.specs.declared.slot.Slot.{Slot}
use Rattle.apron_base.proofs.Sorting.{listed_first, listed_later}
use Rattle.apron_rules.specs.declared.parts.AirportParts.{AirportParts}
use Rattle.apron_rules.specs.declared.rules.Clash.{Clash}
use Rattle.apron_rules.specs.declared.rules.Rule.{Rule}
use Rattle.apron_rules.specs.declared.rules.Meeting.{Meeting}
use Rattle.apron_rules.specs.Clash.{IsSlotOf, IsSound, is_held, rule_at}
use Rattle.apron_rules.proofs.Bordering.{filter_passed}
use Rattle.stand_index.specs.Slots.{StandSlots}
use Rattle.clash_check.specs.Clear.{IsClear}
use Rattle.clash_check.specs.Indexed.{all_slots}
use Rattle.clash_check.specs.Meetings.{by_part, clash_at, clash_within, clashes_within, is_smaller, meeting_from}
use Rattle.clash_check.proofs.Among.{others_none}
use Rattle.clash_check.proofs.Meetings.{never_from, not_held}
use Rattle.visit_book.specs.declared.visits.Visit.{Visit}
use Rattle.visit_book.specs.Slots.{slots_of}
use Rattle.plan_core.specs.Indexed.{IsIndexed}
use Rattle.plan_lists.specs.Days.{day_length, day_start, minutes_of_day}
use Rattle.wall_chart.specs.Alarms.{alarm, alarms, alarms_with, alarm_order, clash_on, is_actual_on, is_in_order}
use Rattle.wall_chart.specs.Cells.{is_held_at_some}
use Rattle.wall_chart.specs.Order.{in_order}
use Rattle.plan_lists.proofs.Minutes.{overlap_of_day}

and_no : (a b : Bool) → (a ≡ false) ⊎ (b ≡ false) → (a && b) ≡ false
and_no false b e = refl
and_no true b (inl e) = absurd (cc)
and_no true b (inr e) = e

no_and : (a b : Bool) → (a && b) ≡ false → (a ≡ false) ⊎ (b ≡ false)
no_and false b e = inl refl
no_and true b e = inr e

abbrev kept : {Y : Type 0} → (Y → Bool) → Option Y → Option Y
kept p None = None
kept p (Some y) = cond (p y) (Some y) None

kept_more : {Y : Type 0} (p : Y → Bool) (found : Option Y) (ys : List Y) → filter p (cons_option found ys) ≡ cons_option (kept p found) (filter p ys)
kept_more p None ys = refl
kept_more {Y} p (Some y) ys = cases (p y)
  where
    cases : (b : Bool) → cond b (y ∷ filter p ys) (filter p ys) ≡ cons_option (cond b (Some y) None) (filter p ys)
    cases true = refl
    cases false = refl

-- what is found of each item and passes a test, if another search finds exactly that
filter_mapped : {X Y : Type 0} (p : Y → Bool) (h g : X → Option Y) (xs : List X) → ((x : X) → Contains xs x → kept p (h x) ≡ g x) → filter p (filter_map h xs) ≡ filter_map g xs
filter_mapped p h g [] same = refl
filter_mapped {X} {Y} p h g (x ∷ xs) same =
    kept_more p (h x) (filter_map h xs)
    ∙ (ap (λ (found : Option Y). cons_option found (filter p (filter_map h xs))) (same x (listed_first x xs))
    ∙ ap (cons_option (g x)) (filter_mapped p h g xs (λ y k. same y (listed_later x xs y k))))

-- a planned slot of a sound plan clashes with no slot
planned_none : (airport : AirportParts) (slots : List Slot) (p q : Slot) (k : ℕ) → IsSound airport slots → Contains slots p → Contains slots q → q.actual ≡ false
    → (found : Option Rule) → rule_at airport p q k ≡ found → found ≡ None
planned_none airport slots p q k sound in_p in_q planned None e = refl
planned_none airport slots p q k sound in_p in_q planned (Some rule) e =
    let both : (p.actual && q.actual) ≡ true = sound p q k rule in_p in_q e in
    let no : (p.actual && q.actual) ≡ false = and_no p.actual q.actual (inr planned) in
    absurd (cc)

kept_by : (order : Bool) (p q : Slot) (found : Option Meeting) → is_smaller p.part q.part ≡ order → kept is_in_order (option_map (clash_at p q) found) ≡ cond order (option_map (clash_at p q) found) None
kept_by true p q None e = refl
kept_by false p q None e = refl
kept_by order p q (Some at) e = ap (λ (b : Bool). cond b (Some (clash_at p q at)) None) e

alarm_by : (first second order : Bool) (found : Option Clash) → first ≡ true → (second ≡ false → found ≡ None) → cond order found None ≡ cond (first && second && order) found None
alarm_by true true order found e none = refl
alarm_by true false true found e none = none refl
alarm_by true false false found e none = refl
alarm_by false second order found e none = absurd (cc)

-- the clash of an actual slot of a sound plan with another on the day is their alarm, if the other
-- is of a greater part
alarm_of : (airport : AirportParts) (day : ℕ) (slots : List Slot) (p q : Slot) → IsSound airport slots → Contains slots p → p.actual ≡ true → Contains slots q
    → kept is_in_order (clash_within airport p (day_start day) day_length q) ≡ alarm airport day p q
alarm_of airport day slots p q sound in_p actual in_q =
    let start = day_start day in
    let met = meeting_from airport p q start day_length in
    let none : q.actual ≡ false → clash_on airport day p q ≡ None =
    λ planned. ap (option_map (clash_at p q)) (never_from airport p q start day_length (λ k low high. planned_none airport slots p q k sound in_p in_q planned (rule_at airport p q k) refl)) in
    kept_by (is_smaller p.part q.part) p q met refl ∙ alarm_by p.actual q.actual (is_smaller p.part q.part) (clash_on airport day p q) actual none

-- the clashes of an actual slot on the day with those of greater parts are its alarms
pub alarms_of : (airport : AirportParts) (day : ℕ) (slots : List Slot) (slot : Slot) → IsSound airport slots → Contains slots slot → slot.actual ≡ true
    → filter is_in_order (clashes_within airport slot (day_start day) day_length slots) ≡ alarms_with airport day slots slot
alarms_of airport day slots slot sound listed actual =
    filter_mapped is_in_order (clash_within airport slot (day_start day) day_length) (alarm airport day slot) slots (λ other in_other. alarm_of airport day slots slot other sound listed actual in_other)

off_day : (from end start long k : ℕ) → nat_lt (max from start) (min end (start + long)) ≡ false → start ≤ k → k < start + long → (nat_le from k && nat_lt k end) ≡ false
off_day from end start long k e low high = grind (arith, nat_tests)

no_alarm_by : (first second order : Bool) (found : Option Clash) → (first ≡ false) ⊎ (found ≡ None) → ◌≡◌ {A = Option Clash} (cond (first && second && order) found None) None
no_alarm_by false second order found e = refl
no_alarm_by true true true found (inr e) = e
no_alarm_by true true true found (inl e) = absurd (cc)
no_alarm_by true true false found e = refl
no_alarm_by true false order found e = refl

-- a slot that is not actual, or not held on the day, gives no alarm
no_alarm : (airport : AirportParts) (day : ℕ) (p q : Slot) → is_actual_on day p ≡ false → alarm airport day p q ≡ None
no_alarm airport day p q off =
    let start = day_start day in
    no_alarm_by p.actual q.actual (is_smaller p.part q.part) (clash_on airport day p q) (elim (no_and p.actual (is_held_at_some (minutes_of_day day) p) off) [
      | inl planned ↦ inl planned
      | inr away ↦ inr (ap (option_map (clash_at p q)) (never_from airport p q start day_length (λ k low high. not_held airport p q k
          (and_no (is_held p k) (is_held q k) (inl (off_day p.from p.end start day_length k (sym (overlap_of_day p.from p.end day) ∙ away) low high))))))
    ])

mapped_none : {X Y : Type 0} (h : X → Option Y) (xs : List X) → ((x : X) → h x ≡ None) → filter_map h xs ≡ []
mapped_none h [] none = refl
mapped_none {X} {Y} h (x ∷ xs) none = ap (λ (found : Option Y). cons_option found (filter_map h xs)) (none x) ∙ mapped_none h xs none

lists_filter : {S Y : Type 0} (g : S → List Y) (p : S → Bool) (items : List S) → ((s : S) → p s ≡ false → g s ≡ []) → flat_map g (filter p items) ≡ flat_map g items
lists_filter g p [] none = refl
lists_filter {S} {Y} g p (s ∷ items) none = cases (lists_filter g p items none) (p s) refl
  where
    cases : flat_map g (filter p items) ≡ flat_map g items → (b : Bool) → p s ≡ b → flat_map g (cond b (s ∷ filter p items) (filter p items)) ≡ g s ++ flat_map g items
    cases rest true e = ap (λ ys. g s ++ ys) rest
    cases rest false e = rest ∙ ap (λ ys. ys ++ flat_map g items) (sym (none s e))

-- the alarms of a day are those of the actual slots that are held on it
pub alarms_are : (airport : AirportParts) (day : ℕ) (slots : List Slot) → in_order alarm_order (flat_map (alarms_with airport day slots) (filter (is_actual_on day) slots)) ≡ alarms airport day slots
alarms_are airport day slots =
    ap (in_order alarm_order) (lists_filter (alarms_with airport day slots) (is_actual_on day) slots
    (λ slot off. mapped_none (alarm airport day slot) slots (λ other. no_alarm airport day slot other off)))

-- the slots of the loop are actual slots of the visits
pub actual_listed : (airport : AirportParts) (visits : List Visit) (day : ℕ) (slots : List Slot) (k : ℕ) (d : Slot) → slots ≡ filter (is_actual_on day) (slots_of airport visits) → k < length slots
    → Contains (slots_of airport visits) (get_or slots k d) × ((get_or slots k d).actual ≡ true)
actual_listed airport visits day slots k d are inside =
    let slot = get_or slots k d in
    let listed : Contains (filter (is_actual_on day) (slots_of airport visits)) slot = subst (λ (xs : List Slot). Contains xs slot) are (Contains-get_or slots k d inside) in
    let passed = filter_passed (is_actual_on day) (slots_of airport visits) slot listed in
    (passed.0, first_of slot.actual (is_held_at_some (minutes_of_day day) slot) passed.1)
  where
    first_of : (a b : Bool) → (a && b) ≡ true → a ≡ true
    first_of true b e = refl
    first_of false b e = absurd (cc)

-- a slot of the plan has a stand and a type of the airport
pub plan_slot_of : (airport a : AirportParts) (index : List StandSlots) (visits : List Visit) (slot : Slot) → airport ≡ a → IsClear a index [] → IsIndexed a index visits
    → Contains (slots_of airport visits) slot → IsSlotOf airport slot
plan_slot_of airport a index visits slot same clear indexed listed =
    let there : Contains (slots_of a visits) slot = subst (λ (b : AirportParts). Contains (slots_of b visits) slot) same listed in
    let is : IsSlotOf a slot = All-contains (IsSlotOf a) (all_slots index) slot clear.slots ((indexed.slots slot).1 there) in
    subst (λ (b : AirportParts). IsSlotOf b slot) (sym same) is

-- the items that pass a test, item after item
pub filter_is : {X : Type 0} (p : X → Bool) (xs : List X) → flat_map (λ x. cond (p x) (x ∷ []) []) xs ≡ filter p xs
filter_is p [] = refl
filter_is {X} p (x ∷ xs) = one (p x) ∙ ap (λ (rest : List X). cond (p x) (x ∷ rest) rest) (filter_is p xs)
  where
    one : (b : Bool) → cond b (x ∷ []) [] ++ flat_map (λ y. cond (p y) (y ∷ []) []) xs ≡ cond b (x ∷ flat_map (λ y. cond (p y) (y ∷ []) []) xs) (flat_map (λ y. cond (p y) (y ∷ []) []) xs)
    one true = refl
    one false = refl

-- what is put last for one actual slot
pub alarms_more : (airport a : AirportParts) (index : List StandSlots) (visits : List Visit) (day more : ℕ) (slot : Slot) (clashes kept old new : List Clash) → airport ≡ a → IsClear a index []
    → IsIndexed a index visits → by_part (all_slots index) ≡ slots_of a visits → Contains (slots_of airport visits) slot → slot.actual ≡ true → more ≡ day_length
    → clashes ≡ clashes_within airport slot (day_start day) more (by_part (all_slots index)) → kept ≡ filter is_in_order clashes → new ≡ old ++ kept → new ≡ old ++ alarms_with airport day (slots_of airport visits) slot
alarms_more airport a index visits day more slot clashes kept old new same clear indexed ordered listed actual long are left then =
    let all : IsSound a (all_slots index) = subst (IsSound a) (others_none (all_slots index)) clear.sound in
    let sound_there : IsSound a (slots_of a visits) = λ p q m rule in_p in_q is. all p q m rule ((indexed.slots p).1 in_p) ((indexed.slots q).1 in_q) is in
    let sound : IsSound airport (slots_of airport visits) = subst (λ (b : AirportParts). IsSound b (slots_of b visits)) (sym same) sound_there in
    let slots : by_part (all_slots index) ≡ slots_of airport visits = ordered ∙ ap (λ (b : AirportParts). slots_of b visits) (sym same) in
    then ∙ ap (λ (ys : List Clash). old ++ ys)
    (left ∙ (ap (filter is_in_order) (are ∙ (ap (λ (n : ℕ). clashes_within airport slot (day_start day) n (by_part (all_slots index))) long ∙ ap (clashes_within airport slot (day_start day) day_length) slots))
    ∙ alarms_of airport day (slots_of airport visits) slot sound listed actual))
