-- Lists in order of numbers, as sorts by keys leave them.
use Rattle.std.proofs.Common.{◌≡◌, ◌∙◌, ℕ, Bool, true, false, cond, ◌&&◌, ◌||◌, ◌==◌, nat_lt, List, [], ◌∷◌, refl, ap, length, map}
use Rattle.std.specs.List.Sorted.{IsSortedBy, IsSortedByKey, IsStableBy, IsStableByKey}
use Rattle.std.specs.Ordering.{nat_cmp, is_lt, ordering_then}
use Rattle.std.specs.declared.cmp.Ordering.{Ordering}
use Rattle.std.specs.declared.cmp.Ordering.TheVariants.{Less, Equal, Greater}
use Rattle.apron_base.specs.declared.numbers.PartId.{PartId}
use Rattle.apron_base.specs.Sorting.{insert_by, sorted_by}
use Rattle.apron_rules.specs.declared.rules.Clash.{Clash}
use Rattle.visit_book.specs.Places.{stand_of}
use Rattle.bump_core.specs.Ranks.{is_lower}
use Rattle.visit_book.specs.declared.visits.PartRow.{PartRow}
use Rattle.plan_lists.proofs.Ranks.{order_by}
use Rattle.wall_chart.specs.declared.alarms.Alarm.{Alarm}
use Rattle.wall_chart.specs.Alarms.{alarm_order}
use Rattle.wall_chart.specs.KeptAlarms.{clash_of}
use Rattle.wall_chart.specs.Order.{in_order, lower_by}
use Rattle.wall_chart.specs.Parts.{part_order, stand_number}
use Rattle.wall_chart.proofs.Sorted.{sorted_is}

insert_alike : {X : Type 0} (lt before : X → X → Bool) → ((x y : X) → lt x y ≡ before x y) → (item : X) (xs : List X) → insert_by lt item xs ≡ insert_by before item xs
insert_alike lt before same item [] = refl
insert_alike {X} lt before same item (x ∷ xs) =
    ap (λ (b : Bool). cond b (x ∷ insert_by lt item xs) (item ∷ x ∷ xs)) (same x item)
    ∙ ap (λ (ys : List X). cond (before x item) (x ∷ ys) (item ∷ x ∷ xs)) (insert_alike lt before same item xs)

sorted_alike : {X : Type 0} (lt before : X → X → Bool) → ((x y : X) → lt x y ≡ before x y) → (xs : List X) → sorted_by lt xs ≡ sorted_by before xs
sorted_alike lt before same [] = refl
sorted_alike lt before same (x ∷ xs) = insert_alike lt before same x (sorted_by lt xs) ∙ ap (insert_by before x) (sorted_alike lt before same xs)

-- a stable sort by an order that compares these numbers, as many of each item, leaves the list in
-- order of them
pub sorted_in_order : {X : Type 0} (numbers : X → List ℕ) (n : ℕ) → ((x : X) → length (numbers x) ≡ n) → (lt : X → X → Bool) → ((x y : X) → lt x y ≡ is_lower (numbers x) (numbers y))
    → (xs ys : List X) → IsSortedBy lt ys → IsStableBy lt xs ys → ys ≡ in_order numbers xs
unfolding in_order
sorted_in_order numbers n long lt same xs ys up stable = sorted_is lt (order_by numbers n long lt same) xs ys up stable ∙ sorted_alike lt (lower_by numbers) same xs

-- one number is compared, and then what follows
then_by : (p q : Bool) (rest : Ordering) → is_lt (ordering_then (cond p Less (cond q Equal Greater)) rest) ≡ (p || (q && is_lt rest))
then_by true q rest = refl
then_by false true rest = refl
then_by false false rest = refl

then_lower : (m n : ℕ) (rest : Ordering) (ms ns : List ℕ) → is_lt rest ≡ is_lower ms ns → is_lt (ordering_then (nat_cmp m n) rest) ≡ is_lower (m ∷ ms) (n ∷ ns)
then_lower m n rest ms ns e = then_by (nat_lt m n) (m == n) rest ∙ ap (λ (b : Bool). nat_lt m n || ((m == n) && b)) e

last_by : (p q : Bool) → is_lt (cond p Less (cond q Equal Greater)) ≡ (p || (q && false))
last_by true q = refl
last_by false true = refl
last_by false false = refl

in_turn : (first second third : Ordering) → ordering_then (ordering_then first second) third ≡ ordering_then first (ordering_then second third)
in_turn Less second third = refl
in_turn Equal second third = refl
in_turn Greater second third = refl

-- parts by their visits and their numbers
abbrev pub compare_parts : PartId → PartId → Ordering
compare_parts part other = ordering_then (nat_cmp part.visit.0 other.visit.0) (nat_cmp part.part other.part)

parts_lower : (part other : PartId) → is_lt (compare_parts part other) ≡ is_lower (part.visit.0 ∷ part.part ∷ []) (other.visit.0 ∷ other.part ∷ [])
parts_lower part other = then_lower part.visit.0 other.visit.0 (nat_cmp part.part other.part) (part.part ∷ []) (other.part ∷ []) (last_by (nat_lt part.part other.part) (part.part == other.part))

-- the keys of rows, and of clashes
abbrev pub RowKey : Type 0
RowKey = ℕ × ℕ × PartId

abbrev pub row_key : PartRow → RowKey
row_key row = (stand_number (stand_of row.part.place), row.part.from, row.id)

abbrev pub compare_rows : RowKey → RowKey → Ordering
compare_rows key other = ordering_then (ordering_then (nat_cmp key.0 other.0) (nat_cmp key.1 other.1)) (compare_parts key.2 other.2)

rows_lower : (row other : PartRow) → is_lt (compare_rows (row_key row) (row_key other)) ≡ is_lower (part_order row) (part_order other)
rows_lower row other =
    let stand = stand_number (stand_of row.part.place) in
    let stand2 = stand_number (stand_of other.part.place) in
    let rest = compare_parts row.id other.id in
    ap is_lt (in_turn (nat_cmp stand stand2) (nat_cmp row.part.from other.part.from) rest)
    ∙ then_lower stand stand2 (ordering_then (nat_cmp row.part.from other.part.from) rest)
    (row.part.from ∷ row.id.visit.0 ∷ row.id.part ∷ []) (other.part.from ∷ other.id.visit.0 ∷ other.id.part ∷ [])
    (then_lower row.part.from other.part.from rest (row.id.visit.0 ∷ row.id.part ∷ []) (other.id.visit.0 ∷ other.id.part ∷ []) (parts_lower row.id other.id))

-- a stable sort of rows
pub sorted_rows : (rows sorted : List PartRow) → IsSortedByKey row_key compare_rows sorted → IsStableByKey row_key compare_rows rows sorted → sorted ≡ in_order part_order rows
sorted_rows rows sorted up stable =
    sorted_in_order part_order 4 (λ row. refl) (λ row other. is_lt (compare_rows (row_key row) (row_key other))) rows_lower rows sorted up stable

abbrev pub ClashKey : Type 0
ClashKey = ℕ × PartId × PartId

abbrev pub clash_key : Clash → ClashKey
clash_key clash = (clash.minute, clash.a, clash.b)

abbrev pub compare_clashes : ClashKey → ClashKey → Ordering
compare_clashes key other = ordering_then (ordering_then (nat_cmp key.0 other.0) (compare_parts key.1 other.1)) (compare_parts key.2 other.2)

clashes_lower : (clash other : Clash) → is_lt (compare_clashes (clash_key clash) (clash_key other)) ≡ is_lower (alarm_order clash) (alarm_order other)
clashes_lower clash other =
    let last = compare_parts clash.b other.b in
    let first = nat_cmp clash.a.visit.0 other.a.visit.0 in
    let second = nat_cmp clash.a.part other.a.part in
    ap is_lt (in_turn (nat_cmp clash.minute other.minute) (compare_parts clash.a other.a) last ∙ ap (ordering_then (nat_cmp clash.minute other.minute)) (in_turn first second last))
    ∙ then_lower clash.minute other.minute (ordering_then first (ordering_then second last))
    (clash.a.visit.0 ∷ clash.a.part ∷ clash.b.visit.0 ∷ clash.b.part ∷ []) (other.a.visit.0 ∷ other.a.part ∷ other.b.visit.0 ∷ other.b.part ∷ [])
    (then_lower clash.a.visit.0 other.a.visit.0 (ordering_then second last) (clash.a.part ∷ clash.b.visit.0 ∷ clash.b.part ∷ []) (other.a.part ∷ other.b.visit.0 ∷ other.b.part ∷ [])
    (then_lower clash.a.part other.a.part last (clash.b.visit.0 ∷ clash.b.part ∷ []) (other.b.visit.0 ∷ other.b.part ∷ []) (parts_lower clash.b other.b)))

-- the key of an alarm is that of its clash
abbrev pub alarm_key : Alarm → ClashKey
alarm_key alarm = clash_key (clash_of alarm)

mapped_first : {X Y : Type 0} (f : X → Y) (b : Bool) (xs ys : List X) → map f (cond b xs ys) ≡ cond b (map f xs) (map f ys)
mapped_first f true xs ys = refl
mapped_first f false xs ys = refl

-- an order of what a function makes of items is kept by the function
insert_map : {X Y : Type 0} (f : X → Y) (lt : Y → Y → Bool) (item : X) (xs : List X) → map f (insert_by (λ x y. lt (f x) (f y)) item xs) ≡ insert_by lt (f item) (map f xs)
insert_map f lt item [] = refl
insert_map {X} {Y} f lt item (x ∷ xs) =
    mapped_first f (lt (f x) (f item)) (x ∷ insert_by (λ y z. lt (f y) (f z)) item xs) (item ∷ x ∷ xs)
    ∙ ap (λ (ys : List Y). cond (lt (f x) (f item)) (f x ∷ ys) (f item ∷ f x ∷ map f xs)) (insert_map f lt item xs)

sorted_map : {X Y : Type 0} (f : X → Y) (lt : Y → Y → Bool) (xs : List X) → map f (sorted_by (λ x y. lt (f x) (f y)) xs) ≡ sorted_by lt (map f xs)
sorted_map f lt [] = refl
sorted_map f lt (x ∷ xs) = insert_map f lt x (sorted_by (λ y z. lt (f y) (f z)) xs) ∙ ap (insert_by lt (f x)) (sorted_map f lt xs)

in_order_map : {X Y : Type 0} (f : X → Y) (numbers : Y → List ℕ) (xs : List X) → map f (in_order (λ x. numbers (f x)) xs) ≡ in_order numbers (map f xs)
unfolding in_order
in_order_map f numbers xs = sorted_map f (lower_by numbers) xs

-- a stable sort of alarms
pub sorted_alarms : (alarms sorted : List Alarm) → IsSortedByKey alarm_key compare_clashes sorted → IsStableByKey alarm_key compare_clashes alarms sorted
    → map clash_of sorted ≡ in_order alarm_order (map clash_of alarms)
sorted_alarms alarms sorted up stable =
    ap (λ (found : List Alarm). map clash_of found)
    (sorted_in_order (λ alarm. alarm_order (clash_of alarm)) 5 (λ alarm. refl) (λ alarm other. is_lt (compare_clashes (alarm_key alarm) (alarm_key other)))
    (λ alarm other. clashes_lower (clash_of alarm) (clash_of other)) alarms sorted up stable)
    ∙ in_order_map clash_of alarm_order alarms
