use Rattle.std.proofs.Common.{rules, ◌≡◌, ◌∙◌, ◌<◌, ◌≤◌, ℕ, List, true, false, sym, subst, arith, ltb, length, take, drop, ◌++◌, ◌∷◌}
use Rattle.std.specs.List.{AllWithin}
use Rattle.std.proofs.lemmas.Bool.Decides.{nat_tests}
use Rattle.std.proofs.lemmas.List.Sorted.{IsPartitionPoint-from_clause, IsPartitionedBy-ltb}
use Rattle.apron_base.specs.declared.slot.Slot.{Slot}
use Rattle.stand_index.specs.Slots.{IsByStart}
use Rattle.stand_index.proofs.Order.{insert_by_start_at}
use Rattle.stand_index.proofs.slot_list.insert_by_start.Goals as goal

started : (m n : ℕ) → ltb m n ≡ true → m < n
started m n h = grind (arith, nat_tests)

not_started : (m n : ℕ) → ltb m n ≡ false → n ≤ m
not_started m n h = grind (arith, nat_tests)

pub returns-clause-items : goal.returns-clause-items
returns-clause-items c =
    let xs = c.args.slots.now.items in
    let slot = c.args.slot in
    let same : c.deref.result.now ≡ xs = c.deref.ensures.value in
    let order : IsByStart c.deref.result.now = subst IsByStart (sym same) c.requires.order in
    let point = IsPartitionPoint-from_clause (λ (x : Slot). ltb x.from slot.from) _ _ c.partition_point-place.ensures.partitioned (IsPartitionedBy-ltb (λ (x : Slot). x.from) c.deref.result.now slot.from order) (λ a r q k. search rules) in
    let i = c.partition_point-place.result in
    let before : AllWithin (λ (other : Slot). other.from < slot.from) xs 0 i =
    subst (λ (ys : List Slot). AllWithin (λ (other : Slot). other.from < slot.from) ys 0 i) same (λ k d low high. started _ _ (point.0 k d low high)) in
    let after : AllWithin (λ (other : Slot). slot.from ≤ other.from) xs i (length xs) =
    subst (λ (ys : List Slot). AllWithin (λ (other : Slot). slot.from ≤ other.from) ys i (length ys)) same (λ k d low high. not_started _ _ (point.1 k d low high)) in
    let inside : i ≤ length xs = subst (λ (ys : List Slot). i ≤ length ys) same c.partition_point-place.ensures.bound in
    let put : c.insert-put.new.self.items ≡ take i xs ++ slot ∷ drop i xs = rw c.unwrap.ensures at c.insert-put.ensures.items in
    put ∙ insert_by_start_at slot xs i inside before after
