use Rattle.std.proofs.Common.{◌≡◌, ◌∙◌, ◌<◌, ◌+◌, ◌-◌, ◌++◌, ◌∷◌, [], ℕ, List, Option, Some, None, take, take_all, length, slice_index_or, refl, sym, ap, append_assoc, append-nil}
use Rattle.std.specs.Prelude.{filter_map, option_to_list}
use Rattle.std.proofs.lemmas.List.{take_more}
use Rattle.std.proofs.lemmas.List.Elements.{filter_map-append}
use Rattle.apron_base.specs.declared.slot.Slot.{Slot}
use Rattle.clash_check.specs.Meetings.{clash_within, clashes_within}
use Rattle.clash_check.proofs.clashes.push_clashes.Goals as goal

of_one : {X Y : Type 0} (h : X → Option Y) (x : X) (found : Option Y) → h x ≡ found → filter_map h (x ∷ []) ≡ option_to_list found
of_one h x (Some y) is = rw is refl
of_one h x None is = rw is refl

-- one more item of a list
one_more : {X Y : Type 0} (h : X → Option Y) (old : List Y) (xs : List X) (i : ℕ) (d : X) (before after : List Y) (found : Option Y) → i < length xs → before ≡ old ++ filter_map h (take i xs)
    → found ≡ h (slice_index_or xs i d) → after ≡ before ++ option_to_list found → after ≡ old ++ filter_map h (take (i + 1) xs)
one_more h old xs i d before after found within so_far here then =
    rw (then, so_far, here, take_more xs i d within, filter_map-append h (take i xs) (slice_index_or xs i d ∷ []), of_one h (slice_index_or xs i d) (h (slice_index_or xs i d)) refl)
    (append_assoc old (filter_map h (take i xs)) (option_to_list (h (slice_index_or xs i d))))

pub loop-other-init : goal.loop-other-init
loop-other-init c = sym (append-nil c.args.clashes.now.items)

pub loop-other-preserved : goal.loop-other-preserved
loop-other-preserved c =
    one_more (clash_within c.args.airport.now c.args.slot.now c.args.from (c.args.end - c.args.from)) c.args.clashes.now.items c.args.others.now c.loop-other.other-index _ c.loop-other.clashes.items c.push_found.new.clashes.items _ c.loop-other-test.true
    c.loop-other.invariant c.clash_within.ensures.is c.in_ok-push_found.ensures.pushed

pub returns : goal.returns
returns c = record {
  clashes = c.loop-other.invariant ∙ ap (λ (xs : List Slot). c.args.clashes.now.items ++ clashes_within c.args.airport.now c.args.slot.now c.args.from (c.args.end - c.args.from) xs) (take_all c.loop-other.other-index c.args.others.now c.loop-other-test.false);
}
