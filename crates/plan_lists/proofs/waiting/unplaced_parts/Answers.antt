use Rattle.std.proofs.Common.{◌≡◌, ◌∙◌, IfOk, ap, map, rules}
use Rattle.std.specs.Prelude.{All, None}
use Rattle.std.specs.List.{flat_map}
use Rattle.std.proofs.lemmas.List.Elements.{All-same}
use Rattle.std.proofs.lemmas.List.Sorted.{answers_always}
use Rattle.std.proofs.lemmas.Result.{IfOk-weaker}
use Rattle.visit_book.specs.Places.{stand_of}
use Rattle.visit_book.specs.declared.visits.PartRow.{PartRow}
use Rattle.plan_lists.specs.declared.waiting.Waiting.{Waiting}
use Rattle.plan_lists.specs.Unplaced.{unplaced_parts, waiting_of}
use Rattle.plan_lists.proofs.OnStands.{waiting_are_nowhere}
use Rattle.plan_lists.proofs.Ranks.{key_of, sorted_falls, sorted_waiting}
use Rattle.plan_lists.proofs.waiting.unplaced_parts.Goals as goal

pub returns : goal.returns
returns c =
    let plan = c.args.plan.now.plan in
    let sorted = c.sort_unstable_by_key.ensures.sorted key_of (answers_always _ _ _ (λ f a r g h. search rules)) in
    let is = sorted_waiting plan.visits c.in_ok-parts.parts.items c.sort_unstable_by_key.new.self.items c.visits.ensures.plan.numbered
    (c.in_ok-parts.ensures.are ∙ ap (flat_map waiting_of) c.visits.ensures.value) c.sort_unstable_by_key.ensures.permutation (sorted_falls _ sorted) in
    let rows_are : IfOk c.rows_of.result (λ rows. rows ≡ unplaced_parts plan) = IfOk-weaker c.rows_of.result _ (λ rows. rows ≡ unplaced_parts plan)
    (λ rows h. h ∙ ap (map (λ (part : Waiting). part.row)) (c.as_slice.ensures.value ∙ is)) c.rows_of.ensures.are in
    let P : PartRow → Type 0 = λ row. stand_of row.part.place ≡ None in
    record {
      unplaced = rows_are;
      nowhere = IfOk-weaker c.rows_of.result _ (λ rows. All P rows) (λ rows h. All-same P rows (unplaced_parts plan) h (waiting_are_nowhere plan)) rows_are;
    }
