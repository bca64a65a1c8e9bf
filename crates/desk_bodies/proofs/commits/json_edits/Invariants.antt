use Rattle.std.proofs.Common.{◌≡◌, map, drop, ◌++◌, option_map, vec_len}
use Rattle.serde_json.specs.View.{items_view}
use Rattle.desk_bodies.specs.Commits.{json_edits}
use Rattle.desk_bodies.specs.CommitsShown.{edit_shown}
use Rattle.desk_bodies.proofs.commits.json_edits.Given as goal

-- the edits so far, and then those of the values that are left, are all of them
abbrev pub invariant-loop-value : goal.invariant-loop-value
invariant-loop-value l = record {
  are : option_map (λ es. map edit_shown l.edits.items ++ es) (json_edits (items_view (drop l.value-index l.values)))
      ≡ json_edits (items_view l.values);
  count : vec_len l.edits ≡ l.value-index;
}
