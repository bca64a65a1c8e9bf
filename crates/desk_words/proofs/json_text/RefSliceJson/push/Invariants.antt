use Rattle.std.proofs.Common.{◌≡◌, ◌++◌, drop, map, nat_lt}
use Rattle.serde_json.specs.Data.{array}
use Rattle.serde_json.specs.View.{items_of}
use Rattle.serde_json.specs.Written.{compact_text, items_text}
use Rattle.desk_words.proofs.json_text.RefSliceJson.push.Given as goal

-- what is written and the items that are left make up the whole
abbrev pub invariant-loop-i : goal.invariant-loop-i
invariant-loop-i g l =
    l.bytes.items ++ items_text (nat_lt 0 l.i) (items_of (map (g.T.Json.json l.at) (drop l.i l.self.now)))
    ≡ l.fn.bytes.items ++ compact_text (array (items_of (map (g.T.Json.json l.at) l.self.now)))
