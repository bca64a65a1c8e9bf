use Rattle.std.proofs.Common.{sym, ◌∙◌, true≢false}
use Rattle.std.proofs.lemmas.Str.{is_utf8-from_IsUtf8}
use Rattle.desk_bodies.specs.Fields.{body_data}
use Rattle.desk_bodies.proofs.Facts.{body_data_none}
use Rattle.desk_bodies.proofs.fields.read_json.Goals as goal

pub returns-in-Ok-clause-ok : goal.returns-in-Ok-clause-ok
unfolding body_data
returns-in-Ok-clause-ok c = let h = c.in-Ok.ensures.ok in rw (is_utf8-from_IsUtf8 _ h.0) h.1

pub returns-else-is_memory-clause-form : goal.returns-else-is_memory-clause-form
returns-else-is_memory-clause-form c _ =
    body_data_none _ (c.in-Err.ensures.err (λ e. true≢false (sym (c.is_memory.ensures.1 e) ∙ c.if-is_memory.false)))
