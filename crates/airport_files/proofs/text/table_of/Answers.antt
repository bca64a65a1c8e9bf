use Rattle.std.proofs.Common.{◌∙◌}
use Rattle.airport_files.proofs.Documents.{document-text, document-no_text}
use Rattle.airport_files.proofs.text.table_of.Goals as goal

pub returns-in_default-clause-refused : goal.returns-in_default-clause-refused
returns-in_default-clause-refused c _ = document-no_text c.args.bytes.now c.in_default.ensures.cases.0

pub returns-in-Ok-table_from_str-clause-ok : goal.returns-in-Ok-table_from_str-clause-ok
returns-in-Ok-table_from_str-clause-ok c =
    let text = c.in-Ok.ensures.cases in
    document-text c.args.bytes.now text.1 ∙ rw text.0 at c.in-Ok-table_from_str.ensures.ok
