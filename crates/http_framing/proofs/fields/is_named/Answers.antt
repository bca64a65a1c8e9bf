use Rattle.std.proofs.lemmas.Bool.Decides.{same_from_decides}
use Rattle.std.proofs.lemmas.Slice.Eq.{bytes_eq-Decides}
use Rattle.http_framing.specs.Fields.{is_same_name}
use Rattle.http_framing.proofs.fields.is_named.Goals as goal

pub returns : goal.returns
unfolding is_same_name
returns c = record { same = same_from_decides _ _ c.eq_ignore_ascii_case.ensures.test (bytes_eq-Decides _ _) }
