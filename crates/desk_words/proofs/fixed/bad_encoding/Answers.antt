use Rattle.std.proofs.Common.{refl}
use Rattle.std.specs.Fmt.{digits}
use Rattle.serde_json.proofs.OnLiterals.{serde_json_on_literals}
use Rattle.desk_words.specs.Fixed.{bad_encoding_text}
use Rattle.desk_words.proofs.fixed.bad_encoding.Goals as goal

pub returns : goal.returns
unfolding digits serde_json_on_literals bad_encoding_text
returns c = record { text = refl }
