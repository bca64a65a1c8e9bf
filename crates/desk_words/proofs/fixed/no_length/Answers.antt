use Rattle.std.proofs.Common.{refl}
use Rattle.std.specs.Fmt.{digits}
use Rattle.serde_json.proofs.OnLiterals.{serde_json_on_literals}
use Rattle.desk_words.specs.Fixed.{no_length_text}
use Rattle.desk_words.proofs.fixed.no_length.Goals as goal

pub returns : goal.returns
unfolding digits serde_json_on_literals no_length_text
returns c = record { text = refl }
