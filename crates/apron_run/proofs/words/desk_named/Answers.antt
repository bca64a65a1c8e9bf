use Rattle.std.proofs.Common.{◌≡◌, ℕ, List, Option, None, Some, sym}
use Rattle.std.proofs.lemmas.Bool.{false_from_ne_true}
use Rattle.std.specs.Option.{SomeIff}
use Rattle.std.specs.Prelude.{IfSome, is_some}
use Rattle.apron_base.specs.Name.{IsName, is_name}
use Rattle.apron_base.proofs.NameTests.{name_decides}
use Rattle.apron_run.proofs.words.desk_named.Goals as goal

is_one : (text : List ℕ) (name : Option (List ℕ)) → SomeIff name (IsName text) text → is_some name ≡ is_name text
is_one text None none = sym (false_from_ne_true (is_name text) (λ t. none ((name_decides text).0 t)))
is_one text (Some name) (named, is) = sym ((name_decides text).1 named)

same_text : (text : List ℕ) (name : Option (List ℕ)) → SomeIff name (IsName text) text → IfSome name (λ n. n ≡ text)
same_text text None none = tt
same_text text (Some name) (named, is) = is

pub returns-clause-some : goal.returns-clause-some
returns-clause-some c = is_one c.args.text.now c.new.result c.new.ensures.form

pub returns-clause-same : goal.returns-clause-same
returns-clause-same c = same_text c.args.text.now c.new.result c.new.ensures.form
