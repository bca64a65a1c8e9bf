use Rattle.std.proofs.Common.{◌≡◌, length, ap, sym, ◌∙◌}
use Rattle.std.proofs.lemmas.Bool.{and_parts, and_from}
use Rattle.std.specs.Prelude.{nat_le}
use Rattle.apron_base.specs.Name.{is_name}
use Rattle.apron_base.proofs.NameTests.{name_decides}
use Rattle.mvt_grammar.proofs.readable.is_registration.Goals as goal

pub returns : goal.returns
returns c =
    let name = c.args.name.now in
    let same : nat_le (length c.bytes.result.now) 10 ≡ nat_le (length name) 10 = ap (λ t. nat_le (length t) 10) c.bytes.ensures.value in
    record {
      is = (
        λ few. and_from (is_name name) (nat_le (length name) 10) ((name_decides name).1 c.bytes.ensures.name) (sym same ∙ few),
        λ h. same ∙ (and_parts (is_name name) (nat_le (length name) 10) h).1,
      );
    }
