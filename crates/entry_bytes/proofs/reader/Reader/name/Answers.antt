use Rattle.std.proofs.Common.{Some, None, Err, ap, sym, ◌∙◌}
use Rattle.entry_bytes.specs.declared.faults.EntryFault.TheVariants.{BadField}
use Rattle.entry_bytes.specs.Readings.{RestOfEntry}
use Rattle.entry_bytes.proofs.Fields.{named}
use Rattle.entry_bytes.proofs.reader.Reader.name.Goals as goal

pub returns-in-Some : goal.returns-in-Some
returns-in-Some c = record { is = named c.args.self.now c.text.new.self c.in_ok-text.text.now (Some c.in-Some.name) c.in_ok-text.ensures.is c.in-Some.ensures.form }

pub returns-in-None : goal.returns-in-None
returns-in-None c = record {
  is = named c.args.self.now c.text.new.self c.in_ok-text.text.now None c.in_ok-text.ensures.is c.in-None.ensures.form ∙ ap (λ (l : RestOfEntry). Err (BadField l.at)) (sym c.self.view_is);
}
