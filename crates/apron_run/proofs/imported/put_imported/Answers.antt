use Rattle.std.proofs.Common.{◌≡◌, ◌∷◌, [], ℕ, List, Option, sym, subst}
use Rattle.std.specs.Prelude.{IsOk, MatchOption}
use Rattle.apron_base.specs.Ends.{Puts}
use Rattle.apron_check.proofs.Puts.{cut_more, puts_both, puts_cut}
use Rattle.apron_run.specs.Imported.{imported_text}
use Rattle.apron_run.proofs.Ends.{imported_line}
use Rattle.apron_run.proofs.imported.put_imported.Goals as goal

pub returns-in_err-put_import_text-in_default : goal.returns-in_err-put_import_text-in_default
returns-in_err-put_import_text-in_default g c =
    let old = g.W.Sink.state c.args.sink.now in
    let new = g.W.Sink.state c.put_import_text.new.sink in
    let result = c.from_residual.result in
    record {
      puts = subst (λ (line : Option (List ℕ)). MatchOption line ((new ≡ old) × IsOk result) (λ text. Puts old new result text))
          (sym (imported_line c.args.imported.now c.in_default.not-Spent))
          (puts_cut old new result _ c.from_residual.ensures.0 (cut_more old new (imported_text c.args.imported.now) (10 ∷ []) c.in_err-put_import_text-in_default.ensures.puts));
    }

pub returns-in_ok-put_import_text-in_default : goal.returns-in_ok-put_import_text-in_default
returns-in_ok-put_import_text-in_default g c =
    let old = g.W.Sink.state c.args.sink.now in
    let new = g.W.Sink.state c.put.new.self in
    let result = c.put.result in
    record {
      puts = subst (λ (line : Option (List ℕ)). MatchOption line ((new ≡ old) × IsOk result) (λ text. Puts old new result text))
          (sym (imported_line c.args.imported.now c.in_default.not-Spent))
          (puts_both old (g.W.Sink.state c.put_import_text.new.sink) new result (imported_text c.args.imported.now) (10 ∷ []) c.in_ok-put_import_text-in_default.ensures.puts c.put.ensures.puts);
    }
