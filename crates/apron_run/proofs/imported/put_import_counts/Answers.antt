use Rattle.std.proofs.Common.{◌++◌, ℕ, List}
use Rattle.std.specs.Prelude.{codes, decimal}
use Rattle.apron_check.proofs.Puts.{cut_more, puts_both, puts_cut}
use Rattle.apron_run.proofs.imported.put_import_counts.Goals as goal

pub returns-in_err-put_number : goal.returns-in_err-put_number
returns-in_err-put_number g c =
    let old = g.W.Sink.state c.args.sink.now in
    let new = g.W.Sink.state c.put_number.new.sink in
    let added : List ℕ = codes "added " ++ decimal c.args.added in
    let present : List ℕ = codes " present " ++ decimal c.args.present in
    record { puts = puts_cut old new c.from_residual.result _ c.from_residual.ensures.0 (cut_more old new added present c.in_err-put_number.ensures.puts) }

pub returns : goal.returns
returns g c =
    let added : List ℕ = codes "added " ++ decimal c.args.added in
    let present : List ℕ = codes " present " ++ decimal c.args.present in
    record {
      puts = puts_both (g.W.Sink.state c.args.sink.now) (g.W.Sink.state c.put_number.new.sink) (g.W.Sink.state c.put_number-2.new.sink) c.put_number-2.result added present
          c.in_ok-put_number.ensures.puts c.put_number-2.ensures.puts;
    }
