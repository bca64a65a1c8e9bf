use Rattle.std.proofs.Common.{◌++◌, ℕ, List}
use Rattle.std.specs.Prelude.{codes, decimal}
use Rattle.apron_check.proofs.Puts.{cut_more, puts_both, puts_cut}
use Rattle.apron_run.proofs.print.put_upgraded.Goals as goal

pub returns-in_err-put_number : goal.returns-in_err-put_number
returns-in_err-put_number g c =
    let old = g.W.Sink.state c.args.sink.now in
    let new = g.W.Sink.state c.put_number.new.sink in
    let line : List ℕ = codes "upgraded " ++ decimal c.args.count in
    record { puts = puts_cut old new c.from_residual.result _ c.from_residual.ensures.0 (cut_more old new line (codes "\n") c.in_err-put_number.ensures.puts) }

pub returns : goal.returns
returns g c =
    let line : List ℕ = codes "upgraded " ++ decimal c.args.count in
    record {
      puts = puts_both (g.W.Sink.state c.args.sink.now) (g.W.Sink.state c.put_number.new.sink) (g.W.Sink.state c.put.new.self) c.put.result line (codes "\n") c.in_ok-put_number.ensures.puts c.put.ensures.puts;
    }
