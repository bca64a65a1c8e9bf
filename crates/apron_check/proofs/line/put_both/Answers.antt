use Rattle.apron_check.proofs.Puts.{cut_more, puts_both, puts_cut}
use Rattle.apron_check.proofs.line.put_both.Goals as goal

pub returns-in_err-put : goal.returns-in_err-put
returns-in_err-put g c =
    let old = g.W.Sink.state c.args.sink.now in
    let new = g.W.Sink.state c.put.new.self in
    record { puts = puts_cut old new c.from_residual.result _ c.from_residual.ensures.0 (cut_more old new c.args.head.now c.args.tail.now c.in_err-put.ensures.puts) }

pub returns : goal.returns
returns g c = record {
  puts = puts_both (g.W.Sink.state c.args.sink.now) (g.W.Sink.state c.put.new.self) (g.W.Sink.state c.put-2.new.self) c.put-2.result c.args.head.now c.args.tail.now c.in_ok-put.ensures.puts c.put-2.ensures.puts;
}
