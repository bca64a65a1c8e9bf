use Rattle.std.proofs.Common.{◌∷◌, []}
use Rattle.apron_check.proofs.Puts.{cut_more, puts_both, puts_cut}
use Rattle.apron_run.specs.Unusable.{unusable_text}
use Rattle.apron_run.proofs.unusable.put_unusable.Goals as goal

pub returns-in_err-put_why : goal.returns-in_err-put_why
returns-in_err-put_why g c =
    let old = g.W.Sink.state c.args.sink.now in
    let new = g.W.Sink.state c.put_why.new.sink in
    record { puts = puts_cut old new c.from_residual.result _ c.from_residual.ensures.0 (cut_more old new (unusable_text c.args.why.now) (10 ∷ []) c.in_err-put_why.ensures.puts) }

pub returns : goal.returns
returns g c = record {
  puts = puts_both (g.W.Sink.state c.args.sink.now) (g.W.Sink.state c.put_why.new.sink) (g.W.Sink.state c.put.new.self) c.put.result (unusable_text c.args.why.now) (10 ∷ []) c.in_ok-put_why.ensures.puts c.put.ensures.puts;
}
