use Rattle.std.proofs.Common.{◌++◌, ℕ, List}
use Rattle.std.specs.Prelude.{codes}
use Rattle.hex.specs.Hex.{encode_lower}
use Rattle.apron_check.proofs.Puts.{cut_more, puts_both, puts_cut}
use Rattle.apron_run.proofs.unusable.put_other_airport.Goals as goal

pub returns-in_err-put_both : goal.returns-in_err-put_both
returns-in_err-put_both g c =
    let old = g.W.Sink.state c.args.sink.now in
    let new = g.W.Sink.state c.put_both.new.sink in
    let kept : List ℕ = codes "journal: other airport " ++ encode_lower c.args.kept.now in
    let given : List ℕ = codes " " ++ encode_lower c.args.given.now in
    record { puts = puts_cut old new c.from_residual.result _ c.from_residual.ensures.0 (cut_more old new kept given (rw (← c.in_hex.ensures.text) c.in_err-put_both.ensures.puts)) }

pub returns : goal.returns
returns g c =
    let kept : List ℕ = codes "journal: other airport " ++ encode_lower c.args.kept.now in
    let given : List ℕ = codes " " ++ encode_lower c.args.given.now in
    record {
      puts = puts_both (g.W.Sink.state c.args.sink.now) (g.W.Sink.state c.put_both.new.sink) (g.W.Sink.state c.put_both-2.new.sink) c.put_both-2.result kept given
          (rw (← c.in_hex.ensures.text) c.in_ok-put_both.ensures.puts) (rw (← c.in_hex-2.ensures.text) c.put_both-2.ensures.puts);
    }
