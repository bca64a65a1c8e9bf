use Rattle.std.proofs.Common.{◌≡◌, ◌∙◌, ◌++◌, ℕ, List, length, ap, subst, false}
use Rattle.std.specs.Prelude.{codes, decimal}
use Rattle.apron_base.specs.Ends.{Wrote}
use Rattle.apron_base.proofs.Runs.{wrote_both}
use Rattle.apron_rules.specs.declared.parts.AirportParts.{AirportParts}
use Rattle.apron_check.proofs.Puts.{IsCut, cut_behind, cut_more, puts_both, puts_cut}
use Rattle.apron_check.proofs.line.put_counts.Goals as goal

pub returns-in_err-put_number : goal.returns-in_err-put_number
returns-in_err-put_number g c =
    let parts = c.args.airport.now in
    let stands : List ℕ = codes "ok: " ++ decimal (length parts.stands) in
    let types : List ℕ = codes " stands, " ++ decimal (length parts.types) in
    let days : List ℕ = codes " types, " ++ decimal parts.days in
    let stands_are : c.len.result ≡ length parts.stands = c.len.ensures.count ∙ ap (λ (p : AirportParts). length p.stands) c.parts-parts.ensures.value in
    let first : IsCut (g.W.Sink.state c.args.sink.now) (g.W.Sink.state c.put_number.new.sink) stands = subst (λ (n : ℕ). IsCut (g.W.Sink.state c.args.sink.now) (g.W.Sink.state c.put_number.new.sink) (codes "ok: " ++ decimal n)) stands_are c.in_err-put_number.ensures.puts in
    record {
      puts = puts_cut (g.W.Sink.state c.args.sink.now) (g.W.Sink.state c.put_number.new.sink) c.from_residual.result _ c.from_residual.ensures.0
          (cut_more (g.W.Sink.state c.args.sink.now) (g.W.Sink.state c.put_number.new.sink) ((stands ++ types) ++ days) (codes " days\n") (cut_more (g.W.Sink.state c.args.sink.now) (g.W.Sink.state c.put_number.new.sink) (stands ++ types) days (cut_more (g.W.Sink.state c.args.sink.now) (g.W.Sink.state c.put_number.new.sink) stands types first)));
    }

pub returns-in_err-put_number-2 : goal.returns-in_err-put_number-2
returns-in_err-put_number-2 g c =
    let parts = c.args.airport.now in
    let stands : List ℕ = codes "ok: " ++ decimal (length parts.stands) in
    let types : List ℕ = codes " stands, " ++ decimal (length parts.types) in
    let days : List ℕ = codes " types, " ++ decimal parts.days in
    let stands_are : c.len.result ≡ length parts.stands = c.len.ensures.count ∙ ap (λ (p : AirportParts). length p.stands) c.parts-parts.ensures.value in
    let first : Wrote false (g.W.Sink.state c.args.sink.now) (g.W.Sink.state c.put_number.new.sink) stands = subst (λ (n : ℕ). Wrote false (g.W.Sink.state c.args.sink.now) (g.W.Sink.state c.put_number.new.sink) (codes "ok: " ++ decimal n)) stands_are c.in_ok-put_number.ensures.puts in
    let types_are : c.len-2.result ≡ length parts.types = c.len-2.ensures.count ∙ ap (λ (p : AirportParts). length p.types) c.parts-parts.ensures.value in
    let second : IsCut (g.W.Sink.state c.put_number.new.sink) (g.W.Sink.state c.put_number-2.new.sink) types = subst (λ (n : ℕ). IsCut (g.W.Sink.state c.put_number.new.sink) (g.W.Sink.state c.put_number-2.new.sink) (codes " stands, " ++ decimal n)) types_are c.in_err-put_number-2.ensures.puts in
    record {
      puts = puts_cut (g.W.Sink.state c.args.sink.now) (g.W.Sink.state c.put_number-2.new.sink) c.from_residual-in_err-put_number-2.result _ c.from_residual-in_err-put_number-2.ensures.0
          (cut_more (g.W.Sink.state c.args.sink.now) (g.W.Sink.state c.put_number-2.new.sink) ((stands ++ types) ++ days) (codes " days\n") (cut_more (g.W.Sink.state c.args.sink.now) (g.W.Sink.state c.put_number-2.new.sink) (stands ++ types) days (cut_behind (g.W.Sink.state c.args.sink.now) (g.W.Sink.state c.put_number.new.sink) (g.W.Sink.state c.put_number-2.new.sink) stands types first second)));
    }

pub returns-in_err-put_number-3 : goal.returns-in_err-put_number-3
returns-in_err-put_number-3 g c =
    let parts = c.args.airport.now in
    let stands : List ℕ = codes "ok: " ++ decimal (length parts.stands) in
    let types : List ℕ = codes " stands, " ++ decimal (length parts.types) in
    let days : List ℕ = codes " types, " ++ decimal parts.days in
    let stands_are : c.len.result ≡ length parts.stands = c.len.ensures.count ∙ ap (λ (p : AirportParts). length p.stands) c.parts-parts.ensures.value in
    let first : Wrote false (g.W.Sink.state c.args.sink.now) (g.W.Sink.state c.put_number.new.sink) stands = subst (λ (n : ℕ). Wrote false (g.W.Sink.state c.args.sink.now) (g.W.Sink.state c.put_number.new.sink) (codes "ok: " ++ decimal n)) stands_are c.in_ok-put_number.ensures.puts in
    let types_are : c.len-2.result ≡ length parts.types = c.len-2.ensures.count ∙ ap (λ (p : AirportParts). length p.types) c.parts-parts.ensures.value in
    let second : Wrote false (g.W.Sink.state c.put_number.new.sink) (g.W.Sink.state c.put_number-2.new.sink) types = subst (λ (n : ℕ). Wrote false (g.W.Sink.state c.put_number.new.sink) (g.W.Sink.state c.put_number-2.new.sink) (codes " stands, " ++ decimal n)) types_are c.in_ok-put_number-2.ensures.puts in
    let days_are : c.parts-parts.result.now.days ≡ parts.days = ap (λ (p : AirportParts). p.days) c.parts-parts.ensures.value in
    let third : IsCut (g.W.Sink.state c.put_number-2.new.sink) (g.W.Sink.state c.put_number-3.new.sink) days = subst (λ (n : ℕ). IsCut (g.W.Sink.state c.put_number-2.new.sink) (g.W.Sink.state c.put_number-3.new.sink) (codes " types, " ++ decimal n)) days_are c.in_err-put_number-3.ensures.puts in
    let both = wrote_both false false (g.W.Sink.state c.args.sink.now) (g.W.Sink.state c.put_number.new.sink) (g.W.Sink.state c.put_number-2.new.sink) stands types first second in
    record {
      puts = puts_cut (g.W.Sink.state c.args.sink.now) (g.W.Sink.state c.put_number-3.new.sink) c.from_residual-in_err-put_number-3.result _ c.from_residual-in_err-put_number-3.ensures.0
          (cut_more (g.W.Sink.state c.args.sink.now) (g.W.Sink.state c.put_number-3.new.sink) ((stands ++ types) ++ days) (codes " days\n") (cut_behind (g.W.Sink.state c.args.sink.now) (g.W.Sink.state c.put_number-2.new.sink) (g.W.Sink.state c.put_number-3.new.sink) (stands ++ types) days both third));
    }

pub returns : goal.returns
returns g c =
    let parts = c.args.airport.now in
    let stands : List ℕ = codes "ok: " ++ decimal (length parts.stands) in
    let types : List ℕ = codes " stands, " ++ decimal (length parts.types) in
    let days : List ℕ = codes " types, " ++ decimal parts.days in
    let stands_are : c.len.result ≡ length parts.stands = c.len.ensures.count ∙ ap (λ (p : AirportParts). length p.stands) c.parts-parts.ensures.value in
    let first : Wrote false (g.W.Sink.state c.args.sink.now) (g.W.Sink.state c.put_number.new.sink) stands = subst (λ (n : ℕ). Wrote false (g.W.Sink.state c.args.sink.now) (g.W.Sink.state c.put_number.new.sink) (codes "ok: " ++ decimal n)) stands_are c.in_ok-put_number.ensures.puts in
    let types_are : c.len-2.result ≡ length parts.types = c.len-2.ensures.count ∙ ap (λ (p : AirportParts). length p.types) c.parts-parts.ensures.value in
    let second : Wrote false (g.W.Sink.state c.put_number.new.sink) (g.W.Sink.state c.put_number-2.new.sink) types = subst (λ (n : ℕ). Wrote false (g.W.Sink.state c.put_number.new.sink) (g.W.Sink.state c.put_number-2.new.sink) (codes " stands, " ++ decimal n)) types_are c.in_ok-put_number-2.ensures.puts in
    let days_are : c.parts-parts.result.now.days ≡ parts.days = ap (λ (p : AirportParts). p.days) c.parts-parts.ensures.value in
    let third : Wrote false (g.W.Sink.state c.put_number-2.new.sink) (g.W.Sink.state c.put_number-3.new.sink) days = subst (λ (n : ℕ). Wrote false (g.W.Sink.state c.put_number-2.new.sink) (g.W.Sink.state c.put_number-3.new.sink) (codes " types, " ++ decimal n)) days_are c.in_ok-put_number-3.ensures.puts in
    let both = wrote_both false false (g.W.Sink.state c.args.sink.now) (g.W.Sink.state c.put_number.new.sink) (g.W.Sink.state c.put_number-2.new.sink) stands types first second in
    let all = wrote_both false false (g.W.Sink.state c.args.sink.now) (g.W.Sink.state c.put_number-2.new.sink) (g.W.Sink.state c.put_number-3.new.sink) (stands ++ types) days both third in
    record { puts = puts_both (g.W.Sink.state c.args.sink.now) (g.W.Sink.state c.put_number-3.new.sink) (g.W.Sink.state c.put.new.self) c.put.result ((stands ++ types) ++ days) (codes " days\n") all c.put.ensures.puts }
