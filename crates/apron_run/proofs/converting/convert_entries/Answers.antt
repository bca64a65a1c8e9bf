use Rattle.std.proofs.Common.{◌≡◌, ◌∙◌, ◌<◌, ◌+◌, ◌++◌, ◌∷◌, [], ℕ, List, ap, arith, drop, get_or, length, subst, suc, sym, take}
use Rattle.std.proofs.Math.Seq.{take-suc}
use Rattle.std.proofs.lemmas.List.{get_or_read, length-take-le}
use Rattle.std.proofs.lemmas.Result.{err_from_is_err_and}
use Rattle.history_core.proofs.Openings.{parted_at}
use Rattle.apron_run.specs.Converted.{HasConverted, NotConverted}
use Rattle.apron_run.proofs.Converts.{converted_count, next_converted, none_converted, stops_converting}
use Rattle.apron_run.proofs.converting.convert_entries.Goals as goal

pub loop-bytes-init : goal.loop-bytes-init
loop-bytes-init c = record {
  converted = subst (λ (new : List (List ℕ)). HasConverted c.args.airport.now [] new) (sym c.new-new.ensures.none) (none_converted c.args.airport.now);
}

pub convert_next-requires : goal.convert_next-requires
convert_next-requires c =
    let old = c.args.old.now in
    let i = c.loop-bytes.bytes-index in
    let count = converted_count c.args.airport.now (take i old) c.loop-bytes.new c.loop-bytes.invariant.converted.converts in
    let below : i < length old = omega (arith, c.loop-bytes-test.true) in
    record { few = omega (arith, count, length-take-le i old (omega (arith, below)), below, c.requires.few) }

pub loop-bytes-preserved : goal.loop-bytes-preserved
loop-bytes-preserved c =
    let airport = c.args.airport.now in
    let old = c.args.old.now in
    let i = c.loop-bytes.bytes-index in
    let bytes = c.as_slice.result.now in
    let below : i < length old = omega (arith, c.loop-bytes-test.true) in
    let is : bytes ≡ get_or old i [] = c.as_slice.ensures.items ∙ get_or_read old i c.bytes-item.result below c.bytes-item.is [] in
    let next : i + 1 ≡ suc i = omega arith in
    let more : take (i + 1) old ≡ take i old ++ bytes ∷ [] = ap (λ (n : ℕ). take n old) next ∙ take-suc old i [] below ∙ ap (λ (b : List ℕ). take i old ++ b ∷ []) (sym is) in
    record {
      converted = subst (λ (front : List (List ℕ)). HasConverted airport front c.convert_next.new.new) (sym more)
          (next_converted airport (take i old) bytes c.loop-bytes.new c.convert_next.new.new c.loop-bytes.invariant.converted c.in_ok-convert_next.ensures.converted);
    }

pub returns-in_err-convert_next-clause-refused : goal.returns-in_err-convert_next-clause-refused
returns-in_err-convert_next-clause-refused c =
    let airport = c.args.airport.now in
    let old = c.args.old.now in
    let i = c.loop-bytes.bytes-index in
    let new = c.loop-bytes.new in
    let why = subst (λ (bytes : List ℕ). NotConverted airport (length new + 1) bytes c.in_err-convert_next.field-0.0) c.as_slice.ensures.items
    c.in_err-convert_next.ensures.refused in
    let p = err_from_is_err_and c.from_residual.result c.from_residual.ensures.1 in
    rw (p.1, p.2)
    (stops_converting airport old (take i old) c.bytes-item.result (drop (suc i) old) new c.in_err-convert_next.field-0.0
    (parted_at old i c.bytes-item.result (omega (arith, c.loop-bytes-test.true)) c.bytes-item.is) c.loop-bytes.invariant.converted.converts why)
