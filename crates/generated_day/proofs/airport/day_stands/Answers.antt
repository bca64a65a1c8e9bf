use Rattle.std.proofs.Common.{◌≡◌, ◌+◌, ap, arith, map, sym, ◌∙◌}
use Rattle.std.specs.List.{range_with_len}
use Rattle.std.proofs.lemmas.List.FromFn.{map-range_with_len_more}
use Rattle.generated_day.specs.DayAirport.{day_stand}
use Rattle.generated_day.proofs.airport.day_stands.Goals as goal

pub loop-place-preserved : goal.loop-place-preserved
loop-place-preserved c =
    let place = c.loop-place.place in
    c.in_ok-push.ensures.ok ∙ rw (c.loop-place.invariant, c.day_stand-stand.ensures.is) (sym (map-range_with_len_more day_stand 1 place (place + 1) (omega arith)))

pub returns : goal.returns
returns c =
    let all : c.loop-place.place ≡ 60 = omega arith in
    record { are = c.loop-place.invariant ∙ ap (λ n. map day_stand (range_with_len 1 n)) all }
