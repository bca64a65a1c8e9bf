use Rattle.std.proofs.Common.{◌+◌, take, sym, ◌∙◌}
use Rattle.season_files.specs.Texts.{season_of, season_text, visit_line}
use Rattle.visit_book.specs.NewVisits.{new_of}
use Rattle.season_files.proofs.Lines.{grown, text-more, text-none, text-same}
use Rattle.season_files.proofs.write.write_season.Goals as goal
use Rattle.season_files.proofs.write.write_season.Goals.{then-is_uncancelled+in_ok-write_visit, else-is_uncancelled}

pub loop-visit-init : goal.loop-visit-init
loop-visit-init c = let (writing, text) = c.in_ok-wtr.ensures.header in (writing, rw (text-none c.args.airport.now) text)

pub loop-visit-preserved : goal.loop-visit-preserved
loop-visit-preserved c =
    let airport = c.args.airport.now in
    let visits = c.args.visits.now in
    let i = c.loop-visit.visit-index in
    let visit = c.visit-item.result in
    let (writing, so_far) = c.loop-visit.invariant in
    elim c.if-is_uncancelled.branch [
      | then-is_uncancelled+in_ok-write_visit w ↦
          let (after, text) = w.in_ok-write_visit.ensures.line writing in
          let live = sym c.is_uncancelled.ensures.is ∙ w.if-is_uncancelled.true in
          rw w.wtr-is (after, grown _ _ (season_text airport (season_of (take i visits))) (visit_line airport (new_of visit)) (season_text airport (season_of (take (i + 1) visits))) so_far (rw w.new_of.ensures.is at text) (text-more airport visits i visit c.loop-visit-test.true c.visit-item.is live))
      | else-is_uncancelled w ↦
          let cancelled = sym c.is_uncancelled.ensures.is ∙ w.if-is_uncancelled.false in
          rw (w.wtr-is, text-same airport visits i visit c.loop-visit-test.true c.visit-item.is cancelled) c.loop-visit.invariant
    ]
