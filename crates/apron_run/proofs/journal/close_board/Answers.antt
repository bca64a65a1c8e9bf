use Rattle.std.proofs.Common.{◌∙◌, ap, sym, subst}
use Rattle.history_core.specs.Board.{IsKeeperOf}
use Rattle.journal_disk.specs.Extent.{keeper_of}
use Rattle.apron_check.specs.declared.files.AirportFiles.{AirportFiles}
use Rattle.apron_run.proofs.Fronts.{history_survives}
use Rattle.apron_run.proofs.Serving.{disk_keeps}
use Rattle.apron_run.proofs.journal.close_board.Goals as goal

pub returns : goal.returns
returns g c =
    let board = c.args.board in
    let disk = c.into_disk.result in
    let extent = c.into_keeper.result.extent in
    let state = g.D.Disk.state in
    let files : AirportFiles = record { airport = board.airport; digests = g.N.OfFiles.digests } in
    let kept : IsKeeperOf board.airport board.history board.at_risk (keeper_of extent (state disk)) =
    subst (λ d. IsKeeperOf board.airport board.history board.at_risk (keeper_of extent (state d))) (sym c.into_disk.ensures.disk) c.into_keeper.ensures.kept in
    record {
      keeps = disk_keeps files board.history board.at_risk extent (state disk) c.into_keeper.ensures.legal kept (g.met.D.Disk.reads disk) c.into_disk.ensures.entries
          c.into_disk.ensures.digests;
      survives = history_survives board.airport g.N.OfFiles.digests board.history board.at_risk extent g.N.OfFiles.begun (state disk) c.into_disk.ensures.fronts kept
          c.into_disk.ensures.entries c.into_disk.ensures.digests;
      disk = c.into_disk.ensures.disk ∙ ap (λ k. k.disk) c.into_keeper.ensures.keeper;
      legal = c.into_keeper.ensures.legal;
    }
