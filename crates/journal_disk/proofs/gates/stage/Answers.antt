use Rattle.std.proofs.Common.{sym, subst, ap, ◌∙◌, ◌++◌, ◌∷◌, [], ◌≡◌, ◌+◌}
use Rattle.journal_disk.specs.Disk.{with_piece_at}
use Rattle.journal_disk.specs.Entries.{closed_gate, with_length}
use Rattle.journal_disk.specs.Gates.{IsClosed, IsWhole}
use Rattle.journal_disk.proofs.Moments.{since_now, since_goes}
use Rattle.journal_disk.proofs.Torn.{torn_behind, written_behind}
use Rattle.journal_disk.proofs.Tells.{on_ok}
use Rattle.journal_disk.proofs.gates.stage.Goals as goal

pub returns-clause-crash : goal.returns-clause-crash
returns-clause-crash g c = λ front long closed.
    let before = g.D.Disk.state c.args.disk.now in
    since_goes before before (g.D.Disk.state c.write_safely.new.disk) _ (IsClosed front) (since_now before (IsClosed front) closed) c.write_safely.ensures.crash (λ from image left torn. torn_behind front c.args.place long _ from image (closed from left) torn)

pub returns-clause-staged : goal.returns-clause-staged
returns-clause-staged g c = on_ok c.write_safely.result c.write_safely.ensures.safe (λ safe front long closed bytes is image left.
    let was = closed bytes (g.met.D.Disk.reads c.args.disk.now bytes is) in
    let now : image ≡ with_piece_at (c.args.place + 1) (with_length c.args.entry.now ++ closed_gate ∷ []) bytes = safe bytes is image left ∙ ap (λ p. with_piece_at (c.args.place + 1) p bytes) c.put_sized-end.ensures.text in
    subst (IsWhole c.args.entry.now front) (sym now) (was.gate, written_behind front c.args.place long c.args.entry.now bytes was))
