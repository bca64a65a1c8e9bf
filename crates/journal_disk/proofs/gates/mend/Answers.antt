use Rattle.std.proofs.Common.{◌≡◌, OnOk, true, rules, sym, subst}
use Rattle.journal_disk.specs.Disk.{Does, EachImage, EachImageSince}
use Rattle.journal_disk.specs.Gates.{GateIs, mending_calls}
use Rattle.journal_disk.proofs.Tells.{on_ok}
use Rattle.journal_disk.proofs.RecordTexts.{is_shut}
use Rattle.journal_disk.proofs.Settled.{shut_record}
use Rattle.journal_disk.proofs.gates.mend.Goals as goal

pub returns-clause-crash : goal.returns-clause-crash
returns-clause-crash g c = λ entry front long at.
    let is : c.args.unclean ≡ true = search rules in
    let before = g.D.Disk.state c.args.disk.now in
    let whole = subst (λ u. EachImage before (GateIs u entry front)) is at in
    subst (λ u. EachImageSince before (g.D.Disk.state c.set_gate.new.disk) (GateIs u entry front)) (sym is) (c.set_gate.ensures.crash entry front long whole)

pub returns-clause-closed : goal.returns-clause-closed
returns-clause-closed g c =
    let is : c.args.unclean ≡ true = search rules in
    on_ok c.set_gate.result c.set_gate.ensures.set (λ closed entry front long at bytes told image left.
    let whole = subst (λ u. EachImage (g.D.Disk.state c.args.disk.now) (GateIs u entry front)) is at in
    shut_record front 0 entry image is_shut (closed entry front long whole bytes told image left))

pub returns-clause-done : goal.returns-clause-done
returns-clause-done g c =
    let is : c.args.unclean ≡ true = search rules in
    subst (λ u. OnOk c.set_gate.result (Does (mending_calls u c.args.place) (g.D.Disk.state c.args.disk.now) (g.D.Disk.state c.set_gate.new.disk))) (sym is) c.set_gate.ensures.done
