use Rattle.std.proofs.Common.{◌≡◌, ◌∙◌, ◌+◌, ◌-◌, List, ℕ, take, drop, ap, subst, sym, arith}
use Rattle.journal_disk.specs.Disk.{with_piece_at, IsThere}
use Rattle.journal_disk.proofs.Rereading.{stays_same, written_again}
use Rattle.journal_disk.proofs.gates.write_back.Goals as goal

pub returns-clause-stays : goal.returns-clause-stays
returns-clause-stays g c =
    let before = g.D.Disk.state c.args.disk.now in
    let text = c.args.text.now in
    let piece = take (c.args.from + c.args.size - c.args.from) (drop c.args.from text) in
    let size : c.args.from + c.args.size - c.args.from ≡ c.args.size = omega arith in
    let again = ap (λ n. with_piece_at c.args.from (take n (drop c.args.from text)) text) size ∙ written_again c.args.from c.args.size text c.requires.inside in
    let there : IsThere c.args.from piece before = λ bytes is.
    let was = c.requires.safe bytes is in
    (was.1, subst (λ (b : List ℕ). with_piece_at c.args.from piece b ≡ b) (sym was.0) again) in
    stays_same before (g.D.Disk.state c.write_safely.new.disk) (λ bytes is. (c.requires.safe bytes is).1) c.write_safely.ensures.tells (g.met.D.Disk.reads c.write_safely.new.disk) (c.write_safely.ensures.again there)
