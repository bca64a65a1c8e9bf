use Rattle.journal_disk.specs.Disk.{IfExposed}
use Rattle.journal_disk.specs.Switch.{HasSwitched, IsEither, IsSwitching, SwitchesSafely}
use Rattle.journal_disk.proofs.Moments.{since_map}
use Rattle.journal_disk.proofs.Switching.{either_is, has_switched}
use Rattle.journal_disk.proofs.upgrade.OldJournal.switch.Goals as goal

pub switch_sections-requires-clause-inside : goal.switch_sections-requires-clause-inside
switch_sections-requires-clause-inside g c = λ bytes is. let section = c.self.invariant.section bytes is in section.inside

pub returns-in-Ok-clause-crash : goal.returns-in-Ok-clause-crash
returns-in-Ok-clause-crash g c =
    let size = c.self.inside.size in
    let old = c.self.inside.entries.items in
    let new = c.args.entries.now in
    let before = g.D.Disk.state c.self.inside.disk in
    let now = g.D.Disk.state c.switch_sections.new.disk in
    let safely : SwitchesSafely size old new before now = λ bytes is.
    since_map before now (IsSwitching size new bytes) (IsEither size old new bytes) (c.switch_sections.ensures.crash bytes is (c.self.invariant.safe bytes is))
    (either_is size old bytes (c.self.invariant.section bytes is) new c.requires.sizes c.requires.few) in
    rw (← c.self.view_is) safely

pub returns-in-Ok-clause-switched : goal.returns-in-Ok-clause-switched
returns-in-Ok-clause-switched g c =
    let size = c.self.inside.size in
    let old = c.self.inside.entries.items in
    let new = c.args.entries.now in
    let now = g.D.Disk.state c.switch_sections.new.disk in
    let switched : IfExposed (g.D.Disk.state c.self.inside.disk) (λ bytes. HasSwitched size new bytes now) = λ bytes is.
    has_switched size old bytes (c.self.invariant.section bytes is) new c.requires.sizes c.requires.few now (c.in-Ok.ensures.switched bytes is) in
    rw (← c.self.view_is) switched

pub returns-clause-crash : goal.returns-clause-crash
returns-clause-crash g c =
    let size = c.self.inside.size in
    let old = c.self.inside.entries.items in
    let new = c.args.entries.now in
    let before = g.D.Disk.state c.self.inside.disk in
    let now = g.D.Disk.state c.switch_sections.new.disk in
    let safely : SwitchesSafely size old new before now = λ bytes is.
    since_map before now (IsSwitching size new bytes) (IsEither size old new bytes) (c.switch_sections.ensures.crash bytes is (c.self.invariant.safe bytes is))
    (either_is size old bytes (c.self.invariant.section bytes is) new c.requires.sizes c.requires.few) in
    rw (← c.self.view_is) safely

pub returns-in-Ok-clause-size : goal.returns-in-Ok-clause-size
returns-in-Ok-clause-size g c = rw (← c.self.view_is) c.self.invariant.size_is

pub returns-clause-size : goal.returns-clause-size
returns-clause-size g c = rw (← c.self.view_is) c.self.invariant.size_is
