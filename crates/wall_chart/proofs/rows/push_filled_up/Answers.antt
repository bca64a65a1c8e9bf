use Rattle.std.proofs.Common.{◌≡◌, ◌-◌, arith, length}
use Rattle.wall_chart.proofs.Written.{filled_by}
use Rattle.wall_chart.proofs.rows.push_filled_up.Goals as goal

pub returns : goal.returns
returns c =
    let count : c.saturating_sub.result ≡ 6 - length c.args.name.now = omega (arith, c.saturating_sub.ensures) in
    record { text = filled_by c.args.text.now.items c.args.name.now c.extend_from_slice.new.self.items c.extend_from_slice-2.new.self.items (c.saturating_sub.result) c.in_ok-extend_from_slice.ensures.items count c.in_ok-extend_from_slice-2.ensures.items }
