use Rattle.std.proofs.Common.{◌≡◌, ◌∙◌, ◌++◌, ℕ, List, ap, append_assoc}
use Rattle.std.specs.List.{flat_map}
use Rattle.std.specs.Prelude.{codes}
use Rattle.apron_rules.specs.declared.rules.Clash.{Clash}
use Rattle.wall_chart.specs.declared.alarms.Alarm.{Alarm}
use Rattle.wall_chart.specs.Alarms.{alarm_line}
use Rattle.wall_chart.specs.KeptAlarms.{clash_of, kept_line}
use Rattle.wall_chart.proofs.Written.{flat_map-map, ok_then}
use Rattle.wall_chart.proofs.alarms.push_alarm_lines.Goals as goal

pub returns : goal.returns
returns g c =
    let old = c.args.text.now.items in
    let before = c.extend_from_slice.new.self.items in
    let lines = flat_map kept_line c.deref.result.now in
    let are : lines ≡ flat_map alarm_line _ =
    ap (λ (found : List Alarm). flat_map kept_line found) c.deref.ensures.value ∙ (flat_map-map clash_of alarm_line c.in_ok-found.found.items ∙ ap (λ (found : List Clash). flat_map alarm_line found) c.in_ok-found.ensures.are) in
    record {
      text = ok_then c.push_lines.result _ _
          (λ pushed. pushed ∙ (ap (λ (text : List ℕ). text ++ lines) c.in_ok-extend_from_slice.ensures.items ∙ (append_assoc old (codes "ALARMS\n") lines ∙ ap (λ (ys : List ℕ). old ++ (codes "ALARMS\n" ++ ys)) are)))
          c.push_lines.ensures.text;
    }
