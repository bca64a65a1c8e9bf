use Rattle.wall_chart.proofs.whole.chart.Given as goal

abbrev pub ghosts-chart_from : goal.ghosts-chart_from
ghosts-chart_from a = record { name = a.blank.name; parts = a.blank.parts }
