use Rattle.desk_http.proofs.Pieces.{no_route, no_text, route_on}
use Rattle.desk_http.proofs.Rows.{found_in, none_in}
use Rattle.desk_http.specs.Table.{route_at}
use Rattle.std.proofs.Common.{◌∙◌, ap}
use Rattle.desk_http.proofs.targets.DeskRoutes.route_of.Goals as goal

pub returns-in_default : goal.returns-in_default
returns-in_default c = record { is = no_text c.args.target.now c.in_default.ensures.cases.0 }

pub returns-in-Ok-at : goal.returns-in-Ok-at
returns-in-Ok-at c =
    let on = found_in c.args.self.now.router c.in-Ok.text.now c.args.target.now _ c.args.self.now.all c.in-Ok.ensures.cases.0 c.type_inv.target c.in-Ok-at.ensures.found in
    record { is = c.route_at.ensures.is ∙ ap (route_at c.in-Ok-at.found.value.now) c.text_after_word.ensures.is ∙ route_on c.args.target.now (route_at c.in-Ok-at.found.value.now) on }

pub returns-in-Err : goal.returns-in-Err
returns-in-Err c =
    record {
      is = no_route c.args.target.now
          (none_in c.args.self.now.router c.in-Ok.text.now c.args.target.now c.args.self.now.all c.in-Ok.ensures.cases.0 c.in-Err.ensures.missing);
    }
