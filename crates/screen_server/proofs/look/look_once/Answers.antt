use Rattle.std.proofs.Common.{◌∙◌, ℕ, List, ap, refl, subst}
use Rattle.std.specs.Prelude.{false, true, take, Some}
use Rattle.std.specs.Result.{result_ok}
use Rattle.apron_base.specs.Ends.{Wrote}
use Rattle.screen_server.proofs.Lasting.{is_last, no_older}
use Rattle.screen_server.proofs.look.look_once.Goals as goal

pub returns-in_default : goal.returns-in_default
returns-in_default g c =
    let looked = c.look.ensures.looked in record {
      looks = record {
        looked = looked;
        later = no_older c.args.screen.now.shown c.args.screen.now.seen c.look.new.self.seen looked.sheets looked.seen;
        ends = (c.look.ensures.given ∙ ap (λ looked. Some (result_ok looked)) c.in_default.is, refl);
      };
    }

pub returns-in-Ok-put : goal.returns-in-Ok-put
returns-in-Ok-put g c =
    let looked = c.look.ensures.looked in record {
      looks = record {
        looked = looked;
        later = no_older c.args.screen.now.shown c.args.screen.now.seen c.look.new.self.seen looked.sheets looked.seen;
        ends = (
          c.in-Ok.sheet,
          is_last c.args.screen.now c.look.new.self c.in-Ok.sheet looked (c.look.ensures.given ∙ ap (λ looked. Some (result_ok looked)) c.in-Ok.is) c.in-Ok.ensures.last,
          subst (λ (text : List ℕ). Wrote false (g.W.Sink.state c.args.sink.now) (g.W.Sink.state c.put.new.self) text) c.text.ensures.value c.in-Ok-put.ensures.puts,
        );
      };
    }

pub returns : goal.returns
returns g c =
    let looked = c.look.ensures.looked in
    let put = c.in-Err.ensures.puts in record {
      looks = record {
        looked = looked;
        later = no_older c.args.screen.now.shown c.args.screen.now.seen c.look.new.self.seen looked.sheets looked.seen;
        ends = (
          c.in-Ok.sheet,
          is_last c.args.screen.now c.look.new.self c.in-Ok.sheet looked (c.look.ensures.given ∙ ap (λ looked. Some (result_ok looked)) c.in-Ok.is) c.in-Ok.ensures.last,
          (put.0, subst (λ (text : List ℕ). Wrote true (g.W.Sink.state c.args.sink.now) (g.W.Sink.state c.put.new.self) (take put.0 text)) c.text.ensures.value put.1),
        );
      };
    }
