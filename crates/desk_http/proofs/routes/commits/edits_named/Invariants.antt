use Rattle.std.proofs.Common.{◌≡◌, ◌+◌, ◌++◌, Ok, map, drop, length}
use Rattle.std.specs.Prelude.{All}
use Rattle.apron_base.specs.ResultChain.{◌>>=◌}
use Rattle.visit_book.specs.Edits.{IsEditOf}
use Rattle.desk_bodies.specs.CommitsShown.{edit_shown}
use Rattle.desk_http.specs.CommitsRoute.{edits_named}
use Rattle.desk_http.proofs.routes.commits.edits_named.Given as goal

-- the edits so far, and then those of the texts that are left, are all of them
abbrev pub invariant-loop-text : goal.invariant-loop-text
invariant-loop-text l = record {
  named : (edits_named l.airport l.number (map edit_shown (drop l.text-index l.texts)) >>= λ rest. Ok (l.edits ++ rest)) ≡ edits_named l.airport 1 (map edit_shown l.texts);
  stands : All (IsEditOf l.airport) l.edits;
  count : length l.edits ≡ l.text-index;
  number : l.number ≡ l.text-index + 1;
}
