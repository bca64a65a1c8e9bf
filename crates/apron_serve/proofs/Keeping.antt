-- What stays as it was, by how serving ended.
use Rattle.std.proofs.Common.{◌≡◌, Bool, true, false, refl}
use Rattle.std.specs.Prelude.{not}
use Rattle.apron_check.specs.declared.files.AirportFiles.{AirportFiles}
use Rattle.screen_server.specs.declared.shown.Task.{Task}
use Rattle.apron_run.specs.End.{status_of}
use Rattle.apron_run.specs.Run.{KeptUnless}
use Rattle.apron_run.specs.Statuses.{exit_code}
use Rattle.apron_run.specs.World.{World}
use Rattle.apron_run.specs.declared.end.End.{End}
use Rattle.apron_run.specs.declared.end.End.TheVariants.{Attended, Memory as Wanting, Unusable as Unworkable}
use Rattle.apron_run.specs.declared.end.ServeEnd.TheVariants as end
use Rattle.apron_run.proofs.Kept.{unworkable_used}
use Rattle.apron_serve.specs.Board.{AtServe, Service}
use Rattle.apron_serve.specs.Serve.{serve_ends_before_journal}

-- what is kept unless something was, if something else was whenever that was
pub kept_also : {E : Type 0} (served counts : Bool) (old new : E) → (served ≡ true → counts ≡ true) → KeptUnless served old new → KeptUnless counts old new
kept_also served true old new goes kept = tt
kept_also true false old new goes kept = let no : false ≡ true = goes refl in absurd cc
kept_also false false old new goes kept = kept

-- what is done at a journal ends with no number of an end before it
pub comes : {In Out : Type 0} (service : Service In Out) (task : Task) (files : AirportFiles) (before after : World In Out) (end : End)
    → AtServe service task files before after end → not (serve_ends_before_journal (exit_code (status_of end))) ≡ true
comes service task files before after (Attended end.Done) at = refl
comes service task files before after (Attended end.ListenerFault) at = refl
comes service task files before after (Attended end.Missed) at = refl
comes service task files before after Wanting at = refl
comes service task files before after (Unworkable why) at =
    unworkable_used (λ code. not (serve_ends_before_journal code)) refl refl refl files before.disk after.disk why (let not_opened = at.uses in not_opened.cause)
comes service task files before after end at = absurd at.2
