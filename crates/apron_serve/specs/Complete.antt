-- Completeness: `serve` serves all that it is asked for, if nothing fails, or memory has run out.
use Rattle.std.specs.Prelude.{ℕ, Option, IfSome, IsSome}
use Rattle.apron_run.specs.Complete.{EndsWell, NoFileFails, OnJournal}
use Rattle.apron_run.specs.World.{World}
use Rattle.apron_serve.specs.Orders.{Order, day_shown}
use Rattle.apron_serve.specs.Serve.{SomeFailed}

module _ {In Out : Type 0} where
  -- the count of faults of the shelf, of the disk or of a listener neither rose nor is at its
  -- greatest value
  pub record NoneFailsInServe (before after : World In Out) : Type 0 where
    pub files : NoFileFails before after
    pub listeners : ¬ (SomeFailed before.listeners after.listeners)
    pub screens : ¬ (SomeFailed before.screens after.screens)

  -- an order ends well if its two files make an airport, whose plan has the day that is ordered,
  -- the disk opens as the journal of it, and nothing fails
  abbrev pub IsServeComplete : Option Order → World In Out → World In Out → ℕ → Type 0
  IsServeComplete asked before after code = IfSome asked (λ order.
      OnJournal before.shelf before.disk order.airport order.types
      (λ files history. IsSome (day_shown files.airport order.day))
      → NoneFailsInServe before after
      → EndsWell code)
