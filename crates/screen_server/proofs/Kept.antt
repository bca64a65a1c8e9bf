-- What a hall keeps while desks are served at it.
use Rattle.std.proofs.Common.{◌≡◌, ◌∙◌, ℕ, List, length, map, Result, Ok, IfOk, ap, subst, sym}
use Rattle.std.proofs.lemmas.List.{length-map}
use Rattle.desk_workers.specs.Work.{EndStates}
use Rattle.desk_workers.specs.declared.worker.WorkEnd.{WorkEnd}
use Rattle.screen_feed.specs.Screens.{ScreenState, WriterState}
use Rattle.shown_board.specs.Halls.{HallFixedState, HallHeld, hall_fixed, pairs_of}
use Rattle.screen_server.specs.Walls.{ShowsAll, WallsState}
use Rattle.screen_server.proofs.Together.{shown_pairs}

-- what holds of the value of an answer without an error
pub if_ok : {A E : Type 0} (P : A → Type 0) {answer : Result A E} {value : A} → answer ≡ Ok value → IfOk answer P → P value
if_ok P is holds = subst (λ answer. IfOk answer P) is holds

module _ {K R : Type 0} (begun hall : HallHeld K R) (fixed : hall_fixed hall ≡ hall_fixed begun) where
  -- the pairs of its writers are those of its screens, also after they were shown
  pub kept_pairs : {In Out : Type 0} (states : EndStates In Out) (asked : ℕ) (before after : WallsState In Out) (end : WorkEnd)
      → pairs_of begun.writers ≡ map (λ (screen : ScreenState). screen.pair) before.screens → ShowsAll states asked before after end
      → pairs_of hall.writers ≡ map (λ (screen : ScreenState). screen.pair) after.screens
  kept_pairs states asked before after end pairs shows =
      ap (λ (f : HallFixedState R). f.pairs) fixed ∙ (pairs ∙ sym (shown_pairs states asked before after end shows))

  -- it began with the same call
  pub begun_there : hall.begun ≡ begun.begun
  begun_there = ap (λ (f : HallFixedState R). f.begun) fixed

  -- there are as many writers as listeners of screens
  pub writers_there : {L : Type 0} (screens : List ScreenState) (walls : List L) → length screens ≡ length walls
      → pairs_of begun.writers ≡ map (λ (screen : ScreenState). screen.pair) screens → length hall.writers ≡ length walls
  writers_there screens walls same pairs =
      sym (length-map hall.writers (λ (writer : WriterState). writer.pair))
      ∙ (ap length (ap (λ (f : HallFixedState R). f.pairs) fixed ∙ pairs) ∙ (length-map screens (λ (screen : ScreenState). screen.pair) ∙ same))
