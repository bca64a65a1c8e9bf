-- The watches that desks can follow.
use Rattle.std.specs.Prelude.{ℕ, List, [], ◌∷◌, None, codes}
use Rattle.watch_list.specs.declared.note.Shown.{Shown}
use Rattle.watch_list.specs.declared.watch.Watched.{Watched}

-- a watch of this name: of the bumps of visits up to this class, on any stand and at any minute
abbrev pub up_to : List ℕ → ℕ → Watched Shown
up_to name top_class = record {
  name = name;
  stated = record { top_class = top_class; stand = None; from = 0; until = 4294967295 };
}

-- ALL, of each bump, and HIGH, of those of visits of the classes 0 to 2
abbrev pub all_and_high : List (Watched Shown)
all_and_high = up_to (codes "ALL") 9 ∷ up_to (codes "HIGH") 2 ∷ []
