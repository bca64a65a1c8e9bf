-- The generator: a number that changes with each draw.
use Rattle.std.specs.Prelude.{ℕ, zero, suc, ◌+◌, ◌*◌, ◌/◌, ◌%◌, ◌^◌}

-- the generator's number after a draw
abbrev pub next_seed : ℕ → ℕ
next_seed seed = (seed * 1103515245 + 12345) % 2 ^ 31

-- the generator's number after this many draws
abbrev pub seed_after : ℕ → ℕ → ℕ
seed_after zero seed = seed
seed_after (suc draws) seed = next_seed (seed_after draws seed)

-- what a draw below k gives if the generator's number after it is this one
abbrev pub draw_below : ℕ → ℕ → ℕ
draw_below k seed = (seed / 65536) % k
