-- For how many seconds a peer may keep a worker.
use Rattle.std.specs.Prelude.{◌≤◌, ◌<◌, ℕ}

-- a limit is between a second and a day
abbrev pub IsLimit : ℕ → Type 0
IsLimit seconds = (1 ≤ seconds) × (seconds ≤ 86400)

-- between requests, within a request, for a whole request and for a reply: each is a limit, and
-- that within a request is below that between requests
abbrev pub AreLimits : ℕ → ℕ → ℕ → ℕ → Type 0
AreLimits idle stall request reply =
    IsLimit idle × IsLimit stall × IsLimit request × IsLimit reply × (stall < idle)
