-- How many bytes of a stream are kept at once.
use Rattle.std.specs.Prelude.{ℕ, ◌+◌}
use Rattle.http_framing.specs.Bodies.{max_body}
use Rattle.http_framing.specs.Heads.{max_head}

-- the most bytes of a request
abbrev pub max_request : ℕ
max_request = max_head + max_body

-- the most bytes that are added at once
abbrev pub max_piece : ℕ
max_piece = 4096

-- the room for a request that is not whole yet, and one piece more
abbrev pub room : ℕ
room = max_request + max_piece
