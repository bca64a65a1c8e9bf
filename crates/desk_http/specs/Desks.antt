-- The desk that a request names.
use Rattle.std.specs.Prelude.{ℕ, List, codes, Option, None, Some}
use Rattle.http_framing.specs.Fields.{TextSaid, absent, written, twice}
use Rattle.desk_bodies.specs.Commits.{if_name}

-- the name of a desk that gives none
abbrev pub no_desk : List ℕ
no_desk = codes "-"

-- the name of the desk that a field tells; none if there are two fields, or one that tells no name
abbrev pub desk_named : TextSaid → Option (List ℕ)
desk_named absent = Some no_desk
desk_named (written text) = if_name text
desk_named twice = None
