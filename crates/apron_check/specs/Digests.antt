-- The digests of the two files of an airport.
use Rattle.std.specs.Prelude.{ℕ, List, ◌++◌}
use Rattle.sha2.specs.Sha256.{sha256}

-- the SHA-256 of the airport file, and after it that of the type file
abbrev pub digests_of : List ℕ → List ℕ → List ℕ
digests_of airport types = sha256 airport ++ sha256 types
