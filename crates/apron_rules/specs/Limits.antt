-- The limits of an airport in numbers. Those of the code are proved to be the same.
use Rattle.std.specs.Prelude.{ℕ}

-- the most days of a plan
abbrev pub most_days : ℕ
most_days = 28

-- the most minutes from touchdown to on block
abbrev pub most_taxi_in : ℕ
most_taxi_in = 60

-- the most minutes of a tow
abbrev pub most_tow : ℕ
most_tow = 240

-- the most frontages
abbrev pub most_frontages : ℕ
most_frontages = 50

-- the most objects on a frontage
abbrev pub most_objects : ℕ
most_objects = 50

-- the greatest place on a frontage
abbrev pub greatest_place : ℕ
greatest_place = 1000000

-- the most stands
abbrev pub most_stands : ℕ
most_stands = 400

-- the most halves of a stand
abbrev pub most_halves : ℕ
most_halves = 2

-- the most minutes for which a stand stays held after a part ends
abbrev pub most_buffer : ℕ
most_buffer = 240

-- the most pair restrictions
abbrev pub most_pairs : ℕ
most_pairs = 1000

-- the most types
abbrev pub most_types : ℕ
most_types = 400

-- the greatest number that the least minutes of a type can be
abbrev pub most_least : ℕ
most_least = 600

-- the most minutes for which wing tips are unfolded at the start and at the end of a part
abbrev pub most_fold : ℕ
most_fold = 60
