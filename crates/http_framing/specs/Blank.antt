-- Bytes that are empty lines.
use Rattle.std.specs.Prelude.{ℕ, ◌==◌, List, [], ◌∷◌, Bool, true, false, if◌then◌else◌}

-- the byte that ends a line
abbrev pub line_feed : ℕ
line_feed = 10

-- the byte that may come before it
abbrev pub carriage_return : ℕ
carriage_return = 13

-- empty lines, each ended by LF or by CR and LF, of which the last may lack its LF
abbrev mutual
  pub is_blank : List ℕ → Bool
  is_blank [] = true
  is_blank (byte ∷ bytes) =
      if byte == line_feed then is_blank bytes
      else (if byte == carriage_return then is_blank_after_cr bytes else false)

  -- the same after a CR
  pub is_blank_after_cr : List ℕ → Bool
  is_blank_after_cr [] = true
  is_blank_after_cr (byte ∷ bytes) = if byte == line_feed then is_blank bytes else false
