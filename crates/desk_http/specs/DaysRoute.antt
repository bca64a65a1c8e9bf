-- What GET /plan/DAY, GET /chart/DAY and GET /day/DAY ask.
use Rattle.std.specs.Prelude.{ℕ, Bool, nat_le, not, ◌&&◌, Result, Ok}
use Rattle.apron_base.specs.ResultChain.{◌>>=◌, refuse_if}
use Rattle.apron_rules.specs.declared.parts.AirportParts.{AirportParts}
use Rattle.desk_asks.specs.declared.asks.What.{What}
use Rattle.desk_words.specs.declared.early.EarlyReply.{EarlyReply}
use Rattle.desk_words.specs.declared.early.EarlyReply.TheVariants.{NoDay}

-- the plan has the day: 1 is its first
abbrev pub is_day : AirportParts → ℕ → Bool
is_day airport day = nat_le 1 day && nat_le day airport.days

-- what is asked of a day, if the plan has it
abbrev pub day_asked : AirportParts → ℕ → What → Result What EarlyReply
day_asked airport day asked = do
  known ← refuse_if (not (is_day airport day)) NoDay
  Ok asked
