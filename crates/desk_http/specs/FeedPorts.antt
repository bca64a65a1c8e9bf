-- What a port gives for a feed, and what a feed does to it.
use Rattle.std.specs.Prelude.{◌≡◌, ℕ, List, Option, None, Some, IfSome}
use Rattle.apron_base.specs.declared.outside.Acted.{Acted}
use Rattle.apron_base.specs.declared.outside.Acted.TheVariants.{Reply, Memory, Fault, Spent}
use Rattle.apron_rules.specs.declared.parts.AirportParts.{AirportParts}
use Rattle.desk_words.specs.Fixed.{no_memory_text}
use Rattle.desk_asks.specs.declared.asks.Ask.{Ask}
use Rattle.desk_asks.specs.declared.asks.Entry.{Entry}
use Rattle.desk_asks.specs.declared.asks.What.TheVariants.{Version}
use Rattle.history_core.specs.Answer.{no_memory}
use Rattle.desk_http.specs.Ports.{IsExhausted, PortState, Turn}
use Rattle.desk_http.specs.declared.port.FeedAsk.{FeedAsk}

-- what a feed is given: the text of its reply, or none if there is no memory
abbrev pub FeedGiven : Type 0
FeedGiven = Option (List ℕ)

-- the bytes of what a feed is given
abbrev pub feed_given_text : FeedGiven → List ℕ
feed_given_text None = no_memory_text
feed_given_text (Some text) = text

-- the ask of the version by a desk that has seen none
abbrev pub version_ask : Ask
version_ask = record { seen = 0; what = Version }

-- A feed that got its turn, if `text` says what its reply is at each history. It found a whole
-- history, and left the port as an ask of the version does for which memory ran out: with one call
-- more, and no entry. It got its reply at that history, or memory ran out.
pub record FeedTurn (airport : AirportParts) (text : List Entry → List ℕ) (before : PortState)
    (given : FeedGiven) (after : PortState) : Type 0 where
  pub turn : Turn airport before version_ask no_memory after
  pub gives : IfSome given (λ told. told ≡ text turn.history)

-- what an act shows of a feed, if `feeds` says what the port gives and becomes: never a failed
-- append
abbrev pub ShowsFeed : (PortState → FeedAsk → FeedGiven → PortState → Type 0) → PortState → FeedAsk
    → Acted → PortState → Type 0
ShowsFeed feeds before ask (Reply text) after = feeds before ask (Some text) after
ShowsFeed feeds before ask Memory after = feeds before ask None after
ShowsFeed feeds before ask Fault after = ⊥
ShowsFeed feeds before ask Spent after = IsExhausted before after
