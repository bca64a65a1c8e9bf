-- What contracts see of the sources and sinks in memory, and of the adapters.
use Rattle.std.specs.Prelude.{ℕ, ◌||◌, nat_lt, min, max, Bool, List, drop, length, Option, None, Some, slice_get}
use Rattle.apron_base.specs.Counts.{one_more}
use Rattle.apron_base.specs.Ends.{SinkState, SourceState}
use Rattle.apron_base.specs.Fails.{FailsHeld, is_to_fail}

-- the bytes that are left, the greatest sizes of the pieces, and how many pieces were taken
pub record PiecesHeld : Type 0 where
  pub left : List ℕ
  pub sizes : List ℕ
  pub taken : ℕ

-- at most the size of this piece, which is at least 1; after the last size any number
abbrev pub within_size : Option ℕ → ℕ → ℕ
within_size None most = most
within_size (Some size) most = min (max size 1) most

-- how many bytes the next piece has, if there is room for this many
abbrev pub next_length : PiecesHeld → ℕ → ℕ
next_length pieces room =
    within_size (slice_get pieces.sizes pieces.taken) (min (length pieces.left) room)

-- the pieces after one of this many bytes was taken
abbrev pub after_piece : PiecesHeld → ℕ → PiecesHeld
after_piece pieces count = record pieces {
  left = drop count pieces.left;
  taken = one_more pieces.taken;
}

-- the pieces, and the calls that fail
pub record SourceHeld : Type 0 where
  pub pieces : PiecesHeld
  pub fails : FailsHeld

-- what is known of such a source
abbrev pub source_state : SourceHeld → SourceState
source_state source = record { left = Some source.pieces.left; faults = source.fails.faults }

-- what is known of a source that never fails
abbrev pub steady_source_state : PiecesHeld → SourceState
steady_source_state pieces = record { left = Some pieces.left; faults = 0 }

-- the bytes that were written, how many more there is room for, and the calls that fail
pub record SinkHeld : Type 0 where
  pub told : List ℕ
  pub room : ℕ
  pub fails : FailsHeld

-- what is known of such a sink
abbrev pub sink_state : SinkHeld → SinkState
sink_state sink = record { told = Some sink.told; faults = sink.fails.faults }

-- what is known of a sink that exposes nothing and never fails
abbrev pub null_sink_state : SinkState
null_sink_state = record { told = None; faults = 0 }

-- a put of this many bytes is among those that are to fail, or exceeds the room
abbrev pub refuses_put : SinkHeld → ℕ → Bool
refuses_put sink count = is_to_fail sink.fails || nat_lt sink.room count

-- a reader or a writer, and how often a call has failed
pub record Adapted (E : Type 0) : Type 0 where
  pub inner : E
  pub faults : ℕ
