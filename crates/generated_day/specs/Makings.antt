-- What a day in the making is.
use Rattle.generated_day.specs.Days.{Day}
use Rattle.generated_day.specs.declared.making.Making.{Making}

-- the day in the making
abbrev pub day_so_far : Making → Day
day_so_far making = record {
  history = making.board.history;
  next = making.board.next;
  seed = making.seed;
  draft = making.draft;
  refused = making.refused;
  bumped = making.bumped;
}
