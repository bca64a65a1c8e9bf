-- What a seat's view counts for, and how the steps of a call change it.
use Rattle.std.specs.Prelude.{ℕ, ◌+◌, ◌-◌, ◌^◌, ◌==◌, nat_lt, cond, true, false, ◌||◌, List, [], ◌∷◌, ◌++◌, length, Some, None}
use Rattle.std.specs.List.{sum_by}
use Rattle.apron_base.specs.Machine.{MachineState}
use Rattle.turn_board.specs.declared.view.Stage.{Stage}
use Rattle.turn_board.specs.declared.view.Stage.TheVariants.{Idle, Waiting, Turn, Noted, Counted}
use Rattle.turn_board.specs.declared.view.Start.{Start}
use Rattle.turn_board.specs.declared.view.View.{View}
use Rattle.turn_board.specs.Totals.{rise_of, times}

-- call numbers are below this one
abbrev pub call_end : ℕ
call_end = 2 ^ 62

-- the shares of all seats together
abbrev pub all_shares : ℕ
all_shares = 1000

-- 1 if a number is in flight, and 0 otherwise
abbrev pub is_flying : Stage → ℕ
is_flying Idle = 0
is_flying _ = 1

-- 1 if the machine was taken, and 0 otherwise
abbrev pub has_turn : Stage → ℕ
has_turn Idle = 0
has_turn Waiting = 0
has_turn _ = 1

-- 1 if the machine has acted, and 0 otherwise
abbrev pub has_acted : Stage → ℕ
has_acted Noted = 1
has_acted Counted = 1
has_acted _ = 0

-- 1 if an entry may be owed to the count, and 0 otherwise
abbrev pub may_owe : Stage → ℕ
may_owe Noted = 1
may_owe _ = 0

-- the longer of two histories
abbrev pub longer : {Entry : Type 0} → List Entry → List Entry → List Entry
longer xs ys = cond (nat_lt (length xs) (length ys)) ys xs

-- the other one
abbrev pub shorter : {Entry : Type 0} → List Entry → List Entry → List Entry
shorter xs ys = cond (nat_lt (length xs) (length ys)) xs ys

module _ {Entry Fixed : Type 0} where
  -- 1 if the seat has this number in flight, and 0 otherwise
  abbrev pub in_flight : ℕ → View Entry Fixed → ℕ
  in_flight number view = cond (number == view.number) (is_flying view.stage) 0

  -- how many of its ended calls have this number
  abbrev pub count_of_call : ℕ → View Entry Fixed → ℕ
  count_of_call number view = times number view.calls

  -- by how much the count of faults rose over its ended calls
  abbrev pub risen_of : View Entry Fixed → ℕ
  risen_of view = sum_by rise_of view.calls

  -- 1 if it has its turn, and 0 otherwise
  abbrev pub turn_of : View Entry Fixed → ℕ
  turn_of view = has_turn view.stage

  -- 1 if the machine has acted for it, and 0 otherwise
  abbrev pub acted_count : View Entry Fixed → ℕ
  acted_count view = has_acted view.stage

  -- how many entries it owes to the count
  abbrev pub owes_of : View Entry Fixed → ℕ
  owes_of view = view.owes

  -- its share
  abbrev pub share_of : View Entry Fixed → ℕ
  share_of view = view.share

  -- what every seat knows of the machine with which the board was made
  abbrev pub start_of : MachineState Entry Fixed → Start Fixed
  start_of machine = record { fixed = machine.fixed; first = machine.next; faults = machine.faults }

  -- the view of the first seat
  abbrev pub first_view : MachineState Entry Fixed → View Entry Fixed
  first_view machine = record {
    start = Some (start_of machine);
    seen = machine.history;
    told = [];
    late = [];
    calls = [];
    stage = Idle;
    number = 0;
    found = 0;
    left = 0;
    at_risk = None;
    owes = 0;
    exhausted = false;
    share = all_shares;
  }

  -- a number was drawn
  abbrev pub after_draw : ℕ → View Entry Fixed → View Entry Fixed
  after_draw number view = record view { stage = Waiting; number = number }

  -- the numbers had run out
  abbrev pub run_out : View Entry Fixed → View Entry Fixed
  run_out view = record view { exhausted = true }

  -- the machine was taken as it was found
  abbrev pub after_take : MachineState Entry Fixed → View Entry Fixed → View Entry Fixed
  after_take found view = record view {
    stage = Turn;
    seen = found.history;
    found = found.faults;
    at_risk = found.at_risk;
  }

  -- the machine acted, and what it left is noted; an entry that it added is owed to the count
  abbrev pub after_act : MachineState Entry Fixed → View Entry Fixed → View Entry Fixed
  after_act left view = record view {
    stage = Noted;
    seen = left.history;
    left = left.faults;
    at_risk = left.at_risk;
    owes = length left.history - length view.seen;
  }

  -- the entry is counted
  abbrev pub after_count : View Entry Fixed → View Entry Fixed
  after_count view = record view { stage = Counted; owes = 0 }

  -- the call has ended
  abbrev pub after_end : View Entry Fixed → View Entry Fixed
  after_end view = record view {
    stage = Idle;
    owes = 0;
    calls =
        view.calls
        ++ record {
          number = view.number;
          found = view.found;
          left = view.left;
          at_risk = view.at_risk;
        } ∷ [];
  }

  -- a seat whose share is one less
  abbrev pub less_one : View Entry Fixed → View Entry Fixed
  less_one view = record view { share = view.share - 1 }

  -- a new seat with a share of one, which has seen as much and has called nothing
  abbrev pub split_off : View Entry Fixed → View Entry Fixed
  split_off view = record {
    start = view.start;
    seen = view.seen;
    told = [];
    late = [];
    calls = [];
    stage = Idle;
    number = 0;
    found = 0;
    left = 0;
    at_risk = None;
    owes = 0;
    exhausted = false;
    share = 1;
  }

  -- two seats made one; what the seat with the shorter history had seen and called is kept until
  -- the next look
  abbrev pub both : View Entry Fixed → View Entry Fixed → View Entry Fixed
  both view other = record view {
    seen = longer view.seen other.seen;
    told = shorter view.seen other.seen;
    late = cond (nat_lt (length view.seen) (length other.seen)) view.calls other.calls;
    calls = view.calls ++ other.calls;
    exhausted = view.exhausted || other.exhausted;
    share = view.share + other.share;
  }

  -- a seat that was taken in
  abbrev pub spent_view : View Entry Fixed
  spent_view = record {
    start = None;
    seen = [];
    told = [];
    late = [];
    calls = [];
    stage = Idle;
    number = 0;
    found = 0;
    left = 0;
    at_risk = None;
    owes = 0;
    exhausted = false;
    share = 0;
  }

  -- after the look
  abbrev pub after_look : View Entry Fixed → View Entry Fixed
  after_look view = record view { told = []; late = [] }
