-- How many parts a message's reply names as bumped.
use Rattle.std.proofs.Common.{◌≡◌, ℕ, ◌+◌, true, false, List, [], ◌∷◌, ◌++◌, length, refl, ap, ◌∙◌, arith}
use Rattle.std.specs.Prelude.{nat_lt}
use Rattle.std.proofs.lemmas.Bool.{le-ltb, ltb-true, ltb-false}
use Rattle.std.proofs.lemmas.List.{append-nil, length_push}
use Rattle.bump_core.specs.Bumped.{bumped_by}
use Rattle.desk_asks.specs.declared.asks.Command.TheVariants.{Message}
use Rattle.desk_asks.specs.declared.asks.DeskMessage.{DeskMessage}
use Rattle.desk_asks.specs.declared.asks.Entry.{Entry}
use Rattle.desk_words.specs.declared.replies.Reply.{Reply}
use Rattle.history_core.specs.Answer.{Replies, added_entries, changes}
use Rattle.history_core.specs.History.{replay}
use Rattle.history_core.specs.Acceptance.{Stepped, TakenAs, accepted, ahead, denied, edit, full, name, refused, repeated, stepped_reply}
use Rattle.history_core.proofs.Replay.{after-push, command_version}
use Rattle.plan_core.specs.PlanState.{empty_plan}
use Rattle.generated_day.specs.Days.{Day, IsAsked, count_bumped, is_accepted, plan_of}
use Rattle.generated_day.specs.DayAirport.{day_airport}

-- a history that grew by nothing didn't grow
not_grown : (before after : List Entry) → after ≡ before ++ [] → nat_lt (length before) (length after) ≡ true → ⊥
not_grown before after same grown =
    let more = ltb-true _ _ grown in
    let equal : length after ≡ length before = ap length (same ∙ append-nil before) in
    omega (arith, more, equal)

has_grown : (before after : List Entry) (entry : Entry) → after ≡ before ++ entry ∷ [] → nat_lt (length before) (length after) ≡ false → ⊥
has_grown before after entry same none =
    let fewer = ltb-false _ _ none in
    let more : length after ≡ length before + 1 = ap length same ∙ length_push before entry in
    omega (arith, fewer, more)

-- the same for a message that a plan replies to in this way
module _ (before after : List Entry) (call : ℕ) (passed : DeskMessage) (reply : Reply) where
  accepted_by : (stepped : Stepped) → TakenAs (replay day_airport before) (length before) (Message passed) stepped → reply ≡ stepped_reply (replay day_airport before) (Message passed) stepped
      → after ≡ before ++ added_entries call (Message passed) stepped → nat_lt (length before) (length after) ≡ true
      → count_bumped reply.told ≡ length (bumped_by (replay day_airport after).version (replay day_airport after).visits)
  accepted_by ahead s r e grown = absurd s
  accepted_by (repeated entry) s r e grown = absurd s
  accepted_by (refused (name number)) s r e grown = absurd s
  accepted_by (refused (edit fault)) s r e grown = absurd s
  accepted_by (refused (denied why)) s r e grown = absurd s
  accepted_by full s r e grown = absurd (not_grown before after e grown)
  accepted_by accepted s r e grown =
      rw (r, e, after-push (empty_plan day_airport) before (record { call = call; command = Message passed }), command_version (replay day_airport before) (Message passed) tt) refl

  refused_by : (stepped : Stepped) → TakenAs (replay day_airport before) (length before) (Message passed) stepped → reply ≡ stepped_reply (replay day_airport before) (Message passed) stepped
      → after ≡ before ++ added_entries call (Message passed) stepped → nat_lt (length before) (length after) ≡ false → count_bumped reply.told ≡ 0
  refused_by ahead s r e none = absurd s
  refused_by (repeated entry) s r e none = absurd s
  refused_by (refused (name number)) s r e none = absurd s
  refused_by (refused (edit fault)) s r e none = absurd s
  refused_by (refused (denied why)) s r e none = absurd s
  refused_by full s r e none = rw r refl
  refused_by accepted s r e none = absurd (has_grown before after _ e none)

  accepted_count : Replies (replay day_airport before) before call (changes (Message passed)) reply after → nat_lt (length before) (length after) ≡ true
      → count_bumped reply.told ≡ length (bumped_by (replay day_airport after).version (replay day_airport after).visits)
  accepted_count h grown = accepted_by h.0 h.1 h.2 h.3 grown

  refused_count : Replies (replay day_airport before) before call (changes (Message passed)) reply after → nat_lt (length before) (length after) ≡ false → count_bumped reply.told ≡ 0
  refused_count h none = refused_by h.0 h.1 h.2 h.3 none

pub message_counts : (day asked : Day) (passed : DeskMessage) (reply : Reply) → IsAsked (Message passed) day reply asked → is_accepted day asked ≡ true
    → count_bumped reply.told ≡ length (bumped_by (plan_of asked).version (plan_of asked).visits)
message_counts day asked passed reply h grown =
    accepted_count day.history asked.history day.next passed reply (rw (le-ltb (plan_of day).version 0 (omega arith)) at h.0) grown

pub message_counts_none : (day asked : Day) (passed : DeskMessage) (reply : Reply) → IsAsked (Message passed) day reply asked → is_accepted day asked ≡ false → count_bumped reply.told ≡ 0
message_counts_none day asked passed reply h same =
    refused_count day.history asked.history day.next passed reply (rw (le-ltb (plan_of day).version 0 (omega arith)) at h.0) same
