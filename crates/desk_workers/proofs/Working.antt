-- One connection more, and the failure of a listener after them.
use Rattle.std.proofs.Common.{◌≡◌, ◌∙◌, ◌+◌, ◌<◌, ℕ, Bool, true, false, append-nil, List, [], ◌∷◌, ◌++◌, length, map, Option, None, Some, refl, sym, ap, subst, append_assoc, arith, length-append}
use Rattle.std.specs.Option.{option_map}
use Rattle.std.proofs.lemmas.List.{map-append}
use Rattle.apron_base.specs.Counts.{Counts, Rose}
use Rattle.apron_base.specs.Keeper.{with_last}
use Rattle.apron_base.specs.Listener.{ListenerState, TakesFirst, TakesNone, Finishes as IsFinished}
use Rattle.apron_base.specs.declared.listener.Finished.{Finished}
use Rattle.desk_workers.specs.declared.worker.WorkEnd.{WorkEnd}
use Rattle.desk_workers.specs.declared.worker.WorkEnd.TheVariants.{Done, ListenerFault}
use Rattle.desk_workers.specs.Work.{AreServed, Connection, Serves, TakesAndFinishes, WorkState, Works, come_of, finished_of}

module _ {In Out : Type 0} where
  -- the connections to come, before both parts were accepted
  come_more : (xs ys : List (Connection In Out)) (before between after : Option (List (In × Out)))
      → before ≡ option_map (λ others. map come_of xs ++ others) between → between ≡ option_map (λ others. map come_of ys ++ others) after
      → before ≡ option_map (λ others. map come_of (xs ++ ys) ++ others) after
  come_more xs ys before between None first second = first ∙ ap (option_map (λ others. map come_of xs ++ others)) second
  come_more xs ys before between (Some rest) first second =
      let front : map come_of xs ++ (map come_of ys ++ rest) ≡ map come_of (xs ++ ys) ++ rest =
      sym (append_assoc (map come_of xs) (map come_of ys) rest) ∙ ap (λ (front : List (In × Out)). front ++ rest) (sym (map-append come_of xs ys)) in
      first ∙ (ap (option_map (λ others. map come_of xs ++ others)) second ∙ ap Some front)

  -- the finished connections, after both parts were finished
  finished_more : (xs ys : List (Connection In Out)) (before between after : Option (List (Finished In Out)))
      → between ≡ option_map (λ others. others ++ map finished_of xs) before → after ≡ option_map (λ others. others ++ map finished_of ys) between
      → after ≡ option_map (λ others. others ++ map finished_of (xs ++ ys)) before
  finished_more xs ys None between after first second = second ∙ ap (option_map (λ others. others ++ map finished_of ys)) first
  finished_more xs ys (Some done) between after first second =
      let back : (done ++ map finished_of xs) ++ map finished_of ys ≡ done ++ map finished_of (xs ++ ys) =
      append_assoc done (map finished_of xs) (map finished_of ys) ∙ ap (λ (back : List (Finished In Out)). done ++ back) (sym (map-append finished_of xs ys)) in
      second ∙ (ap (option_map (λ others. others ++ map finished_of ys)) first ∙ ap Some back)

  -- connections and then others
  pub finishes_more : (failed : Bool) (before between after : ListenerState In Out) (xs ys : List (Connection In Out))
      → TakesAndFinishes false before between xs → TakesAndFinishes failed between after ys → TakesAndFinishes failed before after (xs ++ ys)
  finishes_more failed before between after xs ys first second =
      let count = length-append xs ys in record {
        to_come = come_more xs ys _ _ _ first.to_come second.to_come;
        finished = finished_more xs ys _ _ _ first.finished second.finished;
        accepted = let a = first.accepted in let b = second.accepted in omega (arith, count);
        ended = let a = first.ended in let b = second.ended in omega (arith, count);
        faults = subst (λ n. Counts failed n after.faults) first.faults second.faults;
      }

  none_to_come : (to_come : Option (List (In × Out))) → to_come ≡ option_map (λ others. map come_of [] ++ others) to_come
  none_to_come None = refl
  none_to_come (Some others) = refl

  none_behind : (finished : Option (List (Finished In Out))) → finished ≡ option_map (λ others. others ++ map finished_of []) finished
  none_behind None = refl
  none_behind (Some others) = ap Some (sym (append-nil others))

  -- nothing was finished yet
  pub none_finished : (state : ListenerState In Out) → TakesAndFinishes false state state []
  none_finished state = record {
    to_come = none_to_come state.to_come;
    finished = none_behind state.finished;
    accepted = omega arith;
    ended = omega arith;
    faults = refl;
  }

  -- a listener that failed
  pub failed_finishing : (before after : ListenerState In Out) → TakesNone before after → TakesAndFinishes true before after []
  failed_finishing before after none = record {
    to_come = sym none.to_come ∙ none_to_come after.to_come;
    finished = none.finished ∙ none_behind before.finished;
    accepted = let e = none.accepted in omega arith;
    ended = let e = none.ended in omega arith;
    faults = none.faults;
  }

  -- a connection was accepted and finished
  pub one_finished : (before taken after : ListenerState In Out) (source : In) (sink : Out) (last : Finished In Out)
      → TakesFirst before taken (source, sink) → IsFinished taken after last
      → TakesAndFinishes false before after (record { source = source; sink = sink; finished = last } ∷ [])
  one_finished before taken after source sink last first finished = record {
    to_come = first.to_come ∙ ap (option_map (λ (others : List (In × Out)). (source, sink) ∷ others)) (sym finished.to_come);
    finished = finished.finished ∙ ap (option_map (with_last last)) first.finished;
    accepted = finished.accepted ∙ first.accepted;
    ended = finished.ended ∙ ap (λ n. n + 1) first.ended;
    faults = finished.faults ∙ first.faults;
  }

-- `serves` says what serving a connection does, by what none changes
module _ {In Out State Fixed : Type 0} (serves : Fixed → State → Connection In Out → State → Type 0) (fixed : Fixed) where
  -- connections and then others
  served_more : (before between after : State) (xs ys : List (Connection In Out))
      → AreServed (serves fixed) before xs between → AreServed (serves fixed) between ys after → AreServed (serves fixed) before (xs ++ ys) after
  served_more before between after [] ys first second = subst (λ (own : State). AreServed (serves fixed) own ys after) first second
  served_more before between after (x ∷ xs) ys first second = (first.0, first.1, served_more first.0 between after xs ys first.2 second)

  pub serves_more : (failed : Bool) (before between after : WorkState In Out State) (xs ys : List (Connection In Out))
      → Serves (serves fixed) false before between xs → Serves (serves fixed) failed between after ys → Serves (serves fixed) failed before after (xs ++ ys)
  serves_more failed before between after xs ys first second = record {
    served = served_more before.own between.own after.own xs ys first.served second.served;
    finishes = finishes_more failed before.listener between.listener after.listener xs ys first.finishes second.finishes;
  }

  -- nothing was served yet
  none_served : (state : WorkState In Out State) → Serves (serves fixed) false state state []
  none_served state = record { served = refl; finishes = none_finished state.listener }

  -- this many connections were served, of those that a worker was asked for
  abbrev pub SoFar : ℕ → WorkState In Out State → WorkState In Out State → Type 0
  SoFar count before now = (connections : List (Connection In Out)) × Serves (serves fixed) false before now connections × (length connections ≡ count)

  pub begins : (state : WorkState In Out State) → SoFar 0 state state
  begins state = ([], none_served state, refl)

  -- one connection more
  pub goes_on : (now : Fixed) (count : ℕ) (before between after : WorkState In Out State) → now ≡ fixed → SoFar count before between
      → ((connection : Connection In Out) × Serves (serves now) false between after (connection ∷ [])) → SoFar (count + 1) before after
  goes_on now count before between after same so next =
      let more = length-append so.0 (next.0 ∷ []) in
      let size = so.2 in (
        so.0 ++ next.0 ∷ [],
        serves_more false before between after so.0 (next.0 ∷ []) so.1 (subst (λ (at : Fixed). Serves (serves at) false between after (next.0 ∷ [])) same next.1),
        omega (arith, more),
      )

  -- the listener failed before all were served
  pub stops : (now : Fixed) (count asked : ℕ) (before between after : WorkState In Out State) → now ≡ fixed → SoFar count before between → count < asked
      → Serves (serves now) true between after [] → Works (serves fixed) asked before after ListenerFault
  stops now count asked before between after same so few next =
      let more = length-append so.0 [] in
      let size = so.2 in record {
        connections = so.0 ++ [];
        serves = serves_more true before between after so.0 [] so.1 (subst (λ (at : Fixed). Serves (serves at) true between after []) same next);
        count = omega (arith, more);
      }

  -- all were served
  pub is_done : (count asked : ℕ) (before after : WorkState In Out State) → SoFar count before after → count ≡ asked → Works (serves fixed) asked before after Done
  is_done count asked before after so all = record { connections = so.0; serves = so.1; count = so.2 ∙ all }

  -- a connection was accepted, served and finished
  pub one_served : (before taken after : ListenerState In Out) (own left : State) (source : In) (sink : Out) (last : Finished In Out)
      → TakesFirst before taken (source, sink)
      → serves fixed own (record { source = source; sink = sink; finished = last }) left
      → IsFinished taken after last
      → (connection : Connection In Out) × Serves (serves fixed) false (record { listener = before; own = own }) (record { listener = after; own = left }) (connection ∷ [])
  one_served before taken after own left source sink last first served finished = (
    record { source = source; sink = sink; finished = last },
    record {
      served = (left, served, refl);
      finishes = one_finished before taken after source sink last first finished;
    },
  )

  -- the listener failed, and nothing was served
  pub none_taken : (before after : ListenerState In Out) (own : State) → TakesNone before after
      → Serves (serves fixed) true (record { listener = before; own = own }) (record { listener = after; own = own }) []
  none_taken before after own none = record { served = refl; finishes = failed_finishing before after none }

-- a worker whose listener's count of faults didn't rise served all
pub done_unless : {In Out State : Type 0} (served : State → Connection In Out → State → Type 0) (asked : ℕ) (before after : WorkState In Out State) (end : WorkEnd) → Works served asked before after end
    → ¬ (Rose before.listener.faults after.listener.faults) → end ≡ Done
done_unless served asked before after Done works none = refl
done_unless served asked before after ListenerFault works none = absurd (none works.serves.finishes.faults.1)
