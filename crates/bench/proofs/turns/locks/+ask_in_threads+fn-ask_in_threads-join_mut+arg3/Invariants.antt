use Rattle.bench.proofs.turns.locks.+ask_in_threads+fn-ask_in_threads-join_mut+arg3.Given as goal

abbrev pub decreases-ask_in_threads : goal.decreases-ask_in_threads
decreases-ask_in_threads g l = l.threads

abbrev pub decreases-join_mut+arg3 : goal.decreases-join_mut+arg3
decreases-join_mut+arg3 g l = l.fewer
