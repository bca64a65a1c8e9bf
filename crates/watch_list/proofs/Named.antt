-- Watches keep names of their own.
use Rattle.std.proofs.Common.{◌≡◌, ◌∙◌, ◌++◌, ◌∷◌, [], ℕ, Bool, true, false, List, length-append, Option, None, Some, ap, arith, cond, refl, subst, sym}
use Rattle.std.specs.Cmp.Lexicographic.{nat_list_eq_equiv}
use Rattle.watch_list.specs.declared.watch.Watched.{Watched}
use Rattle.watch_list.specs.Watches.{AreWatches, CanAddWatch, WatchesHaveDifferentNames, is_watch_named, watch_named}

module _ {R : Type 0} where
  none_then : (here : Bool) (watch : Watched R) (rest : Option (Watched R)) → cond here (Some watch) rest ≡ None → (here ≡ false) × (rest ≡ None)
  none_then true watch rest none = absurd (cc)
  none_then false watch rest none = (refl, none)

  unnamed_push : (name : List ℕ) (watches : List (Watched R)) (last : Watched R) → watch_named watches name ≡ None → is_watch_named name last ≡ false
      → watch_named (watches ++ last ∷ []) name ≡ None
  unnamed_push name [] last none other = rw other refl
  unnamed_push name (watch ∷ watches) last none other =
      let first = none_then (is_watch_named name watch) watch (watch_named watches name) none in
      rw first.0 (unnamed_push name watches last first.1 other)

  different_push : (watches : List (Watched R)) (last : Watched R) → watch_named watches last.name ≡ None → WatchesHaveDifferentNames watches
      → WatchesHaveDifferentNames (watches ++ last ∷ [])
  different_push [] last new named = (refl, tt)
  different_push (watch ∷ watches) last new named =
      let first = none_then (is_watch_named last.name watch) watch (watch_named watches last.name) new in (
        unnamed_push watch.name watches last named.0 (nat_list_eq_equiv.symm watch.name last.name ∙ first.0),
        different_push watches last first.1 named.1,
      )

  -- one more watch if there is a place for it
  pub watches_push : (before room after : List (Watched R)) (last : Watched R) → room ≡ before → after ≡ room ++ last ∷ [] → CanAddWatch before last
      → AreWatches before → AreWatches after
  watches_push before room after last same put place are =
      let last_is : after ≡ before ++ last ∷ [] = put ∙ ap (λ (watches : List (Watched R)). watches ++ last ∷ []) same in
      subst AreWatches (sym last_is) (record {
        few = let few = place.1 in omega (arith, length-append before (last ∷ []));
        named = different_push before last place.0 are.named;
      })
