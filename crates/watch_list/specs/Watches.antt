-- Watches by their names, and what they are fed with.
use Rattle.std.specs.Prelude.{◌≡◌, ◌≤◌, ◌<◌, ◌==◌, ◌&&◌, ℕ, Bool, true, List, [], ◌∷◌, length, filter, find, Option, None, Some, IsSome, nat_le, nat_lt}
use Rattle.std.specs.Str.{bytes_eq}
use Rattle.apron_base.specs.declared.numbers.StandNo.{StandNo}
use Rattle.watch_list.specs.declared.note.Note.{Note}
use Rattle.watch_list.specs.declared.note.Shown.{Shown}
use Rattle.watch_list.specs.declared.watch.Watched.{Watched}
use Rattle.watch_list.specs.declared.watches.WatchFault.{WatchFault}
use Rattle.watch_list.specs.declared.watches.WatchFault.TheVariants.{Taken, Full, Memory}

-- this is the given stand, if one is given
abbrev pub is_at : Option StandNo → StandNo → Bool
is_at None stand = true
is_at (Some given) stand = given.0 == stand.0

-- the class is not above the top one, the stand is the given one if one is given, and the minute is
-- one of these
abbrev pub shows : Shown → Note → Bool
shows shown note =
    nat_le note.class shown.top_class
    && is_at shown.stand note.stand
    && nat_le shown.from note.minute
    && nat_lt note.minute shown.until

-- the watch has this name
abbrev pub is_watch_named : {R : Type 0} → List ℕ → Watched R → Bool
is_watch_named name watch = bytes_eq name watch.name

-- the watch of a name
abbrev pub watch_named : {R : Type 0} → List (Watched R) → List ℕ → Option (Watched R)
watch_named watches name = find (is_watch_named name) watches

-- the most watches of a list
abbrev pub most_watches : ℕ
most_watches = 16

-- no two watches have one name
abbrev pub WatchesHaveDifferentNames : {R : Type 0} → List (Watched R) → Type 0
WatchesHaveDifferentNames [] = Unit {0}
WatchesHaveDifferentNames (watch ∷ watches) = (watch_named watches watch.name ≡ None)
    × WatchesHaveDifferentNames watches

-- there are not too many watches, and each has a name of its own
pub record AreWatches {R : Type 0} (watches : List (Watched R)) : Type 0 where
  pub few : length watches ≤ most_watches
  pub named : WatchesHaveDifferentNames watches

-- no watch has the name of this one, and there are not too many
abbrev pub CanAddWatch : {R : Type 0} → List (Watched R) → Watched R → Type 0
CanAddWatch watches watch = (watch_named watches watch.name ≡ None)
    × (length watches < most_watches)

-- why the watch is not put to these: its name is taken; or it is not, and they are full; or there
-- is a place, but no memory
abbrev pub IsWatchRefused : {R : Type 0} → List (Watched R) → Watched R → WatchFault → Type 0
IsWatchRefused watches watch Taken = IsSome (watch_named watches watch.name)
IsWatchRefused watches watch Full = (watch_named watches watch.name ≡ None)
    × (length watches ≡ most_watches)
IsWatchRefused watches watch Memory = CanAddWatch watches watch

-- the note is of an entry after this one
abbrev pub is_later : ℕ → Note → Bool
is_later after note = nat_lt after note.entry

-- of these notes those of entries after this one of which a statement tells, in order
abbrev pub feed : (Note → Bool) → ℕ → List Note → List Note
feed tells after notes = filter (λ note. is_later after note && tells note) notes
