-- A step of the reading of an array of rows.
use Rattle.std.proofs.Common.{◌≡◌, ◌⊎◌, ℕ, ◌+◌, ◌<◌, ◌≤◌, List, [], ◌∷◌, ◌++◌, length, get_or, drop, Result, Ok, Err, refl, sym, ap, ◌∙◌, append_assoc, inl, inr}
use Rattle.std.specs.List.{list_all}
use Rattle.std.proofs.lemmas.Bool.{cases_Bool}
use Rattle.std.proofs.lemmas.List.{append-nil, drop_all}
use Rattle.toml.specs.declared.value.Value.{Value}
use Rattle.toml.specs.Data.{Data, item}
use Rattle.toml.specs.View.{view, items_view}
use Rattle.toml.proofs.Views.{items_view-drop}
use Rattle.airport_files.specs.declared.keys.WalkFault.{WalkFault}
use Rattle.airport_files.specs.declared.keys.WalkFault.TheVariants.{Memory}
use Rattle.apron_base.specs.ResultChain.{◌>>=◌}
use Rattle.airport_files.specs.Walk.{is_table, are_tables, walk_rows_from}

-- the rows found so far, and those of the rest
abbrev pub joined : {A : Type 0} → List A → Result (List A) WalkFault → Result (List A) WalkFault
joined found rest = rest >>= (λ more. Ok (found ++ more))

joined-cons : {A : Type 0} (found : List A) (s : A) (rest : Result (List A) WalkFault) → joined found (rest >>= (λ more. Ok (s ∷ more))) ≡ joined (found ++ s ∷ []) rest
joined-cons found s (Ok more) = rw append_assoc
joined-cons found s (Err e) = refl

pub joined-nil : {A : Type 0} (rest : Result (List A) WalkFault) → joined [] rest ≡ rest
joined-nil (Ok more) = refl
joined-nil (Err e) = refl

-- the item at a place, and those after it
here : (vs : List Value) (i : ℕ) (v : Value) → i < length vs → v ≡ get_or vs i v → items_view (drop i vs) ≡ item (view v) (items_view (drop (i + 1) vs))
here vs i v h at = items_view-drop vs i v h ∙ ap (λ w. item (view w) (items_view (drop (i + 1) vs))) (sym at)

pub step-ok : {A : Type 0} (read : ℕ → Data → Result A WalkFault) (vs : List Value) (i : ℕ) (v : Value) (found : List A) (s : A) → i < length vs → v ≡ get_or vs i v → read (i + 1) (view v) ≡ Ok s
    → joined found (walk_rows_from read (i + 1) (items_view (drop i vs))) ≡ joined (found ++ s ∷ []) (walk_rows_from read (i + 1 + 1) (items_view (drop (i + 1) vs)))
unfolding walk_rows_from
step-ok read vs i v found s h at ok = rw (here vs i v h at, ok) (joined-cons found s _)

stops : {A : Type 0} (read : ℕ → Data → Result A WalkFault) (vs : List Value) (i : ℕ) (v : Value) (found : List A) (e : WalkFault) → i < length vs → v ≡ get_or vs i v → read (i + 1) (view v) ≡ Err e
    → joined found (walk_rows_from read (i + 1) (items_view (drop i vs))) ≡ Err e
unfolding walk_rows_from
stops read vs i v found e h at err = rw (here vs i v h at, err)

pub step-err : {A : Type 0} (read : ℕ → Data → Result A WalkFault) (vs : List Value) (i : ℕ) (v : Value) (found : List A) (e : WalkFault) → i < length vs → v ≡ get_or vs i v
    → (e ≡ Memory) ⊎ (read (i + 1) (view v) ≡ Err e) → joined found (walk_rows_from read (i + 1) (items_view (drop i vs))) ≡ walk_rows_from read 1 (items_view vs) → (e ≡ Memory) ⊎ (walk_rows_from read 1 (items_view vs) ≡ Err e)
step-err read vs i v found e h at (inl memory) walked = inl memory
step-err read vs i v found e h at (inr err) walked = inr (sym walked ∙ stops read vs i v found e h at err)

pub step-end : {A : Type 0} (read : ℕ → Data → Result A WalkFault) (vs : List Value) (i : ℕ) (found : List A) → length vs ≤ i → joined found (walk_rows_from read (i + 1) (items_view (drop i vs))) ≡ Ok found
unfolding walk_rows_from
step-end read vs i found h = rw (drop_all i vs h, append-nil found)

-- the test of all values is the test of the data that they show
pub tables : (vs : List Value) → list_all (λ v. is_table (view v)) vs ≡ are_tables (items_view vs)
tables [] = refl
tables (v ∷ vs) = elim (cases_Bool (is_table (view v))) [
  | inl one ↦ rw one (tables vs)
  | inr none ↦ rw none
]
