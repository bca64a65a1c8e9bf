-- A step of the reading of an array of numbers.
use Rattle.std.proofs.Common.{◌≡◌, ℕ, ◌+◌, ◌<◌, ◌≤◌, List, [], ◌∷◌, ◌++◌, length, get_or, drop, Some, None, Result, Ok, Err, refl, sym, ap, ◌∙◌, append_assoc}
use Rattle.std.proofs.lemmas.List.{append-nil, drop_all}
use Rattle.toml.specs.declared.value.Value.{Value}
use Rattle.toml.specs.Data.{item}
use Rattle.toml.specs.View.{view, items_view}
use Rattle.toml.proofs.Views.{items_view-drop}
use Rattle.airport_files.specs.declared.keys.FileKey.{FileKey}
use Rattle.airport_files.specs.declared.keys.WalkFault.{WalkFault}
use Rattle.airport_files.specs.declared.keys.WalkFault.TheVariants.{Wrong}
use Rattle.airport_files.specs.Forms.{toml_number}
use Rattle.apron_base.specs.ResultChain.{◌>>=◌}
use Rattle.airport_files.specs.Walk.{toml_numbers}

abbrev pub joined : List ℕ → Result (List ℕ) WalkFault → Result (List ℕ) WalkFault
joined found rest = rest >>= (λ more. Ok (found ++ more))

joined-cons : (found : List ℕ) (n : ℕ) (rest : Result (List ℕ) WalkFault) → joined found (rest >>= (λ more. Ok (n ∷ more))) ≡ joined (found ++ n ∷ []) rest
joined-cons found n (Ok more) = rw append_assoc
joined-cons found n (Err e) = refl

here : (vs : List Value) (i : ℕ) (v : Value) → i < length vs → v ≡ get_or vs i v → items_view (drop i vs) ≡ item (view v) (items_view (drop (i + 1) vs))
here vs i v h at = items_view-drop vs i v h ∙ ap (λ w. item (view w) (items_view (drop (i + 1) vs))) (sym at)

pub step-ok : (k : FileKey) (vs : List Value) (i : ℕ) (v : Value) (found : List ℕ) (n : ℕ) → i < length vs → v ≡ get_or vs i v → toml_number (view v) ≡ Some n
    → joined found (toml_numbers k (items_view (drop i vs))) ≡ joined (found ++ n ∷ []) (toml_numbers k (items_view (drop (i + 1) vs)))
unfolding toml_numbers
step-ok k vs i v found n h at ok = rw (here vs i v h at, ok) (joined-cons found n _)

pub step-err : (k : FileKey) (vs : List Value) (i : ℕ) (v : Value) (found : List ℕ) → i < length vs → v ≡ get_or vs i v → toml_number (view v) ≡ None
    → joined found (toml_numbers k (items_view (drop i vs))) ≡ Err (Wrong k)
unfolding toml_numbers
step-err k vs i v found h at bad = rw (here vs i v h at, bad)

pub step-end : (k : FileKey) (vs : List Value) (i : ℕ) (found : List ℕ) → length vs ≤ i → joined found (toml_numbers k (items_view (drop i vs))) ≡ Ok found
unfolding toml_numbers
step-end k vs i found h = rw (drop_all i vs h, append-nil found)
