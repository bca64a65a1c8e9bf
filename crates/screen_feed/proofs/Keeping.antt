-- Each step keeps the rule of the pair.
use Rattle.std.proofs.Common.{◌≡◌, ◌≢◌, ℕ, List, [], ◌∷◌, ◌++◌, set, fold, sym, refl, ap, ◌∙◌, subst, ⊎_elim, append_assoc, Option, None, Some}
use mathlib.Core.Option.{some}
use lib.ListN.{get_elem?}
use Rattle.std.proofs.lemmas.List.{append-nil}
use Rattle.crossbeam_utils.specs.Register.{Admits, TurnsAt, Turns, Forks, Merges}
use Rattle.atomic_table.proofs.Lists.{at_set, at_snoc}
use Rattle.screen_feed.specs.Sheets.{Begins, SheetState}
use Rattle.screen_feed.specs.Pages.{Follows, LooksAtPage, Keeps, Knows, PageState, sheets_with}

pub begins_self : (l : List SheetState) → Begins l l
begins_self l = ([], sym (append-nil l))

pub begins_trans : (z y x : List SheetState) → Begins z y → Begins y x → Begins z x
begins_trans z y x b c = (c.0 ++ b.0, b.1 ∙ (ap (λ (l : List SheetState). l ++ b.0) c.1 ∙ append_assoc x c.0 b.0))

pub follows_self : (x : PageState) → Follows x x
follows_self x = (refl, refl, begins_self (sheets_with x))

follows_on : (p x y : PageState) → Follows p x → Follows x y → Follows p y
follows_on p x y a b = (b.0 ∙ a.0, b.1 ∙ a.1, begins_trans (sheets_with y) (sheets_with x) (sheets_with p) b.2 a.2)

knows_on : (v : Option PageState) (x y : PageState) → Knows v x → Follows x y → Knows v y
knows_on v x y k f p is = follows_on p x y (k p is) f

knows_none : (x : PageState) → Knows None x
knows_none x p is = absurd (cc is)

abbrev out_of : PageState → Option PageState → PageState
out_of d None = d
out_of d (Some z) = z

knows_it : (x : PageState) → Knows (Some x) x
knows_it x p is = let e : x ≡ p = ap (out_of x) is in subst (λ (z : PageState). Follows z x) e (follows_self x)

keeps_set : (x : PageState) (views : List (Option PageState)) (id : ℕ) (w : Option PageState) → Keeps x views → Knows w x → Keeps x (set views id w)
keeps_set x views id w k mine j u e = ⊎_elim (λ (t : (j ≡ id) × (w ≡ u)). subst (λ (z : Option PageState). Knows z x) t.1 mine) (λ (t : (j ≢ id) × (get_elem? views j ≡ some u)). k j u t.1) (at_set views id j w u e)

pub turns : (id : ℕ) (v : Option PageState) (x y : PageState) → Follows x y → TurnsAt Keeps id v x y LooksAtPage
turns id v x y f views k at =
    let on : Keeps y views = λ j u e. knows_on u x y (k j u e) f in
    (Some y, keeps_set y views id (Some y) on (knows_it y), (refl, on id v at))

pub looks : (id : ℕ) (v : Option PageState) → Turns Keeps id v (λ x. x) LooksAtPage
looks id v x = turns id v x x (follows_self x)

pub admits : Admits Keeps None
admits x views k j u e = ⊎_elim (λ (was : get_elem? views j ≡ some u). k j u was) (λ (new : None ≡ u). subst (λ (z : Option PageState). Knows z x) new (knows_none x)) (at_snoc views None u j e)

pub forks : (id : ℕ) (v : Option PageState) → Forks Keeps id v v v
forks id v x views k at j u e = ⊎_elim (λ (was : get_elem? (set views id v) j ≡ some u). keeps_set x views id v k (k id v at) j u was) (λ (new : v ≡ u). subst (λ (z : Option PageState). Knows z x) new (k id v at)) (at_snoc (set views id v) v u j e)

pub merges : (id : ℕ) (v : Option PageState) (other : ℕ) (w : Option PageState) → Merges Keeps id v other w w None
merges id v other w x views k at apart there =
    let theirs : Knows w x = ⊎_elim (λ (t : (other ≡ id) × (w ≡ w)). absurd (apart t.0)) (λ (t : (other ≢ id) × (get_elem? views other ≡ some w)). k other w t.1) (at_set views id other w w there) in
    keeps_set x (set views id w) other None (keeps_set x views id w k theirs) (knows_none x)

pub opens : (x : PageState) → Keeps x (None ∷ [])
opens x j u e = ⊎_elim (λ (was : get_elem? [] j ≡ some u). absurd (mathlib.Core.Option.some-ne-none u (sym was))) (λ (new : None ≡ u). subst (λ (z : Option PageState). Knows z x) new (knows_none x)) (at_snoc [] None u j e)

pub last_wins : (x y : PageState) (pending : List PageState) → fold (λ (s o : PageState). o) x (pending ++ y ∷ []) ≡ y
last_wins x y [] = refl
last_wins x y (p ∷ ps) = last_wins p y ps

-- what is published after one operation, whatever was pending
pub last_turns : (id : ℕ) (v : Option PageState) (x y next : PageState) (before pending : List PageState) → Follows x y → pending ≡ before ++ y ∷ [] → next ≡ fold (λ (s o : PageState). o) x pending → TurnsAt Keeps id v x next LooksAtPage
last_turns id v x y next before pending f one is =
    let same : next ≡ y = is ∙ (ap (λ (l : List PageState). fold (λ (s o : PageState). o) x l) one ∙ last_wins x y before) in
    subst (λ (z : PageState). TurnsAt Keeps id v x z LooksAtPage) (sym same) (turns id v x y f)

-- and where nothing was pending
pub same_turns : (id : ℕ) (v : Option PageState) (x next : PageState) (pending : List PageState) → pending ≡ [] → next ≡ fold (λ (s o : PageState). o) x pending → TurnsAt Keeps id v x next LooksAtPage
same_turns id v x next pending none is =
    let same : next ≡ x = is ∙ ap (λ (l : List PageState). fold (λ (s o : PageState). o) x l) none in
    subst (λ (z : PageState). TurnsAt Keeps id v x z LooksAtPage) (sym same) (turns id v x x (follows_self x))
