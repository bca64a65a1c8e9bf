-- What a chain of results gives.
use Rattle.std.proofs.Common.{◌≡◌, false, refl, Option, None, Some, Result, Ok, Err, ok_or}
use Rattle.std.specs.Prelude.{OnOk, is_err}
use Rattle.apron_base.specs.ResultChain.{◌>>=◌}

-- if a chain gives a value, its first part gave one, from which the rest made that value
pub then_ok : {T U E : Type 0} (first : Result T E) (next : T → Result U E) (y : U) → (first >>= next) ≡ Ok y
    → (x : T) × (first ≡ Ok x) × (next x ≡ Ok y)
then_ok (Ok x) next y e = (x, refl, e)
then_ok (Err fault) next y e = absurd (cc)

pub found_ok : {T E : Type 0} (found : Option T) (fault : E) (x : T) → ok_or found fault ≡ Ok x → found ≡ Some x
found_ok (Some y) fault x e = cc
found_ok None fault x e = absurd (cc)

pub ok_is : {T E : Type 0} (x y : T) → ◌≡◌ {A = Result T E} (Ok x) (Ok y) → x ≡ y
ok_is x y e = cc

pub err_is : {T E : Type 0} (x y : E) → ◌≡◌ {A = Result T E} (Err x) (Err y) → x ≡ y
err_is x y e = cc

pub not_both : {T E : Type 0} (x : T) (y : E) → ◌≡◌ {A = Result T E} (Ok x) (Err y) → ⊥
not_both x y e = cc

-- what a clause says of a call that gives a value holds if it gave one
pub on_ok : {T E P : Type 0} (r : Result T E) (x : T) → r ≡ Ok x → OnOk r P → P
on_ok (Ok y) x e h = h
on_ok (Err fault) x e h = absurd (cc)

pub not_err : {T E P : Type 0} (r : Result T E) → is_err r ≡ false → OnOk r P → P
not_err (Ok x) e h = h
not_err (Err fault) e h = absurd (cc)
