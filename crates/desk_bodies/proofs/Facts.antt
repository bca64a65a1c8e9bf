-- Facts under names that an attribute can write.
use Rattle.std.proofs.Common.{◌≡◌, ℕ, List, true, false, cond, None, refl, length}
use Rattle.std.specs.Str.{IsUtf8, is_utf8}
use Rattle.std.proofs.lemmas.Str.{IsUtf8-from_is_utf8}
use Rattle.serde_json.specs.Read.{read}
use Rattle.serde_json.specs.Events.{items_len}
use Rattle.serde_json.specs.View.{items_view}
use Rattle.serde_json.specs.declared.value.Value.{Value}
use Rattle.serde_json.proofs.Views.{items_len-items_view}
use Rattle.desk_bodies.specs.Fields.{body_data}

pub values_len : (vs : List Value) → items_len (items_view vs) ≡ length vs
values_len vs = items_len-items_view vs

pub body_data_none : (bytes : List ℕ) → (IsUtf8 bytes → read bytes ≡ None) → body_data bytes ≡ None
unfolding body_data
body_data_none bytes h =
    elim (is_utf8 bytes) as (λ b. is_utf8 bytes ≡ b → cond b (read bytes) None ≡ None)
    [ true ↦ λ e. h (IsUtf8-from_is_utf8 bytes e) | false ↦ λ e. refl ] refl
