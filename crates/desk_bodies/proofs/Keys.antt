-- Keys that are null, and keys that are not.
use Rattle.std.proofs.Common.{◌≡◌, true, false, Some, None, refl, sym, true≢false}
use Rattle.std.specs.Prelude.{option_map, is_some}
use Rattle.serde_json.specs.Data.{Data, null, boolean, number, string, array, object}
use Rattle.serde_json.specs.Find.{as_null}
use Rattle.desk_bodies.specs.Visits.{json_key, json_key_if}

pub null_key : (d : Data) → is_some (as_null d) ≡ true → json_key_if (Some d) ≡ Some None
null_key null is = refl
null_key (boolean b) is = absurd (true≢false (sym is))
null_key (number n) is = absurd (true≢false (sym is))
null_key (string s) is = absurd (true≢false (sym is))
null_key (array ds) is = absurd (true≢false (sym is))
null_key (object ms) is = absurd (true≢false (sym is))

pub other_key : (d : Data) → is_some (as_null d) ≡ false → json_key_if (Some d) ≡ option_map Some (json_key d)
other_key null is = absurd (true≢false is)
other_key (boolean b) is = refl
other_key (number n) is = refl
other_key (string s) is = refl
other_key (array ds) is = refl
other_key (object ms) is = refl
