-- How many halves a stand has, with one more row.
use Rattle.std.proofs.Common.{◌≡◌, ◌∙◌, ◌+◌, ℕ, Bool, true, false, cond, List, refl, ap, arith, Option, Some, unwrap_or}
use Rattle.std.specs.Str.{bytes_eq}
use Rattle.std.specs.Ordering.{nat_cmp}
use Rattle.std.specs.Cmp.Lexicographic.{slice_cmp, bytes_decides}
use Rattle.std.specs.BTreeMap.{BTreeMap, get, Updates}
use Rattle.std.proofs.lemmas.Map.Text.{is_eq-slice_cmp}
use Rattle.apron_rules.specs.Tables.{half_count}

by_test : (b : Bool) (before : ℕ) (there : Option ℕ) → (b ≡ true → before ≡ unwrap_or there 0) → unwrap_or (cond b (Some (before + 1)) there) 0 ≡ unwrap_or there 0 + cond b 1 0
by_test true before there h = ap (λ n. n + 1) (h refl)
by_test false before there h = omega arith

pub count_next : (m n : BTreeMap (List ℕ) ℕ) (whole : List ℕ) (before : ℕ) → before ≡ half_count m whole → Updates (slice_cmp nat_cmp) m n whole (Some (before + 1))
    → (name : List ℕ) → half_count n name ≡ half_count m name + cond (bytes_eq whole name) 1 0
count_next m n whole before e updates name =
    let same : bytes_eq whole name ≡ true → before ≡ half_count m name = λ t. e ∙ ap (half_count m) ((bytes_decides whole name).0 t) in
    rw (updates.0 name, is_eq-slice_cmp whole name) (by_test (bytes_eq whole name) before (get (slice_cmp nat_cmp) m name) same)
