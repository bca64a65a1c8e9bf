-- The versions of drafts by their ids.
use Rattle.std.proofs.Common.{◌≡◌, ◌∙◌, ◌++◌, ◌∷◌, [], ◌==◌, ◌&&◌, ℕ, Bool, true, false, List, Option, None, Some, arith, cond, refl, sym, ap, take, drop}
use Rattle.std.specs.BTreeMap.{BTreeMap, get, is_at}
use Rattle.std.specs.Cmp.{nat_eq_equiv, unsigned_ties}
use Rattle.std.specs.Cmp.Lexicographic.{bytes_decides, nat_list_eq_equiv, slice_cmp, texts_ties}
use Rattle.std.specs.Option.{option_map, option_or}
use Rattle.std.specs.Ordering.{is_eq, nat_cmp, ordering_then}
use Rattle.std.specs.declared.cmp.Ordering.{Ordering}
use Rattle.std.specs.declared.cmp.Ordering.TheVariants.{Less, Equal, Greater}
use Rattle.std.specs.Prelude.{find}
use Rattle.std.specs.Str.{bytes_eq}
use Rattle.std.proofs.lemmas.Bool.Decides.{nat_tests}
use Rattle.std.proofs.lemmas.List.Folds.{find-append}
use Rattle.std.proofs.Math.ListN.{take-append-drop}
use Rattle.plan_core.specs.declared.drafts.DraftId.{DraftId}
use Rattle.plan_core.specs.declared.drafts.Drafted.{Drafted}
use Rattle.plan_core.specs.Drafts.{IsIndexOf, compare_drafts, draft_version, is_draft}

none_found : (found : Option Drafted) (last : Drafted) (b : Bool) → option_map (λ (drafted : Drafted). drafted.version) found ≡ None
    → option_map (λ (drafted : Drafted). drafted.version) (option_or found (cond b (Some last) None)) ≡ cond b (Some last.version) None
none_found None last true none = refl
none_found None last false none = refl
none_found (Some drafted) last b none = absurd (cc)

other_found : (found : Option Drafted) → option_or found None ≡ found
other_found None = refl
other_found (Some drafted) = refl

-- the version of a draft, with one more kept
pub version_pushed : (drafts : List Drafted) (last : Drafted) (desk : List ℕ) (draft : ℕ) (b : Bool) → is_draft desk draft last.id ≡ b
    → (b ≡ true → draft_version drafts desk draft ≡ None)
    → draft_version (drafts ++ last ∷ []) desk draft ≡ cond b (Some last.version) (draft_version drafts desk draft)
version_pushed drafts last desk draft true is new =
    rw (find-append (λ (drafted : Drafted). is_draft desk draft drafted.id) drafts (last ∷ []), is)
    (none_found (find (λ (drafted : Drafted). is_draft desk draft drafted.id) drafts) last true (new refl))
version_pushed drafts last desk draft false is new =
    rw (find-append (λ (drafted : Drafted). is_draft desk draft drafted.id) drafts (last ∷ []), is)
    (ap (option_map (λ (drafted : Drafted). drafted.version)) (other_found (find (λ (drafted : Drafted). is_draft desk draft drafted.id) drafts)))

-- whether drafts have the same desk and number does not depend on their order
pub draft_either_way : (a b : List ℕ) (m n : ℕ) → (bytes_eq a b && (m == n)) ≡ (bytes_eq b a && (n == m))
draft_either_way a b m n = rw (nat_list_eq_equiv.symm a b, nat_eq_equiv.symm m n) refl

same_draft : (a b : List ℕ) (m n : ℕ) (same : Bool) → bytes_eq a b ≡ same → (same && (m == n)) ≡ true → (a ≡ b) × (m ≡ n)
same_draft a b m n true is h = ((bytes_decides a b).0 is, grind (arith, nat_tests))
same_draft a b m n false is h = absurd (cc)

both_equal : (first second : Ordering) → is_eq (ordering_then first second) ≡ (is_eq first && is_eq second)
both_equal Less second = refl
both_equal Equal second = refl
both_equal Greater second = refl

-- the order of drafts tells apart those of different desks or numbers
pub order_of_drafts : (id other : DraftId) → is_at (compare_drafts id) other ≡ is_draft id.desk id.number other
order_of_drafts id other =
    both_equal (slice_cmp nat_cmp id.desk other.desk) (nat_cmp id.number other.number)
    ∙ rw (← texts_ties id.desk other.desk, ← unsigned_ties id.number other.number) refl

-- a map with one more version is the index of the drafts with one more
pub index_pushed : (old new : BTreeMap DraftId ℕ) (drafts : List Drafted) (last : Drafted)
    → IsIndexOf old drafts → draft_version drafts last.id.desk last.id.number ≡ None
    → ((id : DraftId) → get compare_drafts new id ≡ cond (is_at (compare_drafts last.id) id) (Some last.version) (get compare_drafts old id))
    → IsIndexOf new (drafts ++ last ∷ [])
index_pushed old new drafts last index none puts id =
    let turned : is_at (compare_drafts last.id) id ≡ is_draft id.desk id.number last.id =
    order_of_drafts last.id id ∙ draft_either_way last.id.desk id.desk last.id.number id.number in
    let free : is_draft id.desk id.number last.id ≡ true → draft_version drafts id.desk id.number ≡ None = λ h.
    let same = same_draft id.desk last.id.desk id.number last.id.number (bytes_eq id.desk last.id.desk) refl h in rw (same.0, same.1) none in
    let pushed = version_pushed drafts last id.desk id.number (is_draft id.desk id.number last.id) refl free in
    puts id ∙ (rw (turned, index id) refl ∙ sym pushed)

map_or : (found other : Option Drafted)
    → option_map (λ (drafted : Drafted). drafted.version) (option_or found other)
    ≡ option_or (option_map (λ (drafted : Drafted). drafted.version) found) (option_map (λ (drafted : Drafted). drafted.version) other)
map_or None other = refl
map_or (Some drafted) other = refl

-- a version is that of one of the first drafts, or else of one of the others
version_split : (drafts : List Drafted) (indexed : ℕ) (desk : List ℕ) (draft : ℕ)
    → draft_version drafts desk draft ≡ option_or (draft_version (take indexed drafts) desk draft) (draft_version (drop indexed drafts) desk draft)
version_split drafts indexed desk draft =
    let test : Drafted → Bool = λ drafted. is_draft desk draft drafted.id in
    ap (λ (ds : List Drafted). draft_version ds desk draft) (sym (take-append-drop indexed drafts))
    ∙ (ap (option_map (λ (drafted : Drafted). drafted.version)) (find-append test (take indexed drafts) (drop indexed drafts))
    ∙ map_or (find test (take indexed drafts)) (find test (drop indexed drafts)))

pub version_first : (drafts : List Drafted) (indexed : ℕ) (desk : List ℕ) (draft version : ℕ)
    → draft_version (take indexed drafts) desk draft ≡ Some version → draft_version drafts desk draft ≡ Some version
version_first drafts indexed desk draft version found = rw (version_split drafts indexed desk draft, found) refl

pub version_later : (drafts : List Drafted) (indexed : ℕ) (desk : List ℕ) (draft : ℕ)
    → draft_version (take indexed drafts) desk draft ≡ None → draft_version drafts desk draft ≡ draft_version (drop indexed drafts) desk draft
version_later drafts indexed desk draft none = rw (version_split drafts indexed desk draft, none) refl
