-- The drafts of a plan as one more is kept.
use Rattle.std.proofs.Common.{◌≡◌, ◌<◌, ◌≤◌, ◌+◌, ◌++◌, ◌∙◌, ℕ, zero, suc, Bool, true, false, cond, List, [], ◌∷◌, length, take, ap, refl, subst, sym, arith, Option, None, Some, IfSome}
use Rattle.std.specs.BTreeMap.{BTreeMap, get, is_at}
use Rattle.std.specs.Prelude.{slice_get, slice_index_or}
use Rattle.std.proofs.lemmas.List.{length_push, take-append-le, take_more}
use Rattle.std.proofs.lemmas.Option.{slice_get_read}
use Rattle.apron_base.specs.Histories.{Rises}
use Rattle.plan_core.specs.declared.drafts.DraftId.{DraftId}
use Rattle.plan_core.specs.declared.drafts.Drafted.{Drafted}
use Rattle.plan_core.specs.Drafts.{AreDifferent, AreDraftsAt, AreIndexed, IsIndexOf, compare_drafts, draft_version, drafted_version, is_draft, with_draft}
use Rattle.plan_core.proofs.DraftIndex.{draft_either_way, index_pushed, version_pushed}

-- a later end
rises_up : (low high up : ℕ) (drafts : List Drafted) → high ≤ up → Rises drafted_version low high drafts → Rises drafted_version low up drafts
rises_up low high up [] le h = omega arith
rises_up low high up (d ∷ drafts) le h = (h.0, rises_up (d.version + 1) high up drafts le h.1)

-- one more
rises_push : (low high up : ℕ) (drafts : List Drafted) (last : Drafted) → high ≤ last.version → last.version < up → Rises drafted_version low high drafts
    → Rises drafted_version low up (drafts ++ last ∷ [])
rises_push low high up [] last from below h = (omega arith, omega arith)
rises_push low high up (d ∷ drafts) last from below h = (h.0, rises_push (d.version + 1) high up drafts last from below h.1)

-- a draft that is none of the others, tested first
not_first : (d : Drafted) (drafts : List Drafted) (desk : List ℕ) (number : ℕ) (b : Bool) → is_draft desk number d.id ≡ b
    → draft_version (d ∷ drafts) desk number ≡ None → (b ≡ false) × (draft_version drafts desk number ≡ None)
not_first d drafts desk number true is none = let found : draft_version (d ∷ drafts) desk number ≡ Some d.version = rw is refl in absurd (cc)
not_first d drafts desk number false is none = (refl, rw is at none)

different_push : (drafts : List Drafted) (last : Drafted) → draft_version drafts last.id.desk last.id.number ≡ None → AreDifferent drafts
    → AreDifferent (drafts ++ last ∷ [])
different_push [] last new h = (refl, tt)
different_push (d ∷ drafts) last new h =
    let first = not_first d drafts last.id.desk last.id.number (is_draft last.id.desk last.id.number d.id) refl new in
    let other : is_draft d.id.desk d.id.number last.id ≡ false = draft_either_way d.id.desk last.id.desk d.id.number last.id.number ∙ first.0 in (
      rw (version_pushed drafts last d.id.desk d.id.number false other (λ never. absurd (cc))) h.0,
      different_push drafts last first.1 h.1,
    )

-- a draft is none that comes before it
other_than : (drafts : List Drafted) (i : ℕ) (last : Drafted) (desk : List ℕ) (number : ℕ) → draft_version drafts desk number ≡ None
    → slice_get drafts i ≡ Some last → is_draft desk number last.id ≡ false
other_than [] i last desk number none at = absurd (cc)
other_than (d ∷ drafts) zero last desk number none at =
    let same : d ≡ last = cc in
    subst (λ (e : Drafted). is_draft desk number e.id ≡ false) same (not_first d drafts desk number (is_draft desk number d.id) refl none).0
other_than (d ∷ drafts) (suc i) last desk number none at =
    other_than drafts i last desk number (not_first d drafts desk number (is_draft desk number d.id) refl none).1 at

new_there : (drafts : List Drafted) (i : ℕ) (last : Drafted) → AreDifferent drafts → slice_get drafts i ≡ Some last
    → draft_version (take i drafts) last.id.desk last.id.number ≡ None
new_there [] i last h at = absurd (cc)
new_there (d ∷ drafts) zero last h at = refl
new_there (d ∷ drafts) (suc i) last h at =
    let other : is_draft last.id.desk last.id.number d.id ≡ false =
    draft_either_way last.id.desk d.id.desk last.id.number d.id.number ∙ other_than drafts i last d.id.desk d.id.number h.0 at in
    rw other (new_there drafts i last h.1 at)

-- the index with one more draft
pub indexed_more : (old new : BTreeMap DraftId ℕ) (drafts : List Drafted) (i : ℕ) (last : Drafted) → AreIndexed old i drafts → i < length drafts
    → last ≡ slice_index_or drafts i last
    → ((id : DraftId) → get compare_drafts new id ≡ cond (is_at (compare_drafts last.id) id) (Some last.version) (get compare_drafts old id))
    → AreIndexed new (i + 1) drafts
indexed_more old new drafts i last h within is puts =
    let next : take (i + 1) drafts ≡ take i drafts ++ last ∷ [] = take_more drafts i last within ∙ ap (λ (d : Drafted). take i drafts ++ d ∷ []) (sym is) in
    record {
      different = h.different;
      few = omega arith;
      index = subst (IsIndexOf new) (sym next) (index_pushed old new (take i drafts) last h.index
          (new_there drafts i last h.different (slice_get_read drafts (length drafts) i last refl within is)) puts);
    }

-- a draft that comes last and is not in the index
pub indexed_push : (versions : BTreeMap DraftId ℕ) (indexed : ℕ) (drafts : List Drafted) (last : Drafted) → AreIndexed versions indexed drafts
    → draft_version drafts last.id.desk last.id.number ≡ None → AreIndexed versions indexed (drafts ++ last ∷ [])
indexed_push versions indexed drafts last h new = record {
  different = different_push drafts last new h.different;
  few = omega (arith, h.few, length_push drafts last);
  index = subst (IsIndexOf versions) (sym (take-append-le indexed drafts (last ∷ []) h.few)) h.index;
}

-- the drafts of the next version, with one more or not
pub drafts_kept : (version next : ℕ) (drafts : List Drafted) (draft : Option DraftId) → next ≡ version + 1
    → IfSome draft (λ id. draft_version drafts id.desk id.number ≡ None) → AreDraftsAt version drafts → AreDraftsAt next (with_draft drafts draft next)
drafts_kept version next drafts None is new h = record { rising = rises_up 1 (version + 1) (next + 1) drafts (omega arith) h.rising; different = h.different }
drafts_kept version next drafts (Some id) is new h = record {
  rising = rises_push 1 (version + 1) (next + 1) drafts (record { id = id; version = next }) (omega arith) (omega arith) h.rising;
  different = different_push drafts (record { id = id; version = next }) new h.different;
}

rises_order : (low high : ℕ) (drafts : List Drafted) → Rises drafted_version low high drafts → low ≤ high
rises_order low high [] h = h
rises_order low high (d ∷ drafts) h = let rest : d.version + 1 ≤ high = rises_order (d.version + 1) high drafts h.1 in let first : low ≤ d.version = h.0 in omega arith

version_in : (low high : ℕ) (drafts : List Drafted) (desk : List ℕ) (number version : ℕ) → Rises drafted_version low high drafts
    → draft_version drafts desk number ≡ Some version → (low ≤ version) × (version < high)
version_in low high [] desk number version h is = absurd (cc)
version_in low high (d ∷ drafts) desk number version h is =
    here (is_draft desk number d.id) refl (λ left. version_in (d.version + 1) high drafts desk number version h.1 left)
  where
    first : low ≤ d.version
    first = h.0

    end : d.version + 1 ≤ high
    end = rises_order (d.version + 1) high drafts h.1

    here : (b : Bool) → is_draft desk number d.id ≡ b → (draft_version drafts desk number ≡ Some version → (d.version + 1 ≤ version) × (version < high))
        → (low ≤ version) × (version < high)
    here true at rest =
        let found : ◌≡◌ {A = Option ℕ} (Some d.version) (Some version) = rw at at is in
        let same : d.version ≡ version = cc in
        (omega (arith, first, same), omega (arith, end, same))
    here false at rest = let left = rest (rw at at is) in (omega (arith, first, left.0), left.1)

-- the version that a draft made is one that the plan had
pub version_had : (version : ℕ) (drafts : List Drafted) (desk : List ℕ) (number made : ℕ) → AreDraftsAt version drafts
    → draft_version drafts desk number ≡ Some made → (1 ≤ made) × (made ≤ version)
version_had version drafts desk number made h is =
    let within = version_in 1 (version + 1) drafts desk number made h.rising is in (within.0, omega (arith, within.1))
