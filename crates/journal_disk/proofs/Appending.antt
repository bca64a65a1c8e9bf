-- The phases of an append: the gate is closed again if that is needed, the record is staged, and
-- the gate is opened.
use Rattle.std.proofs.Common.{◌≡◌, ◌⊎◌, inl, inr, ℕ, ◌+◌, ◌≤◌, ◌<◌, List, [], ◌∷◌, ◌++◌, length, Bool, true, false, refl, sym, ◌∙◌, ap, arith, length-append}
use Rattle.std.specs.Prelude.{Option, Some, None}
use Rattle.std.specs.Option.{option_map}
use Rattle.std.proofs.lemmas.List.{length_push}
use Rattle.apron_base.specs.Keeper.{IsRiskOf, with_last}
use Rattle.journal_disk.specs.Disk.{Continues, DiskState, EachImage, EachImageSince, IfExposed, TellsAlike}
use Rattle.journal_disk.specs.Entries.{records, with_length, IsEntry}
use Rattle.journal_disk.specs.Extent.{AppendsSafely, Extent, IsCrashSafe, IsExtentOf, IsSettled, StandsFor, entries_within, entry_at_risk, entry_if}
use Rattle.journal_disk.specs.Gates.{FromClosed, FromGate, FromWhole, GateIs, IsClosed, IsRecord, IsWhole}
use Rattle.journal_disk.specs.Limits.{most_entries}
use Rattle.journal_disk.proofs.Moments.{at_last, since_map, since_then}
use Rattle.journal_disk.proofs.Settled.{closed_stands, every-push, front-push, gate_stands, kept_safe, list_told, open_record, place_inside, risk_told, stands_as, whole_stands}
use Rattle.journal_disk.proofs.Tells.{between_any, told_after, told_before, mapped, map_map, Any}

-- what a disk now reads as is one of the images that a crash may leave
abbrev pub Reads : DiskState → Type 0
Reads disk = IfExposed disk (disk.images disk.moment)

-- how a call ends that failed: the entries are kept, and it is known what may be found after them
pub record HasFailed (extent other : Extent) (before now : DiskState) (entry : List ℕ) : Type 0 where
  pub kept : IsExtentOf other now
  pub entries : option_map (entries_within other) now.contents ≡ option_map (entries_within extent) before.contents
  pub at_risk : IsRiskOf (entry_at_risk other now.contents) (entry_at_risk extent before.contents) entry
  pub crash : AppendsSafely extent before now entry
  pub afterwards : IsCrashSafe other now

-- how a call ends that succeeded: the entry is last
pub record HasAdded (extent other : Extent) (before now : DiskState) (entry : List ℕ) : Type 0 where
  pub kept : IsExtentOf other now
  pub entries : option_map (entries_within other) now.contents ≡ option_map (with_last entry) (option_map (entries_within extent) before.contents)
  pub crash : AppendsSafely extent before now entry
  pub afterwards : IsCrashSafe other now

pub not_unclean : {A : Type 0} → false ≡ true → A
not_unclean u = absurd (cc u)

-- the extent with its gate in another state
abbrev pub with_gate : Extent → Bool → Extent
with_gate extent unclean = record { first = extent.first; place = extent.place; number = extent.number; unclean = unclean }

-- the extent with this entry after the others
abbrev pub with_entry : Extent → List ℕ → Extent
with_entry extent entry = record { first = extent.first; place = extent.place + (3 + length entry); number = extent.number + 1; unclean = false }

gate_inside : (front : List ℕ) (place : ℕ) → length front ≡ place → (bytes : List ℕ) → IsClosed front bytes → place + 1 ≤ length bytes
gate_inside front place long bytes closed = omega (arith, long, ap length closed.text, length-append front (closed.gate ∷ closed.rest))

whole_inside : (entry front : List ℕ) (place : ℕ) → length front ≡ place → (bytes : List ℕ) → IsWhole entry front bytes → place ≤ length bytes
whole_inside entry front place long bytes whole = omega (arith, long, ap length whole.1.text, length-append front (whole.0 ∷ (with_length entry ++ whole.1.next ∷ whole.1.rest)))

-- the same front, with something else after it
abbrev resettled : (extent : Extent) (unclean : Bool) (before now : DiskState) (s : IsSettled extent before) (risk : List ℕ)
    → (unclean ≡ true → IsEntry risk × (extent.number < most_entries)) → EachImage now (GateIs unclean risk (s.front ++ records s.entries)) → IsSettled (with_gate extent unclean) now
resettled extent unclean before now s risk fits gate = record {
  front = s.front;
  begins = s.begins;
  entries = s.entries;
  risk = risk;
  first = s.first;
  sizes = s.sizes;
  count = s.count;
  at = s.at;
  fits = fits;
  gate = gate;
}

-- a journal on a disk before an append of this entry
module _ (extent : Extent) (before : DiskState) (kept : IsExtentOf extent before) (reads : Reads before) where
  abbrev front : (bytes : List ℕ) → before.contents ≡ Some bytes → List ℕ
  front bytes is = (kept.settled bytes is).front ++ records (kept.settled bytes is).entries

  abbrev risk : (bytes : List ℕ) → before.contents ≡ Some bytes → List ℕ
  risk bytes is = (kept.settled bytes is).risk

  -- the bytes reach past the gate place
  pub inside : IfExposed before (λ bytes. extent.place ≤ length bytes)
  inside bytes is = place_inside extent before kept.few (kept.settled bytes is) bytes (reads bytes is)

  -- what the images of a later state have after the front
  abbrev Behind : DiskState → (List ℕ → List ℕ → Type 0) → Type 0
  Behind now P = (bytes : List ℕ) (is : before.contents ≡ Some bytes) → EachImage now (P (front bytes is))

  -- the journal with something else at its gate
  still_kept : (unclean : Bool) (now : DiskState) (other : (bytes : List ℕ) → before.contents ≡ Some bytes → List ℕ) → TellsAlike before now
      → ((bytes : List ℕ) (is : before.contents ≡ Some bytes) → unclean ≡ true → IsEntry (other bytes is) × (extent.number < most_entries))
      → ((bytes : List ℕ) (is : before.contents ≡ Some bytes) → EachImage now (GateIs unclean (other bytes is) (front bytes is)))
      → IsExtentOf (with_gate extent unclean) now
  still_kept unclean now other tells fits gate = record {
    first = kept.first;
    few = kept.few;
    within = kept.within;
    settled = λ bytes is. let was = told_before Any before.contents now.contents bytes tells is in resettled extent unclean before now (kept.settled was.0 was.1) (other was.0 was.1) (fits was.0 was.1) (gate was.0 was.1);
  }

  -- its entries are those from before
  same_entries : (unclean : Bool) (now : DiskState) (other : (bytes : List ℕ) → before.contents ≡ Some bytes → List ℕ) → TellsAlike before now → Reads now
      → ((bytes : List ℕ) (is : before.contents ≡ Some bytes) → unclean ≡ true → IsEntry (other bytes is) × (extent.number < most_entries))
      → ((bytes : List ℕ) (is : before.contents ≡ Some bytes) → EachImage now (GateIs unclean (other bytes is) (front bytes is)))
      → option_map (entries_within (with_gate extent unclean)) now.contents ≡ option_map (entries_within extent) before.contents
  same_entries unclean now other tells reads_now fits gate =
      mapped (entries_within extent) (entries_within (with_gate extent unclean)) before.contents now.contents tells (λ bytes later is is_now.
      let s = resettled extent unclean before now (kept.settled bytes is) (other bytes is) (fits bytes is) (gate bytes is) in
      list_told (with_gate extent unclean) now kept.few s later (reads_now later is_now) ∙ sym (list_told extent before kept.few (kept.settled bytes is) bytes (reads bytes is)))

  -- the entry at risk is the one from before
  same_risk : (now : DiskState) → TellsAlike before now → Reads now
      → ((bytes : List ℕ) (is : before.contents ≡ Some bytes) → EachImage now (GateIs extent.unclean (risk bytes is) (front bytes is)))
      → entry_at_risk extent now.contents ≡ entry_at_risk extent before.contents
  same_risk now tells reads_now gate =
      as_told extent.unclean before.contents now.contents tells (λ bytes later is is_now u.
      let s = kept.settled bytes is in
      risk_told (with_gate extent extent.unclean) now (resettled extent extent.unclean before now s s.risk s.fits (gate bytes is)) later is_now (reads_now later is_now) u
      ∙ sym (risk_told extent before s bytes is (reads bytes is) u))
    where
      as_told : (unclean : Bool) (told later : Option (List ℕ)) → TellsAlike (record before { contents = told }) (record before { contents = later })
          → ((bytes now : List ℕ) → told ≡ Some bytes → later ≡ Some now → unclean ≡ true → entry_if unclean extent.place later ≡ entry_if unclean extent.place told)
          → entry_if unclean extent.place later ≡ entry_if unclean extent.place told
      as_told false told later tells same = refl
      as_told true None None tells same = refl
      as_told true None (Some n) tells same = absurd tells
      as_told true (Some o) None tells same = absurd tells
      as_told true (Some o) (Some n) tells same = same o n refl refl refl

  module _ (entry : List ℕ) (size : IsEntry entry) (room : extent.number < most_entries) where
    -- the entries that may be found after the list
    abbrev AtRisk : List ℕ → Type 0
    AtRisk other = (other ≡ entry) ⊎ (entry_at_risk extent before.contents ≡ Some other)

    gate_is : (bytes : List ℕ) (is : before.contents ≡ Some bytes) (image : List ℕ) → GateIs extent.unclean (risk bytes is) (front bytes is) image → StandsFor extent bytes AtRisk image
    gate_is bytes is image gate =
        let s = kept.settled bytes is in
        let here = reads bytes is in
        stands_as extent before kept.few s bytes here AtRisk image (gate_stands extent.first s.front s.entries s.first s.sizes AtRisk image extent.unclean s.risk (omega (arith, s.count, kept.few)) (λ u. inr (risk_told extent before s bytes is here u)) (λ u. ((s.fits u).0, omega (arith, s.count, (s.fits u).1))) gate)

    closed_is : (bytes : List ℕ) (is : before.contents ≡ Some bytes) (image : List ℕ) → IsClosed (front bytes is) image → StandsFor extent bytes AtRisk image
    closed_is bytes is image closed =
        let s = kept.settled bytes is in
        stands_as extent before kept.few s bytes (reads bytes is) AtRisk image (closed_stands extent.first s.front s.entries s.first s.sizes AtRisk image (omega (arith, s.count, kept.few)) closed)

    whole_is : (bytes : List ℕ) (is : before.contents ≡ Some bytes) (image : List ℕ) → IsWhole entry (front bytes is) image → StandsFor extent bytes AtRisk image
    whole_is bytes is image whole =
        let s = kept.settled bytes is in
        stands_as extent before kept.few s bytes (reads bytes is) AtRisk image (whole_stands extent.first s.front s.entries s.first s.sizes AtRisk image entry (inl refl) size (omega (arith, s.count, room)) whole)

    -- the disk after the mending
    module _ (mended : DiskState) (goes : Continues before mended) (reads_mended : Reads mended)
        (crash : FromGate extent.place extent.unclean before (λ other f. EachImageSince before mended (GateIs extent.unclean other f))) where
      mending : AppendsSafely extent before mended entry
      mending bytes is =
          let s = kept.settled bytes is in
          since_map before mended (GateIs extent.unclean s.risk (front bytes is)) (StandsFor extent bytes AtRisk) (crash s.risk (front bytes is) s.at s.gate) (gate_is bytes is)

      -- the mending failed
      pub mending_failed : HasFailed extent extent before mended entry
      mending_failed =
          let gate : (bytes : List ℕ) (is : before.contents ≡ Some bytes) → EachImage mended (GateIs extent.unclean (risk bytes is) (front bytes is)) = λ bytes is. at_last before mended _ goes.clock (crash (risk bytes is) (front bytes is) (kept.settled bytes is).at (kept.settled bytes is).gate) in
          let still = still_kept extent.unclean mended risk goes.tells (λ bytes is. (kept.settled bytes is).fits) gate in
          record {
            kept = still;
            entries = same_entries extent.unclean mended risk goes.tells reads_mended (λ bytes is. (kept.settled bytes is).fits) gate;
            at_risk = inr (inl (same_risk mended goes.tells reads_mended gate));
            crash = mending;
            afterwards = kept_safe extent mended still reads_mended;
          }

      module _ (mend : FromGate extent.place extent.unclean before (λ other f. IfExposed before (λ _. EachImage mended (IsClosed f)))) where
        closed : Behind mended IsClosed
        closed bytes is = mend (risk bytes is) (front bytes is) (kept.settled bytes is).at (kept.settled bytes is).gate bytes is

        -- the record goes inside the disk
        pub stage_inside : IfExposed mended (λ bytes. extent.place + 1 ≤ length bytes)
        stage_inside bytes is =
            let was = told_before Any before.contents mended.contents bytes goes.tells is in
            gate_inside (front was.0 was.1) extent.place (kept.settled was.0 was.1).at bytes (closed was.0 was.1 bytes (reads_mended bytes is))

        -- the disk after the record was staged
        module _ (staged : DiskState) (goes_staged : Continues mended staged) (reads_staged : Reads staged)
            (crash_staged : FromClosed extent.place mended (λ f. EachImageSince mended staged (IsClosed f))) where
          told_staged : TellsAlike before staged
          told_staged = between_any before.contents mended.contents staged.contents goes.tells goes_staged.tells

          staging : AppendsSafely extent before staged entry
          staging bytes is =
              since_then before mended staged (StandsFor extent bytes AtRisk) (mending bytes is) goes_staged.clock
              (since_map mended staged (IsClosed (front bytes is)) (StandsFor extent bytes AtRisk) (crash_staged (front bytes is) (kept.settled bytes is).at (closed bytes is)) (closed_is bytes is))

          -- the staging failed
          pub staging_failed : HasFailed extent (with_gate extent false) before staged entry
          staging_failed =
              let gate : (bytes : List ℕ) (is : before.contents ≡ Some bytes) → EachImage staged (IsClosed (front bytes is)) = λ bytes is. at_last mended staged _ goes_staged.clock (crash_staged (front bytes is) (kept.settled bytes is).at (closed bytes is)) in
              let still = still_kept false staged (λ bytes is. []) told_staged (λ bytes is. not_unclean) gate in
              record {
                kept = still;
                entries = same_entries false staged (λ bytes is. []) told_staged reads_staged (λ bytes is. not_unclean) gate;
                at_risk = inl refl;
                crash = staging;
                afterwards = kept_safe (with_gate extent false) staged still reads_staged;
              }

          module _ (stage : FromClosed extent.place mended (λ f. IfExposed mended (λ _. EachImage staged (IsWhole entry f)))) where
            whole : Behind staged (IsWhole entry)
            whole bytes is =
                let after = told_after Any before.contents mended.contents bytes goes.tells is in
                stage (front bytes is) (kept.settled bytes is).at (closed bytes is) after.0 after.1

            -- the gate is inside the disk
            pub set_inside : IfExposed staged (λ bytes. extent.place ≤ length bytes)
            set_inside bytes is =
                let was = told_before Any before.contents staged.contents bytes told_staged is in
                whole_inside entry (front was.0 was.1) extent.place (kept.settled was.0 was.1).at bytes (whole was.0 was.1 bytes (reads_staged bytes is))

            -- the disk after the gate was opened
            module _ (now : DiskState) (goes_now : Continues staged now) (reads_now : Reads now)
                (crash_now : FromWhole extent.place staged (λ other f. EachImageSince staged now (IsWhole other f))) where
              told_now : TellsAlike before now
              told_now = between_any before.contents staged.contents now.contents told_staged goes_now.tells

              opening : AppendsSafely extent before now entry
              opening bytes is =
                  since_then before staged now (StandsFor extent bytes AtRisk) (staging bytes is) goes_now.clock
                  (since_map staged now (IsWhole entry (front bytes is)) (StandsFor extent bytes AtRisk) (crash_now entry (front bytes is) (kept.settled bytes is).at (whole bytes is)) (whole_is bytes is))

              -- the opening failed
              pub opening_failed : HasFailed extent (with_gate extent true) before now entry
              opening_failed =
                  let gate : (bytes : List ℕ) (is : before.contents ≡ Some bytes) → EachImage now (IsWhole entry (front bytes is)) = λ bytes is. at_last staged now _ goes_now.clock (crash_now entry (front bytes is) (kept.settled bytes is).at (whole bytes is)) in
                  let still = still_kept true now (λ bytes is. entry) told_now (λ bytes is u. (size, room)) gate in
                  record {
                    kept = still;
                    entries = same_entries true now (λ bytes is. entry) told_now reads_now (λ bytes is u. (size, room)) gate;
                    at_risk = one_of now.contents (λ bytes is.
                        let was = told_before Any before.contents now.contents bytes told_now is in
                        risk_told (with_gate extent true) now (resettled extent true before now (kept.settled was.0 was.1) entry (λ u. (size, room)) (gate was.0 was.1)) bytes is (reads_now bytes is) refl);
                    crash = opening;
                    afterwards = kept_safe (with_gate extent true) now still reads_now;
                  }
                where
                  one_of : (contents : Option (List ℕ)) → ((bytes : List ℕ) → contents ≡ Some bytes → entry_if true extent.place contents ≡ Some entry) → IsRiskOf (entry_if true extent.place contents) (entry_at_risk extent before.contents) entry
                  one_of None is_risk = inl refl
                  one_of (Some bytes) is_risk = inr (inr (is_risk bytes refl))

              module _ (set : FromWhole extent.place staged (λ other f. IfExposed staged (λ _. EachImage now (IsRecord 1 other f)))) where
                opened : Behind now (IsRecord 1 entry)
                opened bytes is =
                    let after = told_after Any before.contents staged.contents bytes told_staged is in
                    set entry (front bytes is) (kept.settled bytes is).at (whole bytes is) after.0 after.1

                abbrev settled : (bytes : List ℕ) (is : before.contents ≡ Some bytes) → IsSettled (with_entry extent entry) now
                settled bytes is =
                    let s = kept.settled bytes is in
                    record {
                      front = s.front;
                      begins = s.begins;
                      entries = s.entries ++ entry ∷ [];
                      risk = [];
                      first = s.first;
                      sizes = every-push s.entries entry s.sizes size;
                      count = omega (arith, s.count, length_push s.entries entry);
                      at = omega (arith, s.at, ap length (front-push extent.first s.front s.entries s.first s.sizes entry), length-append (s.front ++ records s.entries) (1 ∷ with_length entry));
                      fits = not_unclean;
                      gate = λ image left. open_record extent.first s.front s.entries s.first s.sizes entry image (opened bytes is image left);
                    }

                -- the entry was added
                pub has_added : HasAdded extent (with_entry extent entry) before now entry
                has_added =
                    let added : IsExtentOf (with_entry extent entry) now = record {
                      first = kept.first;
                      few = omega (arith, room);
                      within = omega (arith, kept.within, size.1);
                      settled = λ bytes is. let was = told_before Any before.contents now.contents bytes told_now is in settled was.0 was.1;
                    } in
                    record {
                      kept = added;
                      entries =
                          mapped (λ bytes. with_last entry (entries_within extent bytes)) (entries_within (with_entry extent entry)) before.contents now.contents told_now (λ bytes later is is_now.
                          list_told (with_entry extent entry) now (omega (arith, room)) (settled bytes is) later (reads_now later is_now)
                          ∙ ap (with_last entry) (sym (list_told extent before kept.few (kept.settled bytes is) bytes (reads bytes is))))
                          ∙ map_map (with_last entry) (entries_within extent) before.contents;
                      crash = opening;
                      afterwards = kept_safe (with_entry extent entry) now added reads_now;
                    }
