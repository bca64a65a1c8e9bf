-- Writers, as their board's history grows and its plan is shown.
use Rattle.std.proofs.Common.{◌≡◌, ℕ, ◌+◌, ◌≤◌, ◌<◌, Bool, true, false, List, [], ◌∷◌, ◌++◌, length, refl, sym, ap, ◌∙◌, subst, ⊎_elim, inl, inr, append-nil, append_assoc, length-append, arith, if◌then◌else◌}
use Rattle.std.specs.Prelude.{nat_lt, Result, Ok, Err, OnErr, OnOk}
use Rattle.std.specs.List.{AllZip}
use Rattle.std.proofs.lemmas.Bool.Decides.{nat_tests}
use Rattle.apron_base.specs.Histories.{Every}
use Rattle.apron_base.specs.Keeper.{KeeperState}
use Rattle.apron_base.specs.Machine.{Acts, Leaves}
use Rattle.apron_base.specs.declared.outside.Acted.{Acted}
use Rattle.apron_base.specs.declared.outside.Acted.TheVariants.{Reply, Memory, Fault, Spent}
use Rattle.apron_rules.specs.declared.parts.AirportParts.{AirportParts}
use Rattle.plan_core.specs.PlanState.{PlanState}
use Rattle.desk_asks.specs.declared.asks.Entry.{Entry}
use Rattle.history_core.specs.History.{IsLegal, call_of, replay}
use Rattle.history_core.proofs.Legal.{legal_counted}
use Rattle.history_core.proofs.Replay.{replay-airport}
use Rattle.watch_list.specs.WatchBoards.{watch_fixed, watch_state}
use Rattle.screen_feed.specs.Sheets.{AreAmong, IsAmong, SheetState, last_version, sheet_of, version_after}
use Rattle.logbook.specs.Pages.{Book}
use Rattle.screen_feed.specs.Screens.{HasMissed, HasTried, ScreenState, WriterState, after_lack, after_show, after_try}
use Rattle.screen_feed.proofs.Listing.{last_push}
use Rattle.shown_board.specs.Halls.{CanShow, HallHeld, IsNewWriter, IsOfFront, IsShown, IsWriterOf, SeesFronts, ShowsVersion, hall_state, pairs_of}

-- a history goes on from another
abbrev pub GoesOn : List Entry → List Entry → Type 0
GoesOn before after = (more : List Entry) × (after ≡ before ++ more)

pub goes_on : (call : ℕ) (answer : Acted) (before after : List Entry) → Leaves call_of call answer before after → GoesOn before after
goes_on call (Reply bytes) before after leaves = ⊎_elim
    (λ (same : after ≡ before). ([], same ∙ sym (append-nil before)))
    (λ (grown : (entry : Entry) × (call_of entry ≡ call) × (after ≡ before ++ entry ∷ [])). (grown.0 ∷ [], grown.2))
    leaves
goes_on call Memory before after leaves = ([], leaves ∙ sym (append-nil before))
goes_on call Fault before after leaves = ([], leaves ∙ sym (append-nil before))
goes_on call Spent before after leaves = absurd leaves

longer : (before after : List Entry) → GoesOn before after → length before ≤ length after
longer before after on =
    let count : length after ≡ length before + length on.0 = ap length on.1 ∙ length-append before on.0 in omega arith

every_push : {E : Type 0} (P : E → Type 0) (es : List E) (e : E) → Every P es → P e → Every P (es ++ e ∷ [])
every_push P [] e all p = (p, tt)
every_push P (x ∷ es) e all p = (all.0, every_push P es e all.1 p)

-- the writer after a sheet of a version was put last, or not
version_shown : (writer : WriterState) (sheet : SheetState) (later : Bool) → nat_lt (last_version writer.sheets) sheet.version ≡ later → last_version writer.sheets ≤ sheet.version
    → last_version (if later then writer.sheets ++ sheet ∷ [] else writer.sheets) ≡ sheet.version
version_shown writer sheet true test few = last_push 0 writer.sheets sheet
version_shown writer sheet false test few = let same : sheet.version ≤ last_version writer.sheets = grind (arith, nat_tests, test) in omega arith

pub shows_after : (plan : PlanState) (writer : WriterState) → CanShow plan writer
    → ShowsVersion plan.version (after_show writer (sheet_of plan writer.shown.day))
shows_after plan writer can =
    let sheet = sheet_of plan writer.shown.day in
    version_shown writer sheet (nat_lt (last_version writer.sheets) sheet.version) refl can.1

-- a writer was to show the sheet of a plan
pub shown_by : {A E : Type 0} (plan : PlanState) (before after : WriterState) (sheet : SheetState) (result : Result A E) → sheet ≡ sheet_of plan before.shown.day
    → OnOk result (after ≡ after_show before sheet) → OnErr result (HasTried before sheet after) → OnErr result (last_version before.sheets < sheet.version)
    → IsShown plan before after
shown_by plan before after sheet (Ok value) is shows tried later = inl (shows ∙ ap (after_show before) is)
shown_by plan before after sheet (Err why) is shows tried later =
    inr (subst (λ (s : SheetState). HasMissed before s after) is (record { later = later; how = inl tried }))

-- what holds of a writer as it was, after it tried a sheet in vain, and after there was no memory
-- for the sheet, holds of one that missed it
missed_of : (before after : WriterState) (sheet : SheetState) (P : WriterState → Type 0) → P before → P (after_try before sheet) → P (after_lack before)
    → HasMissed before sheet after → P after
missed_of before after sheet P was vain lacked missed = ⊎_elim
    (λ (tried : HasTried before sheet after). ⊎_elim (λ (is : after ≡ after_try before sheet). subst P (sym is) vain) (λ full. subst P (sym full.0) was) tried)
    (λ (is : after ≡ after_lack before). subst P (sym is) lacked)
    missed.how

-- a writer that was to show a plan is of the same pair
same_pair : (plan : PlanState) (before after : WriterState) → IsShown plan before after → after.pair ≡ before.pair
same_pair plan before after shown =
    let sheet = sheet_of plan before.shown.day in
    let pair : WriterState → Book = λ writer. writer.pair in ⊎_elim
    (λ (done : after ≡ after_show before sheet). ap pair done)
    (missed_of before after sheet (λ writer. writer.pair ≡ before.pair) refl refl refl)
    shown

pub same_pairs : (plan : PlanState) (writers left : List WriterState) → AllZip (IsShown plan) writers left → pairs_of left ≡ pairs_of writers
same_pairs plan [] [] shown = refl
same_pairs plan [] (y ∷ left) shown = absurd shown
same_pairs plan (x ∷ writers) [] shown = absurd shown
same_pairs plan (x ∷ writers) (y ∷ left) shown =
    let first = same_pair plan x y shown.0 in
    let rest = same_pairs plan writers left shown.1 in cc (first, rest)

-- an act of a board is one of a hall around it, if the writers keep their pairs and the hall its
-- beginning
pub hall_acts : {K R : Type 0} (tells : K → KeeperState) (before after : HallHeld K R) (call : ℕ) (answer : Acted)
    → Acts call_of (watch_state tells before.board) (watch_state tells after.board) call answer → pairs_of after.writers ≡ pairs_of before.writers → after.begun ≡ before.begun
    → Acts call_of (hall_state tells before) (hall_state tells after) call answer
hall_acts tells before after call answer acts pairs begun =
    let fixed : watch_fixed after.board ≡ watch_fixed before.board = acts.fixed in record {
      fixed = cc (fixed, pairs, begun);
      next = acts.next;
      history = acts.history;
      faults = acts.faults;
    }

module _ (airport : AirportParts) where
  sheet_stays : (before after : List Entry) (day : ℕ) (sheet : SheetState) → GoesOn before after → IsOfFront airport before day sheet
      → IsOfFront airport after day sheet
  sheet_stays before after day sheet on of = record {
    front = of.front;
    rest = of.rest ++ on.0;
    is = on.1 ∙ (ap (λ (history : List Entry). history ++ on.0) of.is ∙ append_assoc of.front of.rest on.0);
    count = of.count;
    chart = of.chart;
  }

  sheets_stay : (before after : List Entry) (day : ℕ) (sheets : List SheetState) → GoesOn before after → Every (IsOfFront airport before day) sheets
      → Every (IsOfFront airport after day) sheets
  sheets_stay before after day [] on all = tt
  sheets_stay before after day (sheet ∷ sheets) on all =
      (sheet_stays before after day sheet on all.0, sheets_stay before after day sheets on all.1)

  writer_stays : (before after : List Entry) (writer : WriterState) → GoesOn before after → IsWriterOf airport before writer → IsWriterOf airport after writer
  writer_stays before after writer on is = record {
    airport_is = is.airport_is;
    sheets = sheets_stay before after writer.shown.day writer.sheets on is.sheets;
    tried = sheets_stay before after writer.shown.day writer.tried on is.tried;
  }

  few_entries : (history : List Entry) (day : ℕ) (sheet : SheetState) → IsOfFront airport history day sheet → sheet.version ≤ length history
  few_entries history day sheet of =
      let count = of.count in
      let all : length history ≡ length of.front + length of.rest = ap length of.is ∙ length-append of.front of.rest in omega arith

  last_few : (history : List Entry) (day n : ℕ) (sheets : List SheetState) → n ≤ length history → Every (IsOfFront airport history day) sheets
      → version_after n sheets ≤ length history
  last_few history day n [] few all = few
  last_few history day n (sheet ∷ sheets) few all = last_few history day sheet.version sheets (few_entries history day sheet all.0) all.1

  whole : (history : List Entry) (day : ℕ) → IsLegal airport history → IsOfFront airport history day (sheet_of (replay airport history) day)
  whole history day legal = record {
    front = history;
    rest = [];
    is = sym (append-nil history);
    count = sym (legal_counted airport history legal);
    chart = refl;
  }

  new_writer : (history : List Entry) (writer : WriterState) → IsLegal airport history → IsNewWriter airport history writer → IsWriterOf airport history writer
  new_writer history writer legal new = record {
    airport_is = new.0;
    sheets = subst (Every (IsOfFront airport history writer.shown.day)) (sym new.1) (whole history writer.shown.day legal, tt);
    tried = subst (Every (IsOfFront airport history writer.shown.day)) (sym new.2) (whole history writer.shown.day legal, tt);
  }

  pub new_writers : (history : List Entry) (writers : List WriterState) → IsLegal airport history → Every (IsNewWriter airport history) writers
      → Every (IsWriterOf airport history) writers
  new_writers history [] legal new = tt
  new_writers history (writer ∷ writers) legal new = (new_writer history writer legal new.0, new_writers history writers legal new.1)

  pub new_show : (history : List Entry) (writers : List WriterState) → Every (IsNewWriter airport history) writers
      → Every (ShowsVersion (replay airport history).version) writers
  new_show history [] new = tt
  new_show history (writer ∷ writers) new = (ap last_version new.0.1, new_show history writers new.1)

  can_show : (before after : List Entry) (writer : WriterState) → GoesOn before after → IsLegal airport after → IsWriterOf airport before writer
      → CanShow (replay airport after) writer
  can_show before after writer on legal is =
      let counted = legal_counted airport after legal in
      let last : last_version writer.sheets ≤ length before = last_few before writer.shown.day 0 writer.sheets (omega arith) is.sheets in
      let more = longer before after on in
      (is.airport_is ∙ sym (replay-airport airport after), omega arith)

  -- the writers of a history may be shown the plan of one that goes on from it
  pub all_can_show : (before after : List Entry) (writers : List WriterState) → GoesOn before after → IsLegal airport after
      → Every (IsWriterOf airport before) writers → Every (CanShow (replay airport after)) writers
  all_can_show before after [] on legal all = tt
  all_can_show before after (writer ∷ writers) on legal all =
      (can_show before after writer on legal all.0, all_can_show before after writers on legal all.1)

  put_last : (history : List Entry) (writer : WriterState) (later : Bool) → IsLegal airport history → IsWriterOf airport history writer
      → IsWriterOf airport history (record writer {
        sheets = if later then writer.sheets ++ sheet_of (replay airport history) writer.shown.day ∷ [] else writer.sheets;
        tried = if later then writer.tried ++ sheet_of (replay airport history) writer.shown.day ∷ [] else writer.tried;
      })
  put_last history writer true legal is = record {
    airport_is = is.airport_is;
    sheets = every_push (IsOfFront airport history writer.shown.day) writer.sheets (sheet_of (replay airport history) writer.shown.day) is.sheets
        (whole history writer.shown.day legal);
    tried = every_push (IsOfFront airport history writer.shown.day) writer.tried (sheet_of (replay airport history) writer.shown.day) is.tried
        (whole history writer.shown.day legal);
  }
  put_last history writer false legal is = record { airport_is = is.airport_is; sheets = is.sheets; tried = is.tried }

  try_last : (history : List Entry) (writer : WriterState) → IsLegal airport history → IsWriterOf airport history writer
      → IsWriterOf airport history (after_try writer (sheet_of (replay airport history) writer.shown.day))
  try_last history writer legal is = record {
    airport_is = is.airport_is;
    sheets = is.sheets;
    tried = every_push (IsOfFront airport history writer.shown.day) writer.tried (sheet_of (replay airport history) writer.shown.day) is.tried
        (whole history writer.shown.day legal);
  }

  shown_one : (history : List Entry) (before after : WriterState) → IsLegal airport history → IsWriterOf airport history before
      → IsShown (replay airport history) before after → IsWriterOf airport history after
  shown_one history before after legal is shown =
      let sheet = sheet_of (replay airport history) before.shown.day in ⊎_elim
      (λ (done : after ≡ after_show before sheet).
      subst (IsWriterOf airport history) (sym done) (put_last history before (nat_lt (last_version before.sheets) sheet.version) legal is))
      (missed_of before after sheet (IsWriterOf airport history) is (try_last history before legal is)
      (record { airport_is = is.airport_is; sheets = is.sheets; tried = is.tried }))
      shown

  -- the writers of a history are writers of one that goes on from it, also after each was to show its plan
  pub all_shown : (before after : List Entry) (writers left : List WriterState) → GoesOn before after → IsLegal airport after
      → Every (IsWriterOf airport before) writers → AllZip (IsShown (replay airport after)) writers left → Every (IsWriterOf airport after) left
  all_shown before after [] [] on legal all shown = tt
  all_shown before after [] (y ∷ left) on legal all shown = absurd shown
  all_shown before after (x ∷ writers) [] on legal all shown = absurd shown
  all_shown before after (x ∷ writers) (y ∷ left) on legal all shown =
      (shown_one after x y legal (writer_stays before after x on all.0) shown.0, all_shown before after writers left on legal all.1 shown.1)

is_among : (P : SheetState → Type 0) (sheet : SheetState) (others : List SheetState) → IsAmong others sheet → Every P others → P sheet
is_among P sheet [] among all = absurd among
is_among P sheet (other ∷ others) among all = ⊎_elim (λ (is : other ≡ sheet). subst P is all.0) (λ later. is_among P sheet others later all.1) among

-- what holds of each of these sheets holds of those that are among them
among_holds : (P : SheetState → Type 0) (sheets others : List SheetState) → AreAmong sheets others → Every P others → Every P sheets
among_holds P [] others among all = tt
among_holds P (sheet ∷ sheets) others among all = (is_among P sheet others among.0 all, among_holds P sheets others among.1 all)

own_day : (airport : AirportParts) (history : List Entry) (day : ℕ) (sheets : List SheetState) → Every (IsOfFront airport history day) sheets
    → Every (λ (sheet : SheetState). IsOfFront airport history sheet.shown.day sheet) sheets
own_day airport history day [] all = tt
own_day airport history day (sheet ∷ sheets) all =
    let same : day ≡ sheet.shown.day = sym (ap (λ (s : SheetState). s.shown.day) all.0.chart) in
    (subst (λ (d : ℕ). IsOfFront airport history d sheet) same all.0, own_day airport history day sheets all.1)

-- the screens of the writers of a history have seen fronts of it
pub see_fronts : (airport : AirportParts) (history : List Entry) (writers : List WriterState) (screens : List ScreenState) → Every (IsWriterOf airport history) writers
    → AllZip (λ (writer : WriterState) (screen : ScreenState). AreAmong screen.seen writer.tried) writers screens → Every (SeesFronts airport history) screens
see_fronts airport history [] [] all among = tt
see_fronts airport history [] (screen ∷ screens) all among = absurd among
see_fronts airport history (writer ∷ writers) [] all among = absurd among
see_fronts airport history (writer ∷ writers) (screen ∷ screens) all among = (
  own_day airport history writer.shown.day screen.seen (among_holds (IsOfFront airport history writer.shown.day) screen.seen writer.tried among.0 all.0.tried),
  see_fronts airport history writers screens all.1 among.1,
)

module _ (was airport : AirportParts) (before after : List Entry) (plan : PlanState) (same : airport ≡ was) (on : GoesOn before after) (legal : IsLegal airport after)
    (is : plan ≡ replay airport after) where
  -- the same of an airport, a plan and lists of writers that are equal to these
  moved : (writers : List WriterState) → Every (IsWriterOf was before) writers → Every (IsWriterOf airport before) writers
  moved writers all = subst (λ (a : AirportParts). Every (IsWriterOf a before) writers) (sym same) all

  pub can_show_now : (writers now : List WriterState) → now ≡ writers → Every (IsWriterOf was before) writers → Every (CanShow plan) now
  can_show_now writers now items all =
      subst (Every (CanShow plan)) (sym items)
      (subst (λ (p : PlanState). Every (CanShow p) writers) (sym is) (all_can_show airport before after writers on legal (moved writers all)))

  pub shown_now : (writers now left : List WriterState) → now ≡ writers → Every (IsWriterOf was before) writers → AllZip (IsShown plan) now left
      → Every (IsWriterOf airport after) left
  shown_now writers now left items all shown =
      all_shown airport before after writers left on legal (moved writers all)
      (subst (λ (p : PlanState). AllZip (IsShown p) writers left) is
      (subst (λ (list : List WriterState). AllZip (IsShown plan) list left) items shown))
