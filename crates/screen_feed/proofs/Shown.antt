-- What a log says was shown, along its beginnings.
use Rattle.std.proofs.Common.{◌≡◌, ◌⊎◌, ℕ, ◌+◌, ◌≤◌, Bool, true, false, cond, List, [], ◌∷◌, ◌++◌, length, Option, Some, None, refl, ap, sym, ◌∙◌, subst, ⊎_elim, arith, append_assoc, length-append, inl, inr}
use Rattle.std.proofs.lemmas.List.{append-nil}
use mathlib.Core.List.{IsPrefix}
use Rattle.apron_base.specs.Histories.{Every}
use Rattle.screen_feed.specs.Sheets.{AreAmong, Begins, IsAmong, SheetState}
use Rattle.screen_feed.specs.declared.book.SheetEntry.{SheetEntry}
use Rattle.screen_feed.specs.Logs.{shown_in, begun_in, begun_with, begun_after, LegalAfter, IsLegalLog}
use Rattle.screen_feed.proofs.Fronts.{prefix_shorter}

by_kind_of : (s : SheetState) (both xs ys : List SheetState) → both ≡ xs ++ ys → (b : Bool) → cond b (s ∷ both) both ≡ cond b (s ∷ xs) xs ++ ys
by_kind_of s both xs ys is true = ap (λ (l : List SheetState). s ∷ l) is
by_kind_of s both xs ys is false = is

pub shown_append : (xs ys : List SheetEntry) → shown_in (xs ++ ys) ≡ shown_in xs ++ shown_in ys
shown_append [] ys = refl
shown_append (e ∷ es) ys = by_kind_of e.sheet.value (shown_in (es ++ ys)) (shown_in es) (shown_in ys) (shown_append es ys) e.shown

pub begun_push : (p : Option SheetState) (xs : List SheetEntry) (e : SheetEntry) → e.shown ≡ false → begun_after p (xs ++ e ∷ []) ≡ Some e.sheet.value
begun_push p [] e is = ap (λ (b : Bool). cond b None (Some e.sheet.value)) is
begun_push p (x ∷ xs) e is = begun_push (begun_with p x) xs e is

pub legal_front : (p : Option SheetState) (xs ys : List SheetEntry) → LegalAfter p (xs ++ ys) → LegalAfter p xs
legal_front p [] ys l = tt
legal_front p (x ∷ xs) ys l = (l.0, legal_front (begun_with p x) xs ys l.1)

pub legal_last : (p : Option SheetState) (xs : List SheetEntry) (e : SheetEntry) → LegalAfter p (xs ++ e ∷ []) → e.shown ≡ true → begun_after p xs ≡ Some e.sheet.value
legal_last p [] e l is = l.0 is
legal_last p (x ∷ xs) e l is = legal_last (begun_with p x) xs e l.1 is

pub legal_push : (p : Option SheetState) (xs : List SheetEntry) (e : SheetEntry) → LegalAfter p xs → (e.shown ≡ true → begun_after p xs ≡ Some e.sheet.value) → LegalAfter p (xs ++ e ∷ [])
legal_push p [] e l may = (may, tt)
legal_push p (x ∷ xs) e l may = (l.0, legal_push (begun_with p x) xs e l.1 may)

some_inj : {A : Type 0} (d x y : A) → Some x ≡ Some y → x ≡ y
some_inj {A} d x y e = ap (out d) e
  where
    out : A → Option A → A
    out d None = d
    out d (Some z) = z

-- one entry after a try: it adds what was tried, or nothing
one_after : (mine : List SheetEntry) (s : SheetState) (e : SheetEntry) → begun_after None mine ≡ Some s → IsLegalLog (mine ++ e ∷ []) → Begins (shown_in mine ++ s ∷ []) (shown_in (mine ++ e ∷ []))
one_after mine s e opened legal = by_kind e.shown refl
  where
    by_kind : (b : Bool) → e.shown ≡ b → Begins (shown_in mine ++ s ∷ []) (shown_in (mine ++ e ∷ []))
    by_kind true is =
        let same : s ≡ e.sheet.value = some_inj s s e.sheet.value (sym opened ∙ legal_last None mine e legal is) in
        let one : shown_in (e ∷ []) ≡ s ∷ [] = ap (λ (b : Bool). cond b (e.sheet.value ∷ []) []) is ∙ ap (λ (t : SheetState). t ∷ []) (sym same) in
        ([], sym (append-nil _ ∙ (shown_append mine (e ∷ []) ∙ ap (λ (l : List SheetState). shown_in mine ++ l) one)))
    by_kind false is =
        let none : shown_in (e ∷ []) ≡ [] = ap (λ (b : Bool). cond b (e.sheet.value ∷ []) []) is in
        (s ∷ [], ap (λ (l : List SheetState). l ++ s ∷ []) (sym (shown_append mine (e ∷ []) ∙ (ap (λ (l : List SheetState). shown_in mine ++ l) none ∙ append-nil _))))

by_one : (a b : ℕ) → a ≤ b + 1 → (a ≤ b) ⊎ (a ≡ b + 1)
by_one a b h = grind arith

-- a page whose log is shorter by one at most than what was told shows all that was told
pub shows_told : (mine told both : List SheetEntry) (s : SheetState) → begun_after None mine ≡ Some s → IsPrefix mine both → IsPrefix told both → IsLegalLog both → length told ≤ length mine + 1 → Begins (shown_in mine ++ s ∷ []) (shown_in told)
shows_told mine told both s opened p q legal le = ⊎_elim shorter longer (by_one (length told) (length mine) le)
  where
    shorter : length told ≤ length mine → Begins (shown_in mine ++ s ∷ []) (shown_in told)
    shorter h = let r = prefix_shorter told mine both q p h in
        (shown_in r.0 ++ s ∷ [], ap (λ (l : List SheetState). l ++ s ∷ []) (ap shown_in (sym r.1) ∙ shown_append told r.0) ∙ append_assoc (shown_in told) (shown_in r.0) (s ∷ []))

    longer : length told ≡ length mine + 1 → Begins (shown_in mine ++ s ∷ []) (shown_in told)
    longer h = let r = prefix_shorter mine told both p q (omega arith) in by_rest r.0 r.1
      where
        by_rest : (rest : List SheetEntry) → mine ++ rest ≡ told → Begins (shown_in mine ++ s ∷ []) (shown_in told)
        by_rest [] e = absurd (let a = ap length e in let b = length-append mine [] in omega arith)
        by_rest (x ∷ []) e =
            let legal' : IsLegalLog told = legal_front None told q.0 (subst IsLegalLog (sym q.1) legal) in
            subst (λ (l : List SheetEntry). Begins (shown_in mine ++ s ∷ []) (shown_in l)) e (one_after mine s x opened (subst IsLegalLog (sym e) legal'))
        by_rest (x ∷ y ∷ l) e = absurd (let a = ap length e in let b = length-append mine (x ∷ y ∷ l) in omega arith)

pub begins_shown : (xs ys : List SheetEntry) → IsPrefix xs ys → Begins (shown_in ys) (shown_in xs)
begins_shown xs ys p = (shown_in p.0, ap shown_in (sym p.1) ∙ shown_append xs p.0)

pub shown_begun : (log : List SheetEntry) (e : SheetEntry) → e.shown ≡ false → shown_in (log ++ e ∷ []) ≡ shown_in log
shown_begun log e is = shown_append log (e ∷ []) ∙ (ap (λ (b : Bool). shown_in log ++ cond b (e.sheet.value ∷ []) []) is ∙ append-nil (shown_in log))

pub shown_push : (log : List SheetEntry) (e : SheetEntry) → e.shown ≡ true → shown_in (log ++ e ∷ []) ≡ shown_in log ++ e.sheet.value ∷ []
shown_push log e is = shown_append log (e ∷ []) ∙ ap (λ (b : Bool). shown_in log ++ cond b (e.sheet.value ∷ []) []) is

begun_of : (s : SheetState) (both xs ys : List SheetState) → both ≡ xs ++ ys → (b : Bool) → cond b both (s ∷ both) ≡ cond b xs (s ∷ xs) ++ ys
begun_of s both xs ys is true = is
begun_of s both xs ys is false = ap (λ (l : List SheetState). s ∷ l) is

begun_append : (xs ys : List SheetEntry) → begun_in (xs ++ ys) ≡ begun_in xs ++ begun_in ys
begun_append [] ys = refl
begun_append (e ∷ es) ys = begun_of e.sheet.value (begun_in (es ++ ys)) (begun_in es) (begun_in ys) (begun_append es ys) e.shown

pub tried_begun : (log : List SheetEntry) (e : SheetEntry) → e.shown ≡ false → begun_in (log ++ e ∷ []) ≡ begun_in log ++ e.sheet.value ∷ []
tried_begun log e is = begun_append log (e ∷ []) ∙ ap (λ (b : Bool). begun_in log ++ cond b [] (e.sheet.value ∷ [])) is

pub tried_confirmed : (log : List SheetEntry) (e : SheetEntry) → e.shown ≡ true → begun_in (log ++ e ∷ []) ≡ begun_in log
tried_confirmed log e is = begun_append log (e ∷ []) ∙ (ap (λ (b : Bool). begun_in log ++ cond b [] (e.sheet.value ∷ [])) is ∙ append-nil (begun_in log))

module _ (P : SheetState → Type 0) where
  -- what holds of a sheet that may be begun before these entries, and of each that they begin, holds of each that they say is shown
  one_shown : (b : Bool) (s : SheetState) (after : Option SheetState) (begun shown : List SheetState) → after ≡ cond b None (Some s) → (b ≡ true → P s)
      → (((t : SheetState) → after ≡ Some t → P t) → Every P begun → Every P shown) → Every P (cond b begun (s ∷ begun)) → Every P (cond b (s ∷ shown) shown)
  one_shown true s after begun shown is may rest all = (may refl, rest (λ t same. absurd (let e : None ≡ Some t = sym is ∙ same in cc e)) all)
  one_shown false s after begun shown is may rest all = rest (λ t same. subst P (some_inj s s t (sym is ∙ same)) all.0) all.1

  shown_holds : (p : Option SheetState) (xs : List SheetEntry) → LegalAfter p xs → ((t : SheetState) → p ≡ Some t → P t) → Every P (begun_in xs) → Every P (shown_in xs)
  shown_holds p [] legal may all = tt
  shown_holds p (e ∷ es) legal may all =
      one_shown e.shown e.sheet.value (begun_with p e) (begun_in es) (shown_in es) refl (λ is. may e.sheet.value (legal.0 is)) (shown_holds (begun_with p e) es legal.1) all

  -- and of the one that was begun last
  one_begun : (b : Bool) (s : SheetState) (after : Option SheetState) (begun : List SheetState) (t : SheetState) → after ≡ cond b None (Some s)
      → (((u : SheetState) → after ≡ Some u → P u) → Every P begun → P t) → Every P (cond b begun (s ∷ begun)) → P t
  one_begun true s after begun t is rest all = rest (λ u same. absurd (let e : None ≡ Some u = sym is ∙ same in cc e)) all
  one_begun false s after begun t is rest all = rest (λ u same. subst P (some_inj s s u (sym is ∙ same)) all.0) all.1

  last_holds : (p : Option SheetState) (xs : List SheetEntry) (t : SheetState) → begun_after p xs ≡ Some t → ((u : SheetState) → p ≡ Some u → P u) → Every P (begun_in xs) → P t
  last_holds p [] t is may all = may t is
  last_holds p (e ∷ es) t is may all =
      one_begun e.shown e.sheet.value (begun_with p e) (begun_in es) t refl (last_holds (begun_with p e) es t is) all

  every_push : (ts : List SheetState) (t : SheetState) → Every P ts → P t → Every P (ts ++ t ∷ [])
  every_push [] t all holds = (holds, tt)
  every_push (u ∷ ts) t all holds = (all.0, every_push ts t all.1 holds)

  every_front : (ts more : List SheetState) → Every P (ts ++ more) → Every P ts
  every_front [] more all = tt
  every_front (t ∷ ts) more all = (all.0, every_front ts more all.1)

among_more : (t : SheetState) (ts others : List SheetState) → AreAmong ts others → AreAmong ts (t ∷ others)
among_more t [] others all = tt
among_more t (u ∷ ts) others all = (inr all.0, among_more t ts others all.1)

among_self : (ts : List SheetState) → AreAmong ts ts
among_self [] = tt
among_self (t ∷ ts) = (inl refl, among_more t ts ts (among_self ts))

-- the sheets that have been shown once a page is whose log begins another are among those that were begun in that
pub page_among : (mine whole : List SheetEntry) (s : SheetState) → begun_after None mine ≡ Some s → IsPrefix mine whole → IsLegalLog whole → AreAmong (shown_in mine ++ s ∷ []) (begun_in whole)
page_among mine whole s opened front legal =
    let P : SheetState → Type 0 = IsAmong (begun_in whole) in
    let parts : begun_in whole ≡ begun_in mine ++ begun_in front.0 = ap begun_in (sym front.1) ∙ begun_append mine front.0 in
    let each : Every P (begun_in mine) = every_front P (begun_in mine) (begun_in front.0) (subst (Every P) parts (among_self (begun_in whole))) in
    let none : (t : SheetState) → None ≡ Some t → P t = λ t same. absurd (cc same) in
    every_push P (shown_in mine) s (shown_holds P None mine (legal_front None mine front.0 (subst IsLegalLog (sym front.1) legal)) none each)
    (last_holds P None mine s opened none each)

counted : (b : Bool) (s : SheetState) (e : SheetEntry) (es : List SheetEntry) (shown begun : List SheetState) → length es ≡ length shown + length begun
    → length (e ∷ es) ≡ length (cond b (s ∷ shown) shown) + length (cond b begun (s ∷ begun))
counted true s e es shown begun is = omega (arith, is)
counted false s e es shown begun is = omega (arith, is)

-- each entry is of a sheet that was begun, or of one that is shown
pub entries_are : (log : List SheetEntry) → length log ≡ length (shown_in log) + length (begun_in log)
entries_are [] = refl
entries_are (e ∷ es) = counted e.shown e.sheet.value e es (shown_in es) (begun_in es) (entries_are es)
