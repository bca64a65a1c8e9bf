-- A journal that was just made can be opened.
use Rattle.std.proofs.Common.{◌≡◌, true, [], ◌∷◌, ◌++◌, append_assoc, refl, sym, arith}
use Rattle.std.proofs.lemmas.List.{take_all}
use Rattle.journal_disk.specs.Header.{header, digests_in, empty_journal}
use Rattle.journal_disk.specs.Laws.{EmptyOpens}
use Rattle.journal_disk.specs.Limits.{most_entries}
use Rattle.journal_disk.specs.Sections.{IsHeaderAndOldSection}
use Rattle.journal_disk.proofs.Fronts.{opens_new}
use Rattle.journal_disk.proofs.RecordTexts.{closed, is_shut}

pub empty_opens : EmptyOpens
empty_opens digests long =
    let f : IsHeaderAndOldSection true (header digests ++ 0 ∷ []) = record {
      header = header digests;
      old = [];
      gate = 0;
      text = refl;
      long = omega (arith, long);
      magic = refl;
      format = refl;
      sizes = tt;
      few = omega arith;
      shut = is_shut;
    } in
    let kept : digests_in (header digests) ≡ digests = take_all 64 digests (omega (arith, long)) in
    opens_new (header digests ++ 0 ∷ []) f (empty_journal digests) (0 ∷ []) digests [] (sym (append_assoc (header digests) (0 ∷ []) (0 ∷ []))) (sym kept) (closed most_entries 0 [] is_shut)
