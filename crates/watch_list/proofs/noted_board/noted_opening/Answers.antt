use Rattle.std.proofs.Common.{◌≡◌, ◌∙◌, ◌+◌, ◌++◌, ◌∷◌, [], ℕ, List, ap, sym, take}
use Rattle.std.proofs.lemmas.List.{take_more}
use Rattle.std.proofs.lemmas.Result.{err_from_is_err_and}
use Rattle.history_core.specs.Board.{entry_texts}
use Rattle.history_core.proofs.Keepers.{texts_push}
use Rattle.history_core.proofs.Openings.{stops_among}
use Rattle.watch_list.proofs.HistoryNotes.{notes_read}
use Rattle.watch_list.proofs.noted_board.noted_opening.Goals as goal

pub returns-in_err-read-clause-refused : goal.returns-in_err-read-clause-refused
returns-in_err-read-clause-refused c =
    let p = err_from_is_err_and c.from_residual-in_err-read.result c.from_residual-in_err-read.ensures.1 in
    rw (p.1, p.2)
    (stops_among c.args.airport.now c.args.entries.now c.loop-bytes.opening c.loop-bytes.bytes-index c.as_slice.result.now c.bytes-item.result
    c.in_err-read.field-0.0 c.loop-bytes.invariant.airport c.loop-bytes.invariant.texts c.as_slice.ensures.items c.loop-bytes-test.true c.bytes-item.is
    c.in_err-read.ensures.refused)

pub loop-bytes-preserved : goal.loop-bytes-preserved
loop-bytes-preserved c =
    let entries = c.args.entries.now in
    let place = c.loop-bytes.bytes-index in
    let opening = c.loop-bytes.opening in
    let so_far = c.loop-bytes.invariant in
    let read = c.in_ok-read.ensures.reads in
    let bytes = c.as_slice.result.now in
    let front : take (place + 1) entries ≡ take place entries ++ bytes ∷ [] =
    take_more entries place c.bytes-item.result c.loop-bytes-test.true
    ∙ ap (λ (text : List ℕ). take place entries ++ text ∷ []) (sym c.bytes-item.is ∙ sym c.as_slice.ensures.items) in
    record {
      airport = c.read.ensures.airport ∙ so_far.airport;
      texts = front
          ∙ (ap (λ (texts : List (List ℕ)). texts ++ bytes ∷ []) so_far.texts
          ∙ (ap (λ (text : List ℕ). entry_texts opening.history ++ text ∷ []) read.is.1
          ∙ (sym (texts_push opening.history read.entry) ∙ ap entry_texts (sym read.last))));
      notes = notes_read opening c.read.new.self bytes c.loop-bytes.notes.items c.push_last.new.notes.items c.read.ensures.airport read
          so_far.notes c.in_ok-push_last.ensures.notes;
    }
