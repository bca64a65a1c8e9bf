use Rattle.std.proofs.Common.{◌≡◌, ◌∷◌, Bool, true, false, cond, Ok, Err, Result, refl, ap, sym, ◌∙◌}
use Rattle.mvt_grammar.specs.Left.{left_marks}
use Rattle.mvt_grammar.specs.Reading.{has_element, with_element, with_marks}
use Rattle.mvt_grammar.specs.declared.message.Mvt.{Mvt}
use Rattle.mvt_grammar.specs.declared.message.MvtFault.{MvtFault}
use Rattle.mvt_grammar.specs.declared.message.MvtFault.TheVariants.{Twice}
use Rattle.mvt_grammar.specs.declared.words.Mark.TheVariants.{Found}
use Rattle.mvt_grammar.proofs.reading.with_elements.Goals as goal

chosen_ok : (had : Bool) (fault : MvtFault) (message more : Mvt) (read : Result Mvt MvtFault) → ◌≡◌ {A = Result Mvt MvtFault} (Ok message) (cond had (Err fault) (Ok more)) → (cond had (Err fault) read ≡ read) × (message ≡ more)
chosen_ok true fault message more read h = cc
chosen_ok false fault message more read h = (refl, cc)

pub loop-mark-preserved : goal.loop-mark-preserved
loop-mark-preserved c =
    let message = c.loop-mark.message in
    let at = c.in-Found.at in
    let element = c.in-Found.element in
    let new = c.in_ok-message-in-Found.message in
    let rest = left_marks c.in-Some.rest in
    let taken = chosen_ok (has_element message element) (Twice at) new (with_element message element) (with_marks (with_element message element) rest) (sym c.in_ok-message-in-Found.was ∙ c.with_element.ensures.value) in
    let marks : left_marks c.loop-mark.left ≡ Found at element ∷ rest = c.in-Some.ensures.value ∙ ap (λ m. m ∷ rest) c.in-Found.is in
    ap (λ m. with_marks m rest) taken.1 ∙ sym taken.0 ∙ sym (ap (with_marks message) marks) ∙ c.loop-mark.invariant
