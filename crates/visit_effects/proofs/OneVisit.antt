-- A message does to visits what it does to the one that it means.
use Rattle.std.proofs.Common.{◌≡◌, ◌+◌, ◌∙◌, ℕ, Bool, true, false, cond, List, [], ◌∷◌, None, ap, refl}
use Rattle.std.specs.Prelude.{Option, Some, find}
use Rattle.std.specs.Option.{option_and_then}
use Rattle.mvt_grammar.specs.declared.message.Flight.{Flight}
use Rattle.mvt_grammar.specs.declared.message.Mvt.{Mvt}
use Rattle.apron_rules.specs.declared.parts.AirportParts.{AirportParts}
use Rattle.visit_book.specs.declared.visits.Visit.{Visit}
use Rattle.visit_effects.specs.ClockTimes.{is_of_month, latest_day}
use Rattle.visit_effects.specs.declared.effects.Happening.{Happening}
use Rattle.visit_effects.specs.declared.effects.Happening.TheVariants.{Touchdown, OnBlock, ExpectedOff, OffBlock}
use Rattle.visit_effects.specs.declared.effects.MessageFacts.{MessageFacts}
use Rattle.visit_effects.specs.Effects.{changed_by, effect_of, facts_of, is_meant, live_of, movement_meant, movement_of}

alone : {X : Type 0} (test : X → Bool) (x : X) (later : Option X) (b : Bool) → test x ≡ b → later ≡ option_and_then (λ y. find test (y ∷ [])) later
    → cond b (Some x) later ≡ option_and_then (λ y. find test (y ∷ [])) (cond b (Some x) later)
alone test x later true is h = rw is refl
alone test x later false is h = h

-- the first that passes a test is also the first that passes it by itself
found_alone : {X : Type 0} (test : X → Bool) (xs : List X) → find test xs ≡ option_and_then (λ y. find test (y ∷ [])) (find test xs)
found_alone test [] = refl
found_alone test (x ∷ xs) = alone test x (find test xs) (test x) refl (found_alone test xs)

then_then : {X Y Z : Type 0} (f : X → Option Y) (g : Y → Option Z) (x : Option X)
    → option_and_then g (option_and_then f x) ≡ option_and_then (λ y. option_and_then g (f y)) x
then_then f g None = refl
then_then f g (Some x) = refl

-- the visit that is meant is the first live one of the flight
meant_live : (visits : List Visit) (moment : Happening) (flight : Flight) (day : ℕ)
    → live_of visits (movement_of moment (record { flight = flight; day = day })) ≡ find (is_meant moment flight day) visits
meant_live visits Touchdown flight day = refl
meant_live visits OnBlock flight day = refl
meant_live visits ExpectedOff flight day = refl
meant_live visits OffBlock flight day = refl

one_of : (airport : AirportParts) (visits : List Visit) (flight : Flight) (told : Option MessageFacts) (day : Option ℕ)
    → option_and_then (λ t. option_and_then (changed_by airport t) (option_and_then (λ d. find (is_meant t.moment flight d) visits) day)) told
    ≡ option_and_then
    (λ visit. option_and_then (λ t. option_and_then (changed_by airport t) (option_and_then (λ d. find (is_meant t.moment flight d) (visit ∷ [])) day)) told)
    (option_and_then (live_of visits)
    (option_and_then (λ t. option_and_then (λ d. Some (movement_of t.moment (record { flight = flight; day = d }))) day) told))
one_of airport visits flight None day = refl
one_of airport visits flight (Some t) None = refl
one_of airport visits flight (Some t) (Some d) =
    rw (meant_live visits t.moment flight d)
    (ap (option_and_then (changed_by airport t)) (found_alone (is_meant t.moment flight d) visits)
    ∙ then_then (λ visit. find (is_meant t.moment flight d) (visit ∷ [])) (changed_by airport t) (find (is_meant t.moment flight d) visits))

-- a message does to visits what it does to the first live one of its flight
pub effect_of_one : (airport : AirportParts) (visits : List Visit) (message : Mvt)
    → effect_of airport visits message
    ≡ option_and_then (λ visit. effect_of airport (visit ∷ []) message) (option_and_then (live_of visits) (movement_meant airport message))
effect_of_one airport visits message =
    one_of airport visits message.flight (facts_of airport message) (latest_day (is_of_month airport message.day) 0 (airport.days + 1))
