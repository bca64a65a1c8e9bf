-- Flights are written in capitals and digits, which JSON does not escape.
use Rattle.std.proofs.Common.{◌≡◌, ◌++◌, ◌∷◌, [], ℕ, true, arith}
use Rattle.std.proofs.lemmas.Bool.Decides.{nat_tests}
use Rattle.std.proofs.lemmas.List.Elements.{All-weaker}
use Rattle.std.proofs.lemmas.List.Sums.{AllPass-from_list_all, list_all-from_AllPass}
use Rattle.serde_json.specs.Data.{string}
use Rattle.serde_json.specs.Written.{compact_text}
use Rattle.mvt_grammar.specs.Canonical.{flight_text}
use Rattle.mvt_grammar.specs.Flights.{is_airline_byte}
use Rattle.mvt_grammar.specs.Readable.{IsFlight}
use Rattle.mvt_grammar.specs.declared.message.Flight.{Flight}
use Rattle.mvt_grammar.proofs.FlightsBack.{flight_text-bytes}
use Rattle.desk_words.specs.JsonText.{is_plain_byte}
use Rattle.desk_words.proofs.PlainTexts.{quoted_plain}

airline_byte : (byte : ℕ) → is_airline_byte byte ≡ true → is_plain_byte byte ≡ true
airline_byte byte h = grind (arith, nat_tests)

pub flight_quoted : (flight : Flight) → IsFlight flight → compact_text (string (flight_text flight)) ≡ 34 ∷ (flight_text flight ++ 34 ∷ [])
flight_quoted flight h =
    let text = flight_text flight in
    let each = AllPass-from_list_all is_airline_byte text (flight_text-bytes flight h) in
    quoted_plain text (list_all-from_AllPass is_plain_byte text
    (All-weaker (λ byte. is_airline_byte byte ≡ true) (λ byte. is_plain_byte byte ≡ true) airline_byte text each))
