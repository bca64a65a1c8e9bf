-- What the words `serve A T N` and `serve A T N screen DAY` order.
use Rattle.std.specs.Prelude.{ℕ, Bool, nat_le, ◌==◌, ◌&&◌, Option, Some, None, List, [], ◌∷◌, codes, if◌then◌else◌}
use Rattle.std.specs.Option.{option_and_then}
use Rattle.std.specs.Str.{bytes_eq}
use Rattle.apron_rules.specs.declared.parts.AirportParts.{AirportParts}
use Rattle.apron_run.specs.Words.{Form, asked_by, is_file, is_number, is_plain_number, number_within, value_of}

-- how many connections a listener takes at most
abbrev pub most_connections : ℕ
most_connections = 1000000

-- how many listeners of desks there are at most
abbrev pub most_listeners : ℕ
most_listeners = 16

-- how many listeners of screens there are at most
abbrev pub most_screens : ℕ
most_screens = 8

-- the names of an airport file and a type file, how many connections each listener is to take, and
-- the digits of the day that screens are to show, if there are any
pub record Order : Type 0 where
  pub airport : List ℕ
  pub types : List ℕ
  pub connections : ℕ
  pub day : Option (List ℕ)

-- the forms of what is ordered: desks alone, and desks with screens that show a day
abbrev pub order_forms : List (Form Order)
order_forms = (
  codes "serve",
  is_file ∷ is_file ∷ is_number 1 most_connections ∷ [],
  λ airport types number.
      record { airport = airport; types = types; connections = value_of number; day = None },
)
    ∷ (
      codes "serve",
      is_file ∷ is_file ∷ is_number 1 most_connections
          ∷ (λ given. bytes_eq given (codes "screen")) ∷ is_plain_number ∷ [],
      λ airport types number screen day.
          record { airport = airport; types = types; connections = value_of number; day = Some day },
    )
    ∷ []

-- what the words order: what the first form that they fit says
unfoldable pub order_of_words : List (List ℕ) → Option Order
order_of_words words = asked_by order_forms words

-- there may be this many screens: none if no day is shown, and otherwise 1 to 8
abbrev pub may_have : ℕ → Option (List ℕ) → Bool
may_have screens None = screens == 0
may_have screens (Some day) = nat_le 1 screens && nat_le screens most_screens

-- what the words order of this many listeners of desks, 1 to 16, and this many of screens
abbrev pub order_of : List (List ℕ) → ℕ → ℕ → Option Order
order_of words listeners screens =
    if nat_le 1 listeners && nat_le listeners most_listeners
    then option_and_then (λ order. if may_have screens order.day then Some order else None)
    (order_of_words words)
    else None

-- the day that screens show at an airport: the one that the digits name, if it is a day of the
-- plan; if there are no screens, the first
abbrev pub day_shown : AirportParts → Option (List ℕ) → Option ℕ
day_shown airport None = Some 1
day_shown airport (Some digits) = number_within digits 1 airport.days
