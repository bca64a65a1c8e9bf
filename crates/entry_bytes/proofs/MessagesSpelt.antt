-- Messages are read exactly from their canonical texts.
use Rattle.std.proofs.Common.{◌≡◌, ℕ, ◌<◌, ◌≤◌, Bool, true, false, cond, List, [], ◌∷◌, length, Some, None, Result, Ok, Err, bytes_eq, refl, ap, ◌∙◌, arith}
use Rattle.std.specs.Cmp.Lexicographic.{bytes_decides}
use Rattle.apron_rules.specs.declared.parts.AirportParts.{AirportParts}
use Rattle.mvt_grammar.specs.Canonical.{canonical}
use Rattle.mvt_grammar.specs.Readable.{IsReadable}
use Rattle.mvt_grammar.specs.Reading.{read_mvt_of}
use Rattle.mvt_grammar.specs.declared.message.Mvt.{Mvt}
use Rattle.mvt_grammar.specs.declared.message.MvtFault.{MvtFault}
use Rattle.mvt_grammar.proofs.Gives.{read_mvt_of-readable}
use Rattle.mvt_grammar.proofs.Lengths.{length-canonical}
use Rattle.mvt_grammar.proofs.RoundTrip.{read_mvt_of-canonical}
use Rattle.entry_bytes.specs.Fields.{text_field}
use Rattle.entry_bytes.specs.Parsing.{canonical_message, if_canonical, parse_message}
use Rattle.entry_bytes.proofs.Fields.{reads_text, some_name}
use Rattle.entry_bytes.proofs.KeysSpelt.{some_airline}
use Rattle.entry_bytes.proofs.Spells.{ReadsOne, ReadsOne-told}

some_is : (found message : Mvt) → Some found ≡ Some message → found ≡ message
some_is found message e = cc

tested : (same : Bool) (found message : Mvt) → cond same (Some found) None ≡ Some message → (same ≡ true) × (found ≡ message)
tested true found message e = (refl, some_is found message e)
tested false found message e = absurd cc

if_told : (bytes : List ℕ) (read : Result Mvt MvtFault) (message : Mvt) → if_canonical bytes read ≡ Some message → (read ≡ Ok message) × (bytes ≡ canonical message)
if_told bytes (Ok found) message e =
    let t = tested (bytes_eq bytes (canonical found)) found message e in
    (ap Ok t.1, (bytes_decides bytes (canonical found)).0 t.0 ∙ ap canonical t.1)
if_told bytes (Err fault) message e = absurd cc

-- a text that has a message is its canonical text
told_by : (bytes : List ℕ) (message : Mvt) → canonical_message bytes ≡ Some message → (bytes ≡ canonical message) × IsReadable message
told_by bytes message e = let t = if_told bytes (read_mvt_of bytes) message e in (t.1, read_mvt_of-readable bytes message t.0)

-- the canonical text of a message has that message
tells : (message : Mvt) → IsReadable message → canonical_message (canonical message) ≡ Some message
tells message h =
    ap (if_canonical (canonical message)) (read_mvt_of-canonical message h)
    ∙ ap (λ (same : Bool). cond same (Some message) None) ((bytes_decides (canonical message) (canonical message)).1 refl)

pub canonical-short : (message : Mvt) → IsReadable message → length (canonical message) ≤ 85
canonical-short message h = length-canonical message h

short : (message : Mvt) → IsReadable message → length (canonical message) < 256
short message h = let few = length-canonical message h in omega arith

-- a message with nothing that it need not have
some_message : Mvt
some_message = record {
  flight = record { airline = some_airline; number = 0; suffix = None };
  day = 1;
  registration = some_name;
  station = 65 ∷ 65 ∷ 65 ∷ [];
  ad = None;
  aa = None;
  ea = None;
  ed = None;
}

some_is_readable : IsReadable some_message
unfolding some_message
some_is_readable = record {
  flight = record { airline = refl; number = omega arith; suffix = tt };
  day = (omega arith, omega arith);
  registration = refl;
  station = refl;
  ad = tt;
  aa = tt;
  ea = tt;
  ed = tt;
}

pub reads_message : (airport : AirportParts) → ReadsOne airport parse_message (λ message. text_field (canonical message)) IsReadable
unfolding parse_message
reads_message airport = ReadsOne-told canonical_message canonical IsReadable (reads_text airport)
    told_by (λ message h. (short message h, tells message h)) (some_message, some_is_readable, tt)
