-- What follows from a read that found a record, or none.
use Rattle.std.proofs.Common.{◌≡◌, ℕ, true, false, List, Option, Some, None, refl, sym}
use Rattle.std.proofs.lemmas.Bool.{false≢true}
use Rattle.csv.specs.Machine.{Read}
use Rattle.csv.specs.declared.reader.Reader.{Reader}
use Rattle.csv_records.specs.Reading.{IsReading, ReadFound}

pub found-some : {R : Type 0} (rem : R → Option (List ℕ)) (r : Reader R) (fields : List (List ℕ)) (o : Option Read) → ReadFound rem r true fields o → (p : Read) × (o ≡ Some p) × (fields ≡ p.0) × IsReading rem r p.1 p.2
found-some rem r fields None h = absurd (false≢true (sym h))
found-some rem r fields (Some p) h = (p, refl, h.1, h.2)

pub found-none : {R : Type 0} (rem : R → Option (List ℕ)) (r : Reader R) (fields : List (List ℕ)) (o : Option Read) → ReadFound rem r false fields o → o ≡ None
found-none rem r fields None h = refl
found-none rem r fields (Some p) h = absurd (false≢true h.0)
