-- The keys as the file spells them, and as a fault names them.
use Rattle.std.specs.Prelude.{ℕ, List, ◌++◌, codes, decimal}
use Rattle.airport_files.specs.declared.keys.HeadKey.{HeadKey}
use Rattle.airport_files.specs.declared.keys.HeadKey.TheVariants.{Station, FirstDay, Days, TaxiIn, Tow}
use Rattle.airport_files.specs.declared.keys.FrontageKey.{FrontageKey}
use Rattle.airport_files.specs.declared.keys.FrontageKey.TheVariants as frontage
use Rattle.airport_files.specs.declared.keys.StandKey.{StandKey}
use Rattle.airport_files.specs.declared.keys.StandKey.TheVariants as stand
use Rattle.airport_files.specs.declared.keys.PairKey.{PairKey}
use Rattle.airport_files.specs.declared.keys.PairKey.TheVariants as pair
use Rattle.airport_files.specs.declared.keys.FileKey.{FileKey}
use Rattle.airport_files.specs.declared.keys.FileKey.TheVariants as key

-- the keys of the table `airport`
abbrev pub head_word : HeadKey → List ℕ
head_word Station = codes "station"
head_word FirstDay = codes "first_day"
head_word Days = codes "days"
head_word TaxiIn = codes "taxi_in"
head_word Tow = codes "tow"

-- the keys of a frontage
abbrev pub frontage_word : FrontageKey → List ℕ
frontage_word frontage.Name = codes "name"
frontage_word frontage.Objects = codes "objects"

-- the keys of a stand
abbrev pub stand_word : StandKey → List ℕ
stand_word stand.Name = codes "name"
stand_word stand.Frontage = codes "frontage"
stand_word stand.Centre = codes "centre"
stand_word stand.Letter = codes "letter"
stand_word stand.Buffer = codes "buffer"
stand_word stand.HalfOf = codes "half_of"

-- the keys of a pair restriction
abbrev pub pair_word : PairKey → List ℕ
pair_word pair.A = codes "a"
pair_word pair.La = codes "la"
pair_word pair.B = codes "b"
pair_word pair.Lb = codes "lb"

-- the number of a row, counted from 1, and its key
abbrev pub row_key_text : ℕ → List ℕ → List ℕ
row_key_text k word = decimal k ++ (codes "." ++ word)

-- the text of a key
abbrev pub key_text : FileKey → List ℕ
key_text key.Airport = codes "airport"
key_text (key.Head word) = codes "airport." ++ head_word word
key_text key.Frontages = codes "frontage"
key_text (key.Frontage k word) = codes "frontage " ++ row_key_text k (frontage_word word)
key_text key.Stands = codes "stand"
key_text (key.Stand k word) = codes "stand " ++ row_key_text k (stand_word word)
key_text key.Pairs = codes "pair"
key_text (key.Pair k word) = codes "pair " ++ row_key_text k (pair_word word)
