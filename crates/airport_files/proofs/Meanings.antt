-- The steps of the meaning of two files.
use Rattle.std.proofs.Common.{◌≡◌, ap, refl, ℕ, List, Option, None, Some, ok_or, Result, Ok, Err}
use Rattle.std.specs.Option.{option_map_or}
use Rattle.std.specs.Result.{result_map_both}
use Rattle.apron_base.specs.ResultChain.{◌>>=◌}
use Rattle.csv_records.specs.Tables.{table_in}
use Rattle.toml.specs.Data.{Members}
use Rattle.apron_rules.specs.declared.parts.AirportParts.{AirportParts}
use Rattle.apron_rules.specs.declared.parts.TypeRow.{TypeRow}
use Rattle.apron_rules.specs.declared.refusals.AirportFault.{AirportFault}
use Rattle.apron_rules.specs.Refusals.{airport_fault}
use Rattle.airport_files.specs.declared.read.FileFault.TheVariants as file
use Rattle.airport_files.specs.Document.{document}
use Rattle.airport_files.specs.Meaning.{meaning, types_in, airport_of_parts}
use Rattle.airport_files.specs.Named.{airport_parts, layout_in, layout_of_table}
use Rattle.airport_files.specs.Rows.{parts_of}
use Rattle.airport_files.specs.Types.{types_after}
use Rattle.airport_files.proofs.Chains.{parts-then}

pub layout_is : (airport : List ℕ) (table : Option Members) → document airport ≡ table → layout_in airport ≡ layout_of_table table
unfolding layout_in
layout_is airport table h = ap layout_of_table h

pub types_are : (types : List ℕ) (table : Result (List TypeRow) ℕ) → table_in types_after types ≡ table → types_in types ≡ result_map_both (λ rows. rows) file.BadRow table
unfolding types_in
types_are types table h = ap (λ (read : Result (List TypeRow) ℕ). result_map_both (λ (rows : List TypeRow). rows) file.BadRow read) h

pub made_is : (parts : AirportParts) (fault : Option AirportFault) → airport_fault parts ≡ fault → airport_of_parts parts ≡ option_map_or (λ (fault : AirportFault). Err (file.Airport fault)) fault (Ok parts)
unfolding airport_of_parts
made_is parts fault h = rw h refl

of_table : (found : Option Members) (types : List ℕ) → (ok_or found file.NotToml >>= (λ ms. parts_of ms >>= (λ parts. types_in types >>= (λ rows. airport_of_parts (parts rows)))))
    ≡ (layout_of_table found >>= (λ layout. types_in types >>= (λ rows. airport_of_parts (airport_parts layout rows))))
of_table None types = refl
of_table (Some ms) types = parts-then ms (λ (parts : List TypeRow → AirportParts). types_in types >>= (λ rows. airport_of_parts (parts rows)))

-- what two files mean is what the walk reads of the first, and then the same as before
pub meaning-walk : (airport types : List ℕ) → meaning airport types ≡ (layout_in airport >>= (λ layout. types_in types >>= (λ rows. airport_of_parts (airport_parts layout rows))))
unfolding meaning layout_in
meaning-walk airport types = of_table (document airport) types
