use Rattle.std.proofs.Common.{subst, sym, ◌∙◌, arith}
use Rattle.entry_bytes.specs.Entries.{entry_fields}
use Rattle.entry_bytes.specs.Faults.{IsFirstFault}
use Rattle.entry_bytes.specs.Gives.{entry_fault}
use Rattle.entry_bytes.specs.Parsing.{decode_entry}
use Rattle.entry_bytes.proofs.EntriesSpelt.{entry_is_spelt, fault_is_first, fault_is_near, none_is_spelt}
use Rattle.entry_bytes.proofs.WholeSpelt.{near_of, read_of}
use Rattle.entry_bytes.proofs.entries.decode_entry.Goals as goal

pub returns-in-Ok-clause-entry : goal.returns-in-Ok-clause-entry
returns-in-Ok-clause-entry c = entry_is_spelt c.args.airport.now c.args.bytes.now c.in-Ok.entry (λ i. omega (arith, c.type_inv.bytes i)) c.in-Ok.ensures.is

pub returns-in-Err-clause-none : goal.returns-in-Err-clause-none
returns-in-Err-clause-none c = λ kept.
    let read = read_of (decode_entry c.args.airport.now c.args.bytes.now) c.in-Err.fault c.in-Err.ensures.is (λ e. kept (c.entry_fault.ensures.is ∙ e)) in
    none_is_spelt c.args.airport.now c.args.bytes.now (entry_fault c.in-Err.fault) read

pub returns-in-Err-clause-fault : goal.returns-in-Err-clause-fault
returns-in-Err-clause-fault c = λ kept.
    let read = read_of (decode_entry c.args.airport.now c.args.bytes.now) c.in-Err.fault c.in-Err.ensures.is (λ e. kept (c.entry_fault.ensures.is ∙ e)) in
    subst (IsFirstFault entry_fields c.args.airport.now c.args.bytes.now) (sym c.entry_fault.ensures.is)
    (fault_is_first c.args.airport.now c.args.bytes.now (entry_fault c.in-Err.fault) (λ i. omega (arith, c.type_inv.bytes i)) read)

pub entry_fault-requires : goal.entry_fault-requires
entry_fault-requires c = record {
  near = near_of (decode_entry c.args.airport.now c.args.bytes.now) c.in-Err.fault
      (λ found e. fault_is_near c.args.airport.now c.args.bytes.now found (λ i. omega (arith, c.type_inv.bytes i)) e) c.in-Err.ensures.is;
}
