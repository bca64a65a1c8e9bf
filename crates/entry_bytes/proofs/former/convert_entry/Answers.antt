use Rattle.std.proofs.Common.{subst, sym, ◌∙◌, arith}
use Rattle.entry_bytes.specs.Faults.{IsFirstFault}
use Rattle.entry_bytes.specs.Former.{former_fields}
use Rattle.entry_bytes.specs.Gives.{entry_fault}
use Rattle.entry_bytes.specs.Parsing.{decode_former_entry}
use Rattle.entry_bytes.proofs.CommandsOf.{command_of}
use Rattle.entry_bytes.proofs.FormerSpelt.{former_entry_is_spelt, former_fault_is_first, former_fault_is_near, none_was_spelt}
use Rattle.entry_bytes.proofs.WholeSpelt.{near_of, read_of}
use Rattle.entry_bytes.proofs.former.convert_entry.Goals as goal

pub encode_entry-requires : goal.encode_entry-requires
encode_entry-requires c =
    let is = former_entry_is_spelt c.args.airport.now c.args.bytes.now c.in-Ok.entry (λ i. omega (arith, c.type_inv.bytes i)) c.in-Ok.ensures.is in
    record { call = is.0.0.call; command = command_of c.args.airport.now c.in-Ok.entry.command is.0.0.command }

pub entry_fault-requires : goal.entry_fault-requires
entry_fault-requires c = record {
  near = near_of (decode_former_entry c.args.airport.now c.args.bytes.now) c.in-Err.fault
      (λ found e. former_fault_is_near c.args.airport.now c.args.bytes.now found (λ i. omega (arith, c.type_inv.bytes i)) e) c.in-Err.ensures.is;
}

pub returns-in-Ok-encode_entry-clause-converts : goal.returns-in-Ok-encode_entry-clause-converts
returns-in-Ok-encode_entry-clause-converts c =
    let is = former_entry_is_spelt c.args.airport.now c.args.bytes.now c.in-Ok.entry (λ i. omega (arith, c.type_inv.bytes i)) c.in-Ok.ensures.is in
    (c.in-Ok.entry, is.0, is.1, c.in-Ok-encode_entry.ensures.text)

pub returns-clause-none : goal.returns-clause-none
returns-clause-none c = λ kept.
    let read = read_of (decode_former_entry c.args.airport.now c.args.bytes.now) c.in-Err.fault c.in-Err.ensures.is (λ e. kept (c.entry_fault.ensures.is ∙ e)) in
    none_was_spelt c.args.airport.now c.args.bytes.now (entry_fault c.in-Err.fault) read

pub returns-clause-fault : goal.returns-clause-fault
returns-clause-fault c = λ kept.
    let read = read_of (decode_former_entry c.args.airport.now c.args.bytes.now) c.in-Err.fault c.in-Err.ensures.is (λ e. kept (c.entry_fault.ensures.is ∙ e)) in
    subst (IsFirstFault former_fields c.args.airport.now c.args.bytes.now) (sym c.entry_fault.ensures.is)
    (former_fault_is_first c.args.airport.now c.args.bytes.now (entry_fault c.in-Err.fault) (λ i. omega (arith, c.type_inv.bytes i)) read)
