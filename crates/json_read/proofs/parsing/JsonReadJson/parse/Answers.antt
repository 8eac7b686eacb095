use Rattle.std.proofs.Common.{subst, sym, ap, ◌-◌, List, ℕ, length}
use Rattle.json_read.specs.Faults.{FaultFits}
use Rattle.json_read.specs.Reading.{FaultsAt}
use Rattle.json_read.specs.declared.fault.JsonFault.{JsonFault}
use Rattle.json_read.specs.declared.reader.TheConstants.{MAX_DEPTH}
use Rattle.json_read.proofs.Viability.{fault_fits, is_fault}
use Rattle.json_read.proofs.ProperValues.{text_proper}
use Rattle.json_read.proofs.parsing.JsonReadJson.parse.Goals as goal

pub returns-in-Ok-clause-proper : goal.returns-in-Ok-clause-proper
returns-in-Ok-clause-proper c =
    let read = c.in-Ok.ensures.read in
    text_proper read

pub returns-in-Err-Fault-clause-fault : goal.returns-in-Err-Fault-clause-fault
returns-in-Err-Fault-clause-fault c =
    let there = rw c.in-Err-Fault.field-0-is at c.in-Err-Fault.ensures.read in
    let h : FaultsAt MAX_DEPTH c.in-Err-Fault.fault c.args.bytes.now c.text.new.self.rest.now = subst (λ (b : List ℕ). FaultsAt MAX_DEPTH c.in-Err-Fault.fault b c.text.new.self.rest.now) c.new-reader.ensures.exact there in
    subst (λ (r : JsonFault). FaultFits MAX_DEPTH c.args.bytes.now r) (sym c.fault_at.ensures.exact) (fault_fits MAX_DEPTH c.in-Err-Fault.fault c.args.bytes.now (length c.args.bytes.now - c.left.result) (is_fault MAX_DEPTH c.in-Err-Fault.fault c.args.bytes.now c.text.new.self.rest.now (length c.args.bytes.now - c.left.result) (ap (λ (n : ℕ). length c.args.bytes.now - n) c.left.ensures.exact) h))
