use Rattle.std.proofs.Common.{subst, sym, ap, ◌-◌, List, ℕ, length}
use Rattle.std.specs.Prelude.{IfNone, IfSome}
use Rattle.json_read.specs.Faults.{FaultFits}
use Rattle.json_read.specs.Reading.{FaultsAt}
use Rattle.json_read.specs.Taking.{IsReadOtherwise, IsTakenText}
use Rattle.json_read.specs.declared.fault.JsonFault.{JsonFault}
use Rattle.json_read.specs.declared.reader.TheConstants.{MAX_DEPTH}
use Rattle.json_read.proofs.Viability.{fault_fits, is_fault}
use Rattle.json_read.proofs.reader.taking.parse_taking.Goals as goal

pub returns-in-Ok-clause-ok : goal.returns-in-Ok-clause-ok
returns-in-Ok-clause-ok g c =
    λ first. (let before = g.T.ItemTaker.took first c.args.taker.now in let now = g.T.ItemTaker.took first c.text_taking.new.taker in
    subst (λ (b : List ℕ). IfSome c.in-Ok.found (λ o. IsTakenText MAX_DEPTH before now c.args.name.now o.fields o.is_taken b)) c.new-reader.ensures.exact (c.in-Ok.ensures.taken first))

pub returns-in-Err-Fault-clause-fault : goal.returns-in-Err-Fault-clause-fault
returns-in-Err-Fault-clause-fault g c =
    let there = rw c.in-Err-Fault.field-0-is at (c.in-Err-Fault.ensures.taken c.args.taker.now) in
    let h : FaultsAt MAX_DEPTH c.in-Err-Fault.fault c.args.bytes.now c.text_taking.new.self.rest.now = subst (λ (b : List ℕ). FaultsAt MAX_DEPTH c.in-Err-Fault.fault b c.text_taking.new.self.rest.now) c.new-reader.ensures.exact there in
    subst (λ (r : JsonFault). FaultFits MAX_DEPTH c.args.bytes.now r) (sym c.fault_at.ensures.exact) (fault_fits MAX_DEPTH c.in-Err-Fault.fault c.args.bytes.now (length c.args.bytes.now - c.left.result) (is_fault MAX_DEPTH c.in-Err-Fault.fault c.args.bytes.now c.text_taking.new.self.rest.now (length c.args.bytes.now - c.left.result) (ap (λ (n : ℕ). length c.args.bytes.now - n) c.left.ensures.exact) h))

pub returns-in-Ok-clause-other : goal.returns-in-Ok-clause-other
returns-in-Ok-clause-other g c = subst (λ (bytes : List ℕ). IfNone c.in-Ok.found (IsReadOtherwise MAX_DEPTH c.args.name.now bytes)) c.new-reader.ensures.exact c.in-Ok.ensures.other
