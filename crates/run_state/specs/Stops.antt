-- Why a command stops: for its refusal, or for want of memory.
use Rattle.std.specs.Prelude.{◌≡◌, Option, Some, None, Result, Ok, Err}
use Rattle.table_rows.specs.declared.fault.TableFault.{TableFault}
use Rattle.table_rows.specs.declared.fault.TableFault.TheVariants as fault
use Rattle.table_rows.specs.declared.fault.TableWhy.{TableWhy}
use Rattle.run_state.specs.declared.refusal.RefuseWhy.{RefuseWhy}
use Rattle.run_state.specs.declared.refusal.RefuseWhy.TheVariants.{Table}
use Rattle.run_state.specs.declared.state.CommandStop.{CommandStop}
use Rattle.run_state.specs.declared.state.CommandStop.TheVariants.{Refused, Memory}

-- a command stops for a refusal of which this holds, or for want of memory
abbrev pub StopsAs : (Option RefuseWhy → Type 0) → CommandStop → Type 0
StopsAs Refuses (Refused why) = Refuses (Some why)
StopsAs Refuses Memory = Unit {0}

-- for its refusal, or for want of memory
abbrev pub StopsFor : Option RefuseWhy → CommandStop → Type 0
StopsFor refusal stop = StopsAs (λ (told : Option RefuseWhy). refusal ≡ told) stop

-- an answer's refusal
abbrev pub refusal_of : {T : Type 0} → Result T RefuseWhy → Option RefuseWhy
refusal_of (Ok answer) = None
refusal_of (Err why) = Some why

-- the refusal of an answer on tables
abbrev pub table_refusal : {T : Type 0} → Result T TableWhy → Option RefuseWhy
table_refusal (Ok answer) = None
table_refusal (Err why) = Some (Table why)

-- what a fault of a call on tables stops a command by
abbrev pub stop_of : TableFault → CommandStop
stop_of (fault.Bad why) = Refused (Table why)
stop_of fault.Memory = Memory
