-- What stops a command is its first refusal.
use Rattle.std.proofs.Common.{◌≡◌, Option, None, Result, Err, ap, ◌∙◌}
use Rattle.table_terms.specs.Refusals.{first_refusal}
use Rattle.table_rows.specs.Refusals.{Answers}
use Rattle.table_rows.specs.declared.fault.TableFault.{TableFault}
use Rattle.table_rows.specs.declared.fault.TableFault.TheVariants.{Bad, Memory}
use Rattle.table_rows.specs.declared.fault.TableWhy.{TableWhy}
use Rattle.run_state.specs.Stops.{StopsFor, stop_of, table_refusal}
use Rattle.run_state.specs.declared.refusal.RefuseWhy.{RefuseWhy}
use Rattle.run_state.specs.declared.state.CommandStop.{CommandStop}
use Rattle.run_state.specs.declared.state.CommandStop.TheVariants as stop

-- a fault of a call on tables is its refusal, or want of memory
pub table_stops : {T : Type 0} (fault : TableFault) (wanted : Result T TableWhy) → Answers (Err fault) wanted → StopsFor (table_refusal wanted) (stop_of fault)
table_stops (Bad why) wanted h = ap table_refusal h
table_stops Memory wanted h = tt

-- the first of two refusals goes before the second
pub stops_first : (s : CommandStop) (a b : Option RefuseWhy) → StopsFor a s → StopsFor (first_refusal a b) s
stops_first (stop.Refused why) a b h = ap (λ (x : Option RefuseWhy). first_refusal x b) h
stops_first stop.Memory a b h = tt

-- and the second counts where there is no first
pub stops_second : (s : CommandStop) (a b : Option RefuseWhy) → a ≡ None → StopsFor b s → StopsFor (first_refusal a b) s
stops_second (stop.Refused why) a b e h = ap (λ (x : Option RefuseWhy). first_refusal x b) e ∙ h
stops_second stop.Memory a b e h = tt
