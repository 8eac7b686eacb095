use Rattle.std.proofs.Common.{◌≡◌, All, take}
use Rattle.arc_table.specs.Around.{first_step}
use Rattle.arc_table.proofs.table.ArcTable.begun_among.Given as goal

abbrev pub invariant-loop-a : goal.invariant-loop-a
invariant-loop-a l = All (λ a. first_step l.self a ≡ l.step → ⊥) (take l.a-index l.arcs)
