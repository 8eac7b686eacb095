use Rattle.std.proofs.Common.{◌≡◌, ◌<◌, ◌≤◌, ℕ, length}
use Rattle.plane_model.specs.Points.{GridPoint}
use Rattle.arc_table.specs.Steps.{StartsAt, AreLed}
use Rattle.arc_table.proofs.half_links.onward_of.Given as goal

abbrev pub invariant-loop-h : goal.invariant-loop-h
invariant-loop-h l = record {
  each : length l.onward.items ≡ length l.steps;
  ordered : l.first ≤ l.h;
  begins : (k : ℕ) (p : GridPoint) → k < l.first → StartsAt l.steps k p → StartsAt l.steps l.first p → ⊥;
  together : (p : GridPoint) → StartsAt l.steps l.first p → StartsAt l.steps l.h p;
  led : AreLed l.steps l.turns l.twins l.onward.items l.first;
}
