use Rattle.std.proofs.Common.{◌≡◌, ◌-◌, take, sum_by}
use Rattle.run_sources.specs.Budget.{positions_in}
use Rattle.run_sources.proofs.sources.after_shapes.Given as goal

abbrev pub invariant-loop-shape : goal.invariant-loop-shape
invariant-loop-shape l = l.left ≡ l.room - sum_by positions_in (take l.shape-index l.shapes)
