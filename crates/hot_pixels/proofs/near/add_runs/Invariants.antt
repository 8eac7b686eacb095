use Rattle.std.proofs.Common.{◌<◌}
use Rattle.std.specs.Prelude.{All}
use Rattle.hot_pixels.specs.Near.{HoldsRun}
use Rattle.hot_pixels.proofs.near.add_runs.Given as goal

abbrev pub invariant-loop-level : goal.invariant-loop-level
invariant-loop-level l = record {
  size_positive : 0 < l.size;
  held : All (HoldsRun l.points) l.initial.runs.items → All (HoldsRun l.points) l.runs.items;
}
