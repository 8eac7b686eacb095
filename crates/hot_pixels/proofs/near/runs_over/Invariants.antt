use Rattle.std.specs.Prelude.{All}
use Rattle.hot_pixels.specs.Near.{HoldsRun}
use Rattle.hot_pixels.proofs.near.runs_over.Given as goal

abbrev pub invariant-loop-start : goal.invariant-loop-start
invariant-loop-start l = All (HoldsRun l.points) l.runs.items
