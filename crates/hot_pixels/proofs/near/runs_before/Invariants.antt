use Rattle.std.proofs.Common.{◌<◌}
use Rattle.hot_pixels.proofs.near.runs_before.Given as goal

abbrev pub invariant-loop-level : goal.invariant-loop-level
invariant-loop-level l = 0 < l.size
