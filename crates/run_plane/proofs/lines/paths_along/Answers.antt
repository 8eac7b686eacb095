use Rattle.std.proofs.Common.{arith}
use Rattle.run_plane.proofs.LineLemmas.{paths_more}
use Rattle.run_plane.proofs.lines.paths_along.Goals as goal

pub loop-path-preserved : goal.loop-path-preserved
loop-path-preserved c =
    paths_more c.args.arcs.now c.args.lines.now c.loop-path.path-index c.path-item.result c.loop-path.paths c.add_along.new.paths (omega arith) c.path-item.is c.loop-path.invariant c.in_ok-add_along.ensures.along
