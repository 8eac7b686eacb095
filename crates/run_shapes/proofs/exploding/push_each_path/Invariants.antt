use Rattle.std.proofs.Common.{◌≡◌, ◌++◌, map, take}
use Rattle.run_shapes.specs.Exploding.{one_path}
use Rattle.run_shapes.proofs.exploding.push_each_path.Given as goal

abbrev pub invariant-loop-path : goal.invariant-loop-path
invariant-loop-path l = l.pieces.items ≡ l.fn.pieces.items ++ map one_path (take l.path-index l.paths)
