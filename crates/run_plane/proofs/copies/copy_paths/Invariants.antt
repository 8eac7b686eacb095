use Rattle.std.proofs.Common.{◌≡◌, take}
use Rattle.run_plane.proofs.copies.copy_paths.Given as goal

abbrev pub invariant-loop-path : goal.invariant-loop-path
invariant-loop-path l = l.copy ≡ take l.path-index l.path-items
