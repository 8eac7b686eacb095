use Rattle.std.proofs.Common.{◌≡◌, take}
use Rattle.run_plane.proofs.copies.copy_path.Given as goal

abbrev pub invariant-loop-arc : goal.invariant-loop-arc
invariant-loop-arc l = l.copy ≡ take l.arc-index l.path
