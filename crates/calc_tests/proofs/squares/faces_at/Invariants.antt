use Rattle.std.specs.Prelude.{All}
use Rattle.face_sets.specs.Sets.{IsInnerFace}
use Rattle.calc_tests.proofs.squares.faces_at.Given as goal

abbrev pub invariant-loop-point : goal.invariant-loop-point
invariant-loop-point l = All (IsInnerFace l.plane.faces) l.faces.items
