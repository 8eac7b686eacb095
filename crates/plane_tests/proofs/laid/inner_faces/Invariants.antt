use Rattle.std.specs.Prelude.{All}
use Rattle.face_sets.specs.Sets.{IsInnerFace}
use Rattle.plane_tests.proofs.laid.inner_faces.Given as goal

abbrev pub invariant-loop-number : goal.invariant-loop-number
invariant-loop-number l = All (IsInnerFace l.laid.faces) l.faces.items
