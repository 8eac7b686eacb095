use Rattle.std.specs.Prelude.{All}
use Rattle.face_sets.specs.Sets.{IsSetOf}
use Rattle.calc_tests.proofs.squares.sets_at.Given as goal

abbrev pub invariant-loop-points : goal.invariant-loop-points
invariant-loop-points l = All (IsSetOf l.plane.faces) l.sets
