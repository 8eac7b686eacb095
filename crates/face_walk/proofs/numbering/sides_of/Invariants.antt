use Rattle.std.proofs.Common.{◌≡◌, map}
use Rattle.face_walk.specs.Places.{signed_below}
use Rattle.face_walk.specs.Sides.{AreSides}
use Rattle.face_walk.proofs.ListedLemmas.{side_with}
use Rattle.face_walk.proofs.numbering.sides_of.Given as goal

abbrev pub invariant-loop-n : goal.invariant-loop-n
invariant-loop-n l = AreSides l.places l.n l.sides.items × (l.sides.items ≡ map (side_with l.places) (signed_below l.n))
