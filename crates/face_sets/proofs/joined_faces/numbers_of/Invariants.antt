use Rattle.std.proofs.Common.{◌≡◌, length, take}
use Rattle.face_sets.specs.Joined.{AreLeastNumbers}
use Rattle.face_sets.proofs.joined_faces.numbers_of.Given as goal

abbrev pub invariant-loop-side : goal.invariant-loop-side
invariant-loop-side l = (length l.numbers.items ≡ length l.joining) × AreLeastNumbers l.joining (take l.side-index l.sides) l.numbers.items
