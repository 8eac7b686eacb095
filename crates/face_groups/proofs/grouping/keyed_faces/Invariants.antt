use Rattle.std.proofs.Common.{ℕ, ◌<◌, All, Contains}
use Rattle.face_groups.specs.Groups.{IsKeyed}
use Rattle.face_groups.proofs.grouping.keyed_faces.Given as goal

abbrev pub invariant-loop-n : goal.invariant-loop-n
invariant-loop-n g l =
    All (IsKeyed l.f (g.K.FaceKeys.is_keyed l.keys)) l.faces.items × ((k : ℕ) → k < l.n → IsKeyed l.f (g.K.FaceKeys.is_keyed l.keys) k → Contains l.faces.items k)
