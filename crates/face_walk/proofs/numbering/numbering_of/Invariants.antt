use Rattle.std.proofs.Common.{◌≡◌, ◌<◌, ◌≤◌, length, take, All}
use Rattle.face_walk.specs.Numbering.{IsNumbering}
use Rattle.face_walk.proofs.numbering.numbering_of.Given as goal

abbrev pub invariant-loop-n : goal.invariant-loop-n
invariant-loop-n l =
    (length l.places.items ≡ l.n) × (l.count ≤ l.n) × All (λ k. k < l.count) l.places.items × IsNumbering (take l.n l.joining) l.places.items l.count
