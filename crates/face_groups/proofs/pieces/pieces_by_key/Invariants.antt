use Rattle.std.proofs.Common.{take}
use Rattle.face_groups.specs.Pieces.{ArePieces}
use Rattle.face_groups.proofs.pieces.pieces_by_key.Given as goal

abbrev pub invariant-loop-set : goal.invariant-loop-set
invariant-loop-set g l = ArePieces l.f (take l.set-index l.set-items) l.pieces.items
