use Rattle.std.proofs.Common.{take}
use Rattle.std.specs.List.{AllZip, enumerate_from}
use Rattle.run_tables.specs.Pieces.{IsPiece}
use Rattle.run_tables.proofs.splitting.pieces_of.Given as goal

abbrev pub invariant-loop-i : goal.invariant-loop-i
invariant-loop-i l = AllZip (IsPiece l.layer) (enumerate_from 1 (take l.i l.items)) l.pieces.items
