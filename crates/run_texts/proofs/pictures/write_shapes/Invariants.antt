use Rattle.std.proofs.Common.{take}
use Rattle.run_texts.specs.Pictures.{AreWritten}
use Rattle.run_texts.proofs.pictures.write_shapes.Given as goal

abbrev pub invariant-loop-i : goal.invariant-loop-i
invariant-loop-i l = AreWritten l.plane l.places l.keys l.rows (take l.i l.shapes) l.initial.out l.out
