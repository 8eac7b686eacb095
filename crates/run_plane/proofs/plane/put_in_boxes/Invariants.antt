use Rattle.std.proofs.Common.{take}
use Rattle.run_plane.specs.LaidOut.{PutsInto}
use Rattle.run_plane.proofs.plane.put_in_boxes.Given as goal

abbrev pub invariant-loop-number : goal.invariant-loop-number
invariant-loop-number l = PutsInto (take l.number-index l.boxes) l.face l.initial.sets.items l.sets.items
