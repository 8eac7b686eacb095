use Rattle.std.proofs.Common.{take}
use Rattle.hot_pixels.specs.Marking.{AreMarks}
use Rattle.hot_pixels.proofs.marking.marks_of.Given as goal

abbrev pub invariant-loop-p : goal.invariant-loop-p
invariant-loop-p l = AreMarks (take l.p-index l.points) l.edges l.crowded.items l.lasts.items l.meetings.items l.inner.items
