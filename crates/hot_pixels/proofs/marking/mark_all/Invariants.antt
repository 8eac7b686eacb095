use Rattle.std.proofs.Common.{take, All}
use Rattle.hot_pixels.specs.Marking.{IsMarked, KeepMarks}
use Rattle.hot_pixels.proofs.marking.mark_all.Given as goal

abbrev pub invariant-loop-k : goal.invariant-loop-k
invariant-loop-k l = KeepMarks l.fn.marks.items l.marks.items × All (IsMarked l.marks.items) (take l.k l.near)
