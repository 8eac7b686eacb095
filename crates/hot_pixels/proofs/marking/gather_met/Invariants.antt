use Rattle.std.proofs.Common.{take, All}
use Rattle.hot_pixels.specs.Meetings.{AddsMeetings}
use Rattle.hot_pixels.specs.Marking.{IsSeen}
use Rattle.hot_pixels.proofs.marking.gather_met.Given as goal

abbrev pub invariant-loop-k : goal.invariant-loop-k
invariant-loop-k l = AddsMeetings l.edges l.p l.fn.lasts.items l.fn.meetings.items l.lasts.items l.meetings.items × All (IsSeen l.edges l.crowded l.lasts.items l.meetings.items l.is_inner l.p) (take l.k l.near)
