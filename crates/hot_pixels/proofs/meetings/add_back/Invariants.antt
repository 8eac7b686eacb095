use Rattle.hot_pixels.proofs.MeetingLemmas.{IsWalked}
use Rattle.hot_pixels.proofs.meetings.add_back.Given as goal

abbrev pub invariant-loop-step : goal.invariant-loop-step
invariant-loop-step l = IsWalked l.meetings l.fn.last l.fn.points.items l.points.items l.at l._step
